-- Runs in which a weaker line of a part is kept and the promise at the ports is broken.
use Rattle.std.specs.Prelude.{ℕ, true, false, [], ◌∷◌, Some, nat_eq, nat_lt, if◌then◌else◌, ◌*◌}
use Rattle.memory_runs.specs.Views.{Signals, System, Run}
use Rattle.memory_machines.specs.Link.{Port}
use Rattle.runs_tests.specs.Examples.{signal, always, shape_of, host_of, agent_of, system_of}
use Rattle.runs_tests.specs.Joint.{no_answers}

-- a beat without a lane before an agent without byte enables
abbrev pub laneless_signals : ℕ → Signals
laneless_signals enables =
    record {
      read =
          always 0;
      write = signal (1 ∷ []);
      address = always 0;
      word = signal (9 ∷ []);
      enables = always enables;
      count = always 1;
    }

abbrev pub laneless_system : System
laneless_system = system_of (host_of 1 true) (agent_of 1 false 256) (0 ∷ [])

abbrev pub laneless_run : Run
laneless_run = record {
  at_host =
      λ h. record {
        signals =
            laneless_signals 0;
        waitrequest = always 0;
        readdata = always 0;
        readdatavalid = always 0;
        response = always 0;
      };
  at_agent =
      λ a. record {
        signals =
            laneless_signals 1;
        waitrequest =
            always 0;
        readdata = always 0;
        readdatavalid = always 0;
        response = always 0;
        grant = always 0;
      };
}

abbrev pub laneless_port : Port
laneless_port =
    record {
      shape =
          shape_of 1 1 true;
      commands =
          record { signals = laneless_signals 0; more = always 0; tag = always 0; waitrequest = always 0 };
      answers = no_answers;
    }

-- a read of two bytes that goes on in two pieces while a read for another agent isn't answered
abbrev pub split_system : System
split_system = record {
  hosts = 1;
  agents = 2;
  host = λ h. host_of 2 true;
  agent = λ a. agent_of 1 true 256;
  place = λ h kind address. if nat_lt address 256 then Some 0 else Some 1;
  base = λ h a. 256 * a;
  joined = λ a. 0 ∷ [];
  shares = λ h a. 1;
  stages = 0;
}

abbrev pub split_run : Run
split_run = record {
  at_host = λ h. record {
    signals =
        record {
          read =
              signal (1 ∷ 1 ∷ 1 ∷ []);
          write =
              always 0;
          address = signal (256 ∷ 0 ∷ 0 ∷ []);
          word = always 0;
          enables = always 3;
          count = always 1;
        };
    waitrequest = signal (0 ∷ 1 ∷ 0 ∷ []);
    readdata = always 0;
    readdatavalid = always 0;
    response = always 0;
  };
  at_agent = λ a. record {
    signals =
        record {
          read =
              if nat_eq a 0 then signal (0 ∷ 1 ∷ 1 ∷ []) else signal (1 ∷ 1 ∷ []);
          write =
              always 0;
          address = signal (0 ∷ 0 ∷ 1 ∷ []);
          word = always 0;
          enables = always 1;
          count = always 1;
        };
    waitrequest = always 0;
    readdata = always 0;
    readdatavalid = always 0;
    response = always 0;
    grant = always 0;
  };
}

-- what the route shows for agent 0
abbrev pub split_port : Port
split_port = record {
  shape = shape_of 2 1 true;
  commands = record {
    signals =
        record {
          read =
              signal (0 ∷ 1 ∷ 1 ∷ []);
          write = always 0;
          address = always 0;
          word = always 0;
          enables = always 3;
          count = always 1;
        };
    more = always 0;
    tag = always 0;
    waitrequest = signal (0 ∷ 1 ∷ 0 ∷ []);
  };
  answers = no_answers;
}
