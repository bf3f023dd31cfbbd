-- Two hosts, one agent and one pipeline stage: host 0 writes a byte, host 1 reads it, and every part is there.
use Rattle.std.specs.Prelude.{ℕ, true, [], ◌∷◌, Some, nat_eq, if◌then◌else◌}
use Rattle.memory_runs.specs.Views.{Signals, System, Run}
use Rattle.memory_machines.specs.Paths.{AnswerView}
use Rattle.memory_machines.specs.Link.{Port}
use Rattle.memory_machines.specs.Lines.{Inside, Holds}
use Rattle.runs_tests.specs.Examples.{signal, always, shape_of, host_of, agent_of}

abbrev pub joint_system : System
joint_system = record {
  hosts = 2;
  agents = 1;
  host = λ h. host_of 1 true;
  agent = λ a. agent_of 1 true 256;
  place = λ h kind address. Some 0;
  base = λ h a. 0;
  joined = λ a. 0 ∷ 1 ∷ [];
  shares = λ h a. 1;
  stages = 1;
}

abbrev pub writing : Signals
writing =
    record {
      read =
          always 0;
      write = signal (1 ∷ []);
      address = always 0;
      word = signal (0x11 ∷ []);
      enables = always 1;
      count = always 1;
    }

abbrev pub reading : Signals
reading =
    record
    { read = signal (1 ∷ 1 ∷ []); write = always 0; address = always 0; word = always 0; enables = always 1; count = always 1 }

abbrev pub both : Signals
both =
    record {
      read =
          signal (0 ∷ 1 ∷ []);
      write =
          signal (1 ∷ []);
      address = always 0;
      word = signal (0x11 ∷ []);
      enables = always 1;
      count = always 1;
    }

abbrev pub later : Signals
later =
    record {
      read =
          signal (0 ∷ 0 ∷ 1 ∷ []);
      write =
          signal (0 ∷ 1 ∷ []);
      address = always 0;
      word = signal (0 ∷ 0x11 ∷ []);
      enables = always 1;
      count = always 1;
    }

abbrev pub no_answers : AnswerView
no_answers = record { valid = always 0; word = always 0; code = always 0 }

abbrev pub last_answers : AnswerView
last_answers = record { valid = signal (0 ∷ 0 ∷ 0 ∷ 0 ∷ 1 ∷ []); word = signal (0 ∷ 0 ∷ 0 ∷ 0 ∷ 0x11 ∷ []); code = always 0 }

abbrev pub sooner_answers : AnswerView
sooner_answers = record { valid = signal (0 ∷ 0 ∷ 0 ∷ 1 ∷ []); word = signal (0 ∷ 0 ∷ 0 ∷ 0x11 ∷ []); code = always 0 }

abbrev pub joint_run : Run
joint_run = record {
  at_host =
      λ h. if nat_eq h 0
      then record {
        signals =
            writing;
        waitrequest = always 0;
        readdata = no_answers.word;
        readdatavalid = no_answers.valid;
        response = always 0;
      }
      else record {
        signals =
            reading;
        waitrequest =
            signal (1 ∷ []);
        readdata = last_answers.word;
        readdatavalid = last_answers.valid;
        response = always 0;
      };
  at_agent =
      λ a. record {
        signals =
            later;
        waitrequest =
            always 0;
        readdata =
            sooner_answers.word;
        readdatavalid = sooner_answers.valid;
        response = always 0;
        grant = signal (0 ∷ 0 ∷ 1 ∷ []);
      };
}

abbrev pub host_port : ℕ → Port
host_port h =
    if nat_eq h 0
    then record {
      shape =
          shape_of 1 1 true;
      commands =
          record { signals = writing; more = always 0; tag = always h; waitrequest = always 0 };
      answers = no_answers;
    }
    else record {
      shape =
          shape_of 1 1 true;
      commands =
          record { signals = reading; more = always 0; tag = always h; waitrequest = signal (1 ∷ []) };
      answers = last_answers;
    }

abbrev pub joint_inside : Inside
joint_inside = record {
  after_host = host_port;
  after_route = λ h a. host_port h;
  before_arbiter = λ h a. host_port h;
  after_arbiter = λ a. record {
    port =
        record {
          shape =
              shape_of 1 1 true;
          commands =
              record { signals = both; more = always 0; tag = signal (0 ∷ 1 ∷ []); waitrequest = always 0 };
          answers = last_answers;
        };
    answer_tag = signal (0 ∷ 0 ∷ 0 ∷ 0 ∷ 1 ∷ []);
  };
  before_agent = λ a. record {
    port =
        record {
          shape =
              shape_of 1 1 true;
          commands =
              record { signals = later; more = always 0; tag = signal (0 ∷ 0 ∷ 1 ∷ []); waitrequest = always 0 };
          answers =
              sooner_answers;
        };
    answer_tag = signal (0 ∷ 0 ∷ 0 ∷ 1 ∷ []);
  };
}

abbrev pub joint_holds : Holds
joint_holds = record { host = 0; route = 0; links = 0; arbiter = 0; pipe = 1; agent = 0 }
