-- A right system with bursts and a pipeline stage: host 0 shows bursts of two words of four bytes, with all lanes, host 1 single
-- words with byte enables; agent 0 has byte enables, agent 1 has none, and both take bursts of up to four words. Cutters into
-- single words lead from host 0 to both agents, what drops beats without a lane from host 1 to agent 1; host 1 is wired to agent
-- 0. A stage stands before each agent.
-- Host 0 writes a burst to agent 0, which waits once, reads it, reads a burst of no agent and writes a word to agent 1. Host 1
-- writes two lanes and none to agent 1, reads two lanes of it and none, and writes two lanes to agent 0.
use Rattle.std.specs.Prelude.{ℕ, zero, suc, ◌/◌, ◌%◌, true, false, List, [], ◌∷◌, Option, Some, None, nat_eq, nat_lt, if◌then◌else◌}
use Rattle.histories.specs.History.{is_raised}
use Rattle.memory_runs.specs.Views.{Signals, Shape, System, Run}
use Rattle.memory_runs.specs.Commands.{byte_address}
use Rattle.memory_machines.specs.Paths.{AnswerView}
use Rattle.memory_machines.specs.Link.{Port}
use Rattle.memory_machines.specs.Lines.{TaggedPort}
use Rattle.memory_machines.specs.Machines.{Stage}
use Rattle.memory_machines.specs.Turns.{grant_before, seats_of}
use Rattle.memory_parts.specs.Route.{kind_at}
use Rattle.memory_links.specs.Cutters.{reach_longest}
use Rattle.memory_links.specs.Driven.{CutInputs, DropInputs, PipeInputs, cut_above, cut_below, drop_above, drop_below, pipe_run}
use Rattle.memory_links.specs.Pipes.{PipeSides, tagged_side}
use Rattle.memory_awake.specs.RowSystem.{RowPorts}
use Rattle.memory_awake.specs.Theorem.{States}
use Rattle.memory_awake.specs.Wires.{with_bursts}
use Rattle.runs_tests.specs.Examples.{signal, always, quiet}
use Rattle.runs_tests.specs.PartRows.{answers_in}
use Rattle.runs_tests.specs.TwoByTwo.{first_or, of_two, plain_shape, burst_shape, small_agent, two_by_two, gated, reads_queued}

abbrev pub host_shape : ℕ → Shape
host_shape h = record { word_bytes = 4; unit_bytes = 1; burst_bits = first_or 2 1 h; has_enables = first_or false true h }

abbrev pub burst_system : System
burst_system =
    two_by_two (λ h. record {
      shape =
          host_shape h;
      has_burst = first_or true false h;
      has_readdatavalid = true;
      has_response = false;
    }) (λ a. small_agent 4
    (first_or true false a)) 1

-- ---- what the hosts show: a beat that waits stands on

abbrev pub first_host : Signals
first_host = record {
  read = signal (0 ∷ 0 ∷ 1 ∷ 1 ∷ 1 ∷ 1 ∷ 1 ∷ 1 ∷ 1 ∷ 1 ∷ []);
  write = signal (1 ∷ 1 ∷ 0 ∷ 0 ∷ 0 ∷ 0 ∷ 0 ∷ 0 ∷ 0 ∷ 0 ∷ 1 ∷ []);
  address = signal (8 ∷ 8 ∷ 8 ∷ 96 ∷ 96 ∷ 96 ∷ 96 ∷ 96 ∷ 96 ∷ 96 ∷ 16 ∷ []);
  word = signal (0x44332211 ∷ 0x88776655 ∷ 0 ∷ 0 ∷ 0 ∷ 0 ∷ 0 ∷ 0 ∷ 0 ∷ 0 ∷ 0xc0b0a09 ∷ []);
  enables = always 15;
  count = λ c. if nat_lt c 10 then 2 else 1;
}

abbrev pub second_host : Signals
second_host = record {
  read = signal (0 ∷ 0 ∷ 1 ∷ 1 ∷ 1 ∷ 1 ∷ 1 ∷ 1 ∷ []);
  write = signal (1 ∷ 1 ∷ 0 ∷ 0 ∷ 0 ∷ 0 ∷ 0 ∷ 0 ∷ 1 ∷ []);
  address = signal (20 ∷ 20 ∷ 20 ∷ 20 ∷ 20 ∷ 20 ∷ 20 ∷ 20 ∷ 4 ∷ []);
  word = signal (0xbbaa ∷ 0x5555 ∷ 0 ∷ 0 ∷ 0 ∷ 0 ∷ 0 ∷ 0 ∷ 0xddcc ∷ []);
  enables = signal (3 ∷ 0 ∷ 3 ∷ 0 ∷ 0 ∷ 0 ∷ 0 ∷ 0 ∷ 3 ∷ []);
  count = always 1;
}

abbrev pub asked : ℕ → Signals
asked h = of_two first_host second_host quiet h

-- the first beat of the write burst is joined to the second one
abbrev pub joined : ℕ → ℕ → ℕ
joined h = signal (first_or (1 ∷ []) [] h)

-- ---- the stages, between what the arbiters show and the agents

abbrev pub piping : ℕ → PipeInputs
piping a = record {
  stages = 1;
  shape = burst_shape 4;
  inputs = record {
    signals = record {
      read = signal (first_or (0 ∷ 0 ∷ 1 ∷ 1 ∷ 1 ∷ []) (0 ∷ 0 ∷ 1 ∷ []) a);
      write = signal (first_or (1 ∷ 1 ∷ 0 ∷ 0 ∷ 0 ∷ 0 ∷ 0 ∷ 0 ∷ 1 ∷ []) (1 ∷ 0 ∷ 0 ∷ 0 ∷ 0 ∷ 0 ∷ 0 ∷ 0 ∷ 0 ∷ 0 ∷ 1 ∷ []) a);
      address =
          signal (first_or (8 ∷ 12 ∷ 8 ∷ 12 ∷ 12 ∷ 0 ∷ 0 ∷ 0 ∷ 4 ∷ []) (20 ∷ 0 ∷ 20 ∷ 0 ∷ 0 ∷ 0 ∷ 0 ∷ 0 ∷ 0 ∷ 0 ∷ 16 ∷ []) a);
      word =
          signal
          (first_or (0x44332211 ∷ 0x88776655 ∷ 0 ∷ 0 ∷ 0 ∷ 0 ∷ 0 ∷ 0 ∷ 0xddcc ∷ [])
          (0xbbaa ∷ 0 ∷ 0 ∷ 0 ∷ 0 ∷ 0 ∷ 0 ∷ 0 ∷ 0 ∷ 0 ∷ 0xc0b0a09 ∷ []) a);
      enables =
          signal (first_or (15 ∷ 15 ∷ 15 ∷ 15 ∷ 15 ∷ 0 ∷ 0 ∷ 0 ∷ 3 ∷ []) (3 ∷ 0 ∷ 3 ∷ 0 ∷ 0 ∷ 0 ∷ 0 ∷ 0 ∷ 0 ∷ 0 ∷ 15 ∷ []) a);
      count = signal (first_or (1 ∷ 1 ∷ 1 ∷ 1 ∷ 1 ∷ 0 ∷ 0 ∷ 0 ∷ 1 ∷ []) (1 ∷ 0 ∷ 1 ∷ 0 ∷ 0 ∷ 0 ∷ 0 ∷ 0 ∷ 0 ∷ 0 ∷ 1 ∷ []) a);
    };
    more = signal (first_or (1 ∷ 0 ∷ 1 ∷ []) [] a);
    tag = signal (first_or (0 ∷ 0 ∷ 0 ∷ 0 ∷ 0 ∷ 0 ∷ 0 ∷ 0 ∷ 1 ∷ []) (1 ∷ 0 ∷ 1 ∷ []) a);
    waitrequest = signal (first_or (0 ∷ 0 ∷ 1 ∷ []) [] a);
    answers =
        first_or (answers_in (0 ∷ 0 ∷ 0 ∷ 0 ∷ 0 ∷ 0 ∷ 1 ∷ 1 ∷ []) (0 ∷ 0 ∷ 0 ∷ 0 ∷ 0 ∷ 0 ∷ 0x44332211 ∷ 0x88776655 ∷ []))
        (answers_in (0 ∷ 0 ∷ 0 ∷ 0 ∷ 0 ∷ 1 ∷ []) (0 ∷ 0 ∷ 0 ∷ 0 ∷ 0 ∷ 0xbbaa ∷ [])) a;
  };
  answer_tag = signal (first_or [] (0 ∷ 0 ∷ 0 ∷ 0 ∷ 1 ∷ 1 ∷ []) a);
}

abbrev pub pipe_of : ℕ → PipeSides
pipe_of a = pipe_run (piping a)

abbrev pub after_arbiter : ℕ → TaggedPort
after_arbiter a = tagged_side (pipe_of a) 0

abbrev pub before_agent : ℕ → TaggedPort
before_agent a = tagged_side (pipe_of a) 1

-- ---- the links

-- the words that the arbiter gives a host
abbrev pub given_to : ℕ → List ℕ → AnswerView
given_to a valid = record { valid = signal valid; word = (after_arbiter a).answers.word; code = (after_arbiter a).answers.code }

-- host 0 to an agent
abbrev pub cutting : ℕ → CutInputs
cutting a = record {
  reach = reach_longest 1;
  longest = 1;
  shape = host_shape 0;
  below = plain_shape 4;
  inputs = record {
    signals =
        gated first_host (first_or (0 ∷ 0 ∷ 1 ∷ []) [] a)
        (first_or (1 ∷ 1 ∷ []) (0 ∷ 0 ∷ 0 ∷ 0 ∷ 0 ∷ 0 ∷ 0 ∷ 0 ∷ 0 ∷ 0 ∷ 1 ∷ []) a);
    more = joined 0;
    tag = always 0;
    waitrequest =
        signal
        (first_or (0 ∷ 0 ∷ 0 ∷ 1 ∷ 0 ∷ 1 ∷ 1 ∷ 1 ∷ 1 ∷ 1 ∷ 1 ∷ 1 ∷ []) (1 ∷ 1 ∷ 1 ∷ 1 ∷ 1 ∷ 1 ∷ 1 ∷ 1 ∷ 1 ∷ 1 ∷ 0 ∷ 1 ∷ []) a);
    answers = given_to a (first_or (0 ∷ 0 ∷ 0 ∷ 0 ∷ 0 ∷ 0 ∷ 0 ∷ 1 ∷ 1 ∷ []) [] a);
  };
}

-- host 1 to agent 1
abbrev pub dropping : DropInputs
dropping = record {
  shape = plain_shape 4;
  below = burst_shape 4;
  room = 2;
  inputs = record {
    signals = gated second_host (0 ∷ 0 ∷ 1 ∷ 1 ∷ 1 ∷ 1 ∷ 1 ∷ 1 ∷ []) (1 ∷ 1 ∷ []);
    more = joined 1;
    tag = always 1;
    waitrequest = signal (0 ∷ 1 ∷ 0 ∷ 1 ∷ 1 ∷ 1 ∷ 1 ∷ 1 ∷ 1 ∷ 1 ∷ 1 ∷ 1 ∷ []);
    answers = given_to 1 (0 ∷ 0 ∷ 0 ∷ 0 ∷ 0 ∷ 0 ∷ 1 ∷ []);
  };
}

abbrev pub wire : Port
wire = record {
  shape = plain_shape 4;
  commands =
      record {
        signals =
            gated second_host [] (0 ∷ 0 ∷ 0 ∷ 0 ∷ 0 ∷ 0 ∷ 0 ∷ 0 ∷ 1 ∷ []);
        more =
            joined 1;
        tag = always 1;
        waitrequest = signal (1 ∷ 1 ∷ 1 ∷ 1 ∷ 1 ∷ 1 ∷ 1 ∷ 1 ∷ 0 ∷ 1 ∷ 1 ∷ 1 ∷ []);
      };
  answers = given_to 0 [];
}

-- hosts past the second show nothing
abbrev pub no_port : Port
no_port =
    record {
      shape =
          plain_shape 4;
      commands =
          record { signals = quiet; more = always 0; tag = always 0; waitrequest = always 0 };
      answers = given_to 0 [];
    }

abbrev pub after_route : ℕ → ℕ → Port
after_route h a = of_two (cut_above (cutting a)) (first_or wire (drop_above dropping) a) no_port h

abbrev pub below_cutter : ℕ → ℕ → Port
below_cutter h a = first_or (cut_below (cutting a)) (after_route h a) h

abbrev pub below_dropper : ℕ → ℕ → Port
below_dropper h a = of_two (cut_below (cutting a)) (first_or wire (drop_below dropping) a) no_port h

-- the agents take bursts, so the wires before the arbiters lead to ports with bursts
abbrev pub before_arbiter : ℕ → ℕ → Port
before_arbiter h a = with_bursts 3 (below_dropper h a)

-- ---- the other boundaries and the ports of the components

abbrev pub after_host : ℕ → Port
after_host h = record {
  shape = host_shape h;
  commands =
      record {
        signals =
            asked h;
        more =
            joined h;
        tag =
            always 0;
        waitrequest =
            signal
            (first_or (0 ∷ 0 ∷ 0 ∷ 1 ∷ 1 ∷ 1 ∷ 1 ∷ 1 ∷ 1 ∷ 0 ∷ 0 ∷ 1 ∷ [])
            (0 ∷ 0 ∷ 0 ∷ 1 ∷ 1 ∷ 1 ∷ 1 ∷ 0 ∷ 0 ∷ 1 ∷ 1 ∷ 1 ∷ []) h);
      };
  answers =
      first_or
      (answers_in (0 ∷ 0 ∷ 0 ∷ 0 ∷ 0 ∷ 0 ∷ 0 ∷ 1 ∷ 1 ∷ 0 ∷ 1 ∷ 1 ∷ []) (0 ∷ 0 ∷ 0 ∷ 0 ∷ 0 ∷ 0 ∷ 0 ∷ 0x44332211 ∷ 0x88776655 ∷ []))
      (answers_in (0 ∷ 0 ∷ 0 ∷ 0 ∷ 0 ∷ 0 ∷ 1 ∷ 0 ∷ 1 ∷ []) (0 ∷ 0 ∷ 0 ∷ 0 ∷ 0 ∷ 0 ∷ 0xbbaa ∷ [])) h;
}

abbrev pub burst_ports : RowPorts
burst_ports =
    record {
      after_host =
          after_host;
      after_route =
          after_route;
      below_cutter =
          below_cutter;
      above_dropper =
          below_cutter;
      before_arbiter = before_arbiter;
      lower = λ a i. if nat_eq i 0 then before_agent a else after_arbiter a;
    }

abbrev pub burst_run : Run
burst_run = record {
  at_host =
      λ h. record {
        signals =
            asked h;
        waitrequest =
            (after_host h).commands.waitrequest;
        readdata =
            (after_host h).answers.word;
        readdatavalid = (after_host h).answers.valid;
        response = always 0;
      };
  at_agent = λ a. record {
    signals =
        record (before_agent a).commands.signals {
          address =
              λ c. (before_agent a).commands.address c % 16 / 4;
          enables = first_or (before_agent a).commands.enables (always 15) a;
        };
    waitrequest = (before_agent a).commands.waitrequest;
    readdata = (before_agent a).answers.word;
    readdatavalid = (before_agent a).answers.valid;
    response = always 0;
    grant = (before_agent a).commands.tag;
  };
}

-- ---- the registers

-- the write burst is under way: the route keeps its place, and a beat is left
abbrev pub in_burst : ℕ → ℕ → ℕ
in_burst h = signal (first_or (0 ∷ 1 ∷ []) [] h)

abbrev pub place_before : ℕ → ℕ → Option ℕ
place_before h zero = None
place_before h (suc c) =
    if is_raised (in_burst h c) then place_before h c
    else burst_system.place h (kind_at (after_host h) c) (byte_address (host_shape h) ((asked h).address c))

-- the place of the last read that was taken
abbrev pub owing_by : ℕ → ℕ → Option ℕ
owing_by h c = if nat_lt c 3 then None else first_or (if nat_lt c 10 then Some 0 else None) (Some 1) h

abbrev pub stage_of : ℕ → Stage
stage_of a = record {
  depth = 2;
  shape = burst_shape 4;
  sides =
      record {
        commands_above =
            (pipe_of a).commands 0;
        answers_above =
            (pipe_of a).answers 0;
        commands_below = (pipe_of a).commands 1;
        answers_below = (pipe_of a).answers 1;
      };
  queue = (pipe_of a).queue 0;
}

abbrev pub burst_states : States
burst_states = record {
  host = λ h. record { queue = reads_queued (after_host h); left = in_burst h; asked = λ c. false };
  route =
      λ h. record {
        inside =
            λ c. is_raised (in_burst h c);
        kept =
            place_before h;
        owed =
            signal (first_or (0 ∷ 0 ∷ 0 ∷ 2 ∷ 2 ∷ 2 ∷ 2 ∷ 2 ∷ 1 ∷ 0 ∷ 2 ∷ 1 ∷ []) (0 ∷ 0 ∷ 0 ∷ 1 ∷ 1 ∷ 1 ∷ 1 ∷ 0 ∷ 1 ∷ []) h);
        owing =
            owing_by h;
      };
  room = always 64;
  grant = λ a. grant_before (seats_of burst_system a) (λ h. before_arbiter h a) (after_arbiter a).port;
  stage = λ a i. stage_of a;
  agent = λ a. record { queue = reads_queued (before_agent a).port; row = λ c i. None; stood = always 0 };
}
