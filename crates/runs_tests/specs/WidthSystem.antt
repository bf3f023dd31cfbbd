-- A right system with width changes: host 0 has words of four bytes and host 1 of two, agent 0 of four and agent 1 of two. The
-- agents take bursts, the hosts show none. A splitter leads from host 0 to agent 1, a lane selector from host 1 to agent 0; the
-- other two pairs are wired.
-- Host 0 writes to agent 1, reads it, reads no agent and writes to agent 0. Host 1 writes to agent 0, reads it, where it waits
-- once, and writes to agent 1, where it waits for its turn.
use Rattle.std.specs.Prelude.{ℕ, zero, suc, true, false, List, [], ◌∷◌, Option, Some, None, nat_lt, if◌then◌else◌}
use Rattle.memory_runs.specs.Views.{Signals, Shape, System, Run}
use Rattle.memory_runs.specs.Commands.{byte_address}
use Rattle.memory_machines.specs.Paths.{AnswerView}
use Rattle.memory_machines.specs.Link.{Port}
use Rattle.memory_machines.specs.Lines.{TaggedPort}
use Rattle.memory_machines.specs.Machines.{Stage}
use Rattle.memory_machines.specs.Turns.{grant_before, seats_of}
use Rattle.memory_parts.specs.Route.{kind_at}
use Rattle.memory_links.specs.Driven.{SelectInputs, SplitInputs, select_above, select_below, split_above, split_below}
use Rattle.memory_awake.specs.RowSystem.{RowPorts}
use Rattle.memory_awake.specs.Theorem.{States}
use Rattle.memory_awake.specs.Wires.{with_bursts}
use Rattle.runs_tests.specs.Examples.{signal, always, quiet}
use Rattle.runs_tests.specs.PartRows.{answers_in}
use Rattle.runs_tests.specs.TwoByTwo.{first_or, of_two, plain_shape, burst_shape, small_agent, two_by_two, gated, reads_queued}

abbrev pub bytes_of : ℕ → ℕ
bytes_of number = first_or 4 2 number

abbrev pub width_system : System
width_system =
    two_by_two (λ h. record
    { shape = plain_shape (bytes_of h); has_burst = false; has_readdatavalid = true; has_response = false }) (λ a. small_agent
    (bytes_of a) true) 0

-- ---- what the hosts show: a beat that waits stands on

abbrev pub beats : List ℕ → List ℕ → List ℕ → List ℕ → ℕ → Signals
beats read write address word enables =
    record {
      read =
          signal read;
      write = signal write;
      address = signal address;
      word = signal word;
      enables = always enables;
      count = always 1;
    }

abbrev pub first_host : Signals
first_host =
    beats (0 ∷ 0 ∷ 1 ∷ 1 ∷ 1 ∷ 1 ∷ []) (1 ∷ 1 ∷ 0 ∷ 0 ∷ 0 ∷ 0 ∷ 1 ∷ []) (20 ∷ 20 ∷ 20 ∷ 20 ∷ 96 ∷ 96 ∷ 8 ∷ [])
    (0x44332211 ∷ 0x44332211 ∷ 0 ∷ 0 ∷ 0 ∷ 0 ∷ 0x99887766 ∷ []) 15

abbrev pub second_host : Signals
second_host = beats (0 ∷ 1 ∷ 1 ∷ []) (1 ∷ 0 ∷ 0 ∷ 1 ∷ 1 ∷ []) (2 ∷ 2 ∷ 2 ∷ 24 ∷ 24 ∷ []) (0xbbaa ∷ 0 ∷ 0 ∷ 0xddcc ∷ 0xddcc ∷ []) 3

abbrev pub asked : ℕ → Signals
asked h = of_two first_host second_host quiet h

-- ---- the boundaries

abbrev pub port_with : Shape → Signals → (ℕ → ℕ) → (ℕ → ℕ) → AnswerView → Port
port_with shape signals tag wait answers =
    record
    { shape = shape; commands = record { signals = signals; more = always 0; tag = tag; waitrequest = wait }; answers = answers }

-- the words come back where a host's reads are answered: those of an agent, and 0 for the read of no agent
abbrev pub after_host : ℕ → Port
after_host h = port_with (plain_shape (bytes_of h)) (asked h) (always 0)
    (signal (first_or (1 ∷ 0 ∷ 1 ∷ 0 ∷ 1 ∷ 0 ∷ 0 ∷ 1 ∷ []) (0 ∷ 1 ∷ 0 ∷ 1 ∷ 0 ∷ 1 ∷ 1 ∷ 1 ∷ []) h))
    (first_or (answers_in (0 ∷ 0 ∷ 0 ∷ 0 ∷ 1 ∷ 0 ∷ 1 ∷ []) (0 ∷ 0 ∷ 0 ∷ 0 ∷ 0x44332211 ∷ []))
    (answers_in (0 ∷ 0 ∷ 0 ∷ 1 ∷ []) (0 ∷ 0 ∷ 0 ∷ 0xbbaa ∷ [])) h)

-- the words of the agents
abbrev pub given_by : ℕ → AnswerView
given_by a =
    first_or (answers_in (0 ∷ 0 ∷ 0 ∷ 1 ∷ []) (0 ∷ 0 ∷ 0 ∷ 0xbbaa0000 ∷ []))
    (answers_in (0 ∷ 0 ∷ 0 ∷ 1 ∷ 1 ∷ []) (0 ∷ 0 ∷ 0 ∷ 0x2211 ∷ 0x4433 ∷ [])) a

-- those that are for another host
abbrev pub withheld : AnswerView → AnswerView
withheld answers = record answers { valid = always 0 }

-- host 0 to agent 1
abbrev pub splitting : SplitInputs
splitting = record {
  wide = plain_shape 4;
  narrow = plain_shape 2;
  room = 2;
  inputs = record {
    signals = gated first_host (0 ∷ 0 ∷ 1 ∷ 1 ∷ []) (1 ∷ 1 ∷ []);
    more = always 0;
    tag = always 0;
    waitrequest = signal (0 ∷ 0 ∷ 0 ∷ 0 ∷ 1 ∷ 1 ∷ 1 ∷ 1 ∷ []);
    answers = given_by 1;
  };
}

-- host 1 to agent 0
abbrev pub selecting : SelectInputs
selecting = record {
  narrow = plain_shape 2;
  wide = plain_shape 4;
  room = 2;
  inputs = record {
    signals = gated second_host (0 ∷ 1 ∷ 1 ∷ []) (1 ∷ []);
    more = always 0;
    tag = always 1;
    waitrequest = signal (0 ∷ 1 ∷ 0 ∷ 1 ∷ 1 ∷ 1 ∷ 1 ∷ 1 ∷ []);
    answers = given_by 0;
  };
}

abbrev pub first_wire : Port
first_wire =
    port_with (plain_shape 4) (gated first_host [] (0 ∷ 0 ∷ 0 ∷ 0 ∷ 0 ∷ 0 ∷ 1 ∷ [])) (always 0)
    (signal (1 ∷ 1 ∷ 1 ∷ 1 ∷ 1 ∷ 1 ∷ 0 ∷ 1 ∷ [])) (withheld (given_by 0))

abbrev pub second_wire : Port
second_wire =
    port_with (plain_shape 2) (gated second_host [] (0 ∷ 0 ∷ 0 ∷ 1 ∷ 1 ∷ [])) (always 1)
    (signal (1 ∷ 1 ∷ 1 ∷ 1 ∷ 0 ∷ 1 ∷ 1 ∷ 1 ∷ [])) (withheld (given_by 1))

-- hosts past the second show nothing
abbrev pub no_port : Port
no_port = port_with (plain_shape 2) quiet (always 0) (always 0) (withheld (given_by 1))

abbrev pub after_route : ℕ → ℕ → Port
after_route h a =
    of_two (first_or first_wire (split_above splitting) a) (first_or (select_above selecting) second_wire a) no_port h

abbrev pub above_dropper : ℕ → ℕ → Port
above_dropper h a =
    of_two (first_or first_wire (split_below splitting) a) (first_or (select_below selecting) second_wire a) no_port h

-- the wires before the arbiters lead to ports with bursts
abbrev pub before_arbiter : ℕ → ℕ → Port
before_arbiter h a = with_bursts 3 (above_dropper h a)

-- before the agents: beats of four bytes at agent 0; at agent 1 those of host 0 in two pieces, and one of host 1
abbrev pub before_agent : ℕ → TaggedPort
before_agent a = first_or
    (record {
      port = port_with (burst_shape 4)
          (record
          (beats (0 ∷ 1 ∷ 1 ∷ []) (1 ∷ 0 ∷ 0 ∷ 0 ∷ 0 ∷ 0 ∷ 1 ∷ []) (0 ∷ 0 ∷ 0 ∷ 0 ∷ 0 ∷ 0 ∷ 8 ∷ [])
          (0xbbaabbaa ∷ 0 ∷ 0 ∷ 0 ∷ 0 ∷ 0 ∷ 0x99887766 ∷ []) 0)
          { enables = signal (12 ∷ 12 ∷ 12 ∷ 0 ∷ 0 ∷ 0 ∷ 15 ∷ []) })
          (signal (1 ∷ 1 ∷ 1 ∷ [])) (signal (0 ∷ 1 ∷ [])) (given_by 0);
      answer_tag = signal (0 ∷ 0 ∷ 0 ∷ 1 ∷ []);
    })
    (record {
      port = record {
        shape = burst_shape 2;
        commands = record {
          signals =
              beats (0 ∷ 0 ∷ 1 ∷ 1 ∷ []) (1 ∷ 1 ∷ 0 ∷ 0 ∷ 1 ∷ []) (20 ∷ 22 ∷ 20 ∷ 22 ∷ 24 ∷ [])
              (0x2211 ∷ 0x4433 ∷ 0 ∷ 0 ∷ 0xddcc ∷ []) 3;
          more = signal (1 ∷ 0 ∷ 1 ∷ []);
          tag = signal (0 ∷ 0 ∷ 0 ∷ 0 ∷ 1 ∷ []);
          waitrequest = always 0;
        };
        answers = given_by 1;
      };
      answer_tag = always 0;
    })
    a

abbrev pub width_ports : RowPorts
width_ports =
    record {
      after_host =
          after_host;
      after_route =
          after_route;
      below_cutter =
          after_route;
      above_dropper = above_dropper;
      before_arbiter = before_arbiter;
      lower = λ a i. before_agent a;
    }

-- ---- the ports of the components

abbrev pub width_run : Run
width_run = record {
  at_host =
      λ h. record {
        signals =
            asked h;
        waitrequest =
            (after_host h).commands.waitrequest;
        readdata =
            (after_host h).answers.word;
        readdatavalid = (after_host h).answers.valid;
        response = always 0;
      };
  at_agent = λ a. record {
    signals =
        record (before_agent a).commands.signals
        { address = signal (first_or (0 ∷ 0 ∷ 0 ∷ 0 ∷ 0 ∷ 0 ∷ 2 ∷ []) (2 ∷ 3 ∷ 2 ∷ 3 ∷ 4 ∷ []) a) };
    waitrequest = (before_agent a).commands.waitrequest;
    readdata = (given_by a).word;
    readdatavalid = (given_by a).valid;
    response = always 0;
    grant = (before_agent a).commands.tag;
  };
}

-- ---- the registers

abbrev pub place_before : ℕ → ℕ → Option ℕ
place_before h zero = None
place_before h (suc c) =
    width_system.place h (kind_at (after_host h) c) (byte_address (plain_shape (bytes_of h)) ((asked h).address c))

-- the place of the last read that was taken
abbrev pub owing_by : ℕ → ℕ → Option ℕ
owing_by h c = first_or (if nat_lt c 4 then None else if nat_lt c 6 then Some 1 else None) (if nat_lt c 3 then None else Some 0) h

-- there is no stage: this one is of no boundary
abbrev pub no_stage : Stage
no_stage =
    record {
      depth =
          0;
      shape =
          no_port.shape;
      sides =
          record {
            commands_above =
                no_port.commands;
            answers_above = no_port.answers;
            commands_below = no_port.commands;
            answers_below = no_port.answers;
          };
      queue =
          λ c. [];
    }

abbrev pub width_states : States
width_states = record {
  host = λ h. record { queue = reads_queued (after_host h); left = always 0; asked = λ c. false };
  route =
      λ h. record {
        inside =
            λ c. false;
        kept =
            place_before h;
        owed = signal (first_or (0 ∷ 0 ∷ 0 ∷ 0 ∷ 1 ∷ 0 ∷ 1 ∷ []) (0 ∷ 0 ∷ 0 ∷ 1 ∷ []) h);
        owing = owing_by h;
      };
  room = always 32;
  grant = λ a. grant_before (seats_of width_system a) (λ h. before_arbiter h a) (before_agent a).port;
  stage = λ a i. no_stage;
  agent = λ a. record { queue = reads_queued (before_agent a).port; row = λ c i. None; stood = always 0 };
}

-- ---- wrong twins

-- host 0 is given the halves of its word in the wrong order
abbrev pub swapped_run : Run
swapped_run =
    record width_run {
      at_host =
          λ h. record (width_run.at_host h)
          { readdata = signal (first_or (0 ∷ 0 ∷ 0 ∷ 0 ∷ 0x22114433 ∷ []) (0 ∷ 0 ∷ 0 ∷ 0xbbaa ∷ []) h) };
    }

-- agent 0 is shown the first write of host 1 in the lower lanes
abbrev pub unmoved_run : Run
unmoved_run =
    record width_run {
      at_agent =
          λ a. record (width_run.at_agent a) {
            signals =
                record (width_run.at_agent a).signals {
                  word =
                      signal (first_or (0xbbaa ∷ 0 ∷ 0 ∷ 0 ∷ 0 ∷ 0 ∷ 0x99887766 ∷ []) (0x2211 ∷ 0x4433 ∷ 0 ∷ 0 ∷ 0xddcc ∷ []) a);
                  enables =
                      signal (first_or (3 ∷ 12 ∷ 12 ∷ 0 ∷ 0 ∷ 0 ∷ 15 ∷ []) (3 ∷ 3 ∷ 3 ∷ 3 ∷ 3 ∷ []) a);
                };
          };
    }

-- ---- a write burst of two words, at a port that takes bursts of two

abbrev pub two_words : Port
two_words =
    with_bursts 2
    (record first_wire {
      commands =
          record first_wire.commands { signals = record (beats [] (1 ∷ []) [] [] 15) { count = always 2 }; more = always 1 };
    })
