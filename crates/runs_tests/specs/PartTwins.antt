-- Wrong twins of the machines of agent, host, route and arbiter, as runs.
use Rattle.std.specs.Prelude.{ℕ, true, List, [], ◌∷◌, nat_eq, if◌then◌else◌}
use Rattle.memory_runs.specs.Views.{Signals, HostView, AgentView, System, Run}
use Rattle.memory_machines.specs.Link.{Port}
use Rattle.memory_machines.specs.Lines.{TaggedPort}
use Rattle.runs_tests.specs.Examples.{signal, always, shape_of, host_of, system_of, run_of, no_host}
use Rattle.runs_tests.specs.MoreExamples.{agent_with_bound}
use Rattle.runs_tests.specs.PartRows.{plain, answers_in, no_answers, waiting_host}

-- a side that doesn't wait
abbrev pub side_with : Signals → List ℕ → List ℕ → Port
side_with signals more tags = record {
  shape = shape_of 4 1 true;
  commands = record { signals = signals; more = signal more; tag = signal tags; waitrequest = always 0 };
  answers = no_answers;
}

abbrev pub answered_by : Port → List ℕ → List ℕ → Port
answered_by port valid word = record port { answers = answers_in valid word }

-- ---- agent: two hosts, and an agent that never waits

abbrev pub bounded_system : ℕ → System
bounded_system bound = system_of (host_of 4 true) (agent_with_bound bound) (0 ∷ 1 ∷ [])

-- two reads with the tags 0 and 1; the agent may give the word of the first
abbrev pub reads_of_both : List ℕ → AgentView
reads_of_both valid = record {
  signals = plain (1 ∷ 1 ∷ []) [];
  waitrequest = always 0;
  readdata = always 0x11;
  readdatavalid = signal valid;
  response = always 0;
  grant = signal (0 ∷ 1 ∷ []);
}

abbrev pub reads_run : List ℕ → Run
reads_run valid = run_of no_host no_host (reads_of_both valid)

-- both reads are let through to an agent that bears one
abbrev pub past_bound : TaggedPort
past_bound = record { port = side_with (plain (1 ∷ 1 ∷ []) []) [] (0 ∷ 1 ∷ []); answer_tag = always 0 }

-- the word of the first read goes up with the tag of the newest one
abbrev pub newest_tag : TaggedPort
newest_tag =
    record {
      port =
          answered_by (side_with (plain (1 ∷ 1 ∷ []) []) [] (0 ∷ 1 ∷ [])) (0 ∷ 0 ∷ 1 ∷ []) (0 ∷ 0 ∷ 0x11 ∷ []);
      answer_tag = always 1;
    }

-- ---- arbiter

abbrev pub both_joined : System
both_joined = bounded_system 4

-- host 0 pauses after the first beat of a write burst, and host 1 has a write
abbrev pub pausing_askers : ℕ → Port
pausing_askers host =
    if nat_eq host 0
    then side_with
    (record {
      read =
          always 0;
      write = signal (1 ∷ []);
      address = always 0;
      word = always 7;
      enables = always 15;
      count = always 2;
    })
    (1 ∷ []) []
    else side_with (plain [] (0 ∷ 1 ∷ [])) [] (1 ∷ 1 ∷ [])

-- the write of host 1 is shown inside the burst of host 0
abbrev pub inside_burst : TaggedPort
inside_burst = record {
  port =
      side_with
      (record {
        read =
            always 0;
        write =
            signal (1 ∷ 1 ∷ []);
        address = always 0;
        word = always 7;
        enables = always 15;
        count = signal (2 ∷ 1 ∷ []);
      })
      (1 ∷ []) (0 ∷ 1 ∷ []);
  answer_tag = always 0;
}

-- the word for host 0 is given to host 1 as well
abbrev pub read_of_first : ℕ → Port
read_of_first host =
    if nat_eq host 0 then answered_by (side_with (plain (1 ∷ []) []) [] []) (0 ∷ 1 ∷ []) []
    else answered_by (side_with (plain [] []) [] []) (0 ∷ 1 ∷ []) []

abbrev pub given_to_both : TaggedPort
given_to_both = record { port = answered_by (side_with (plain (1 ∷ []) []) [] []) (0 ∷ 1 ∷ []) []; answer_tag = always 0 }

-- ---- route: one host, agent 0 at 0 and agent 1 at 256

abbrev pub reads_at : List ℕ → List ℕ → Port
reads_at read address =
    side_with
    (record
    { read = signal read; write = always 0; address = signal address; word = always 0; enables = always 15; count = always 1 })
    [] []

-- a read of agent 0 and then one of agent 1, which goes on though a word is owed
abbrev pub two_places : Port
two_places = reads_at (1 ∷ 1 ∷ []) (0 ∷ 256 ∷ [])

abbrev pub without_limiter : ℕ → Port
without_limiter a = if nat_eq a 0 then reads_at (1 ∷ []) (0 ∷ 256 ∷ []) else reads_at (0 ∷ 1 ∷ []) (0 ∷ 256 ∷ [])

-- a write burst of two beats to agent 1, whose second beat goes by its own address
abbrev pub writes_at : List ℕ → Port
writes_at write =
    side_with
    (record {
      read =
          always 0;
      write =
          signal write;
      address = signal (256 ∷ 0 ∷ []);
      word = always 7;
      enables = always 15;
      count = signal (2 ∷ 1 ∷ []);
    })
    (1 ∷ []) []

abbrev pub by_each_address : ℕ → Port
by_each_address a = if nat_eq a 0 then writes_at (0 ∷ 1 ∷ []) else writes_at (1 ∷ [])

-- ---- host

abbrev pub host_run : HostView → Run
host_run view = record { at_host = λ h. view; at_agent = λ a. reads_of_both [] }

abbrev pub waiting_system : System
waiting_system = system_of waiting_host (agent_with_bound 4) (0 ∷ [])

-- a host without readdatavalid, whose read waits for its word
abbrev pub waiting_view : HostView
waiting_view =
    record {
      signals =
          plain (1 ∷ 1 ∷ []) [];
      waitrequest = always 1;
      readdata = always 0;
      readdatavalid = always 0;
      response = always 0;
    }

-- the read that was taken is shown once more
abbrev pub read_twice : Port
read_twice = side_with (plain (1 ∷ 1 ∷ []) []) [] []

-- a write burst of two beats, whose first beat is said to be its last
abbrev pub burst_view : HostView
burst_view = record {
  signals =
      record {
        read =
            always 0;
        write = signal (1 ∷ 1 ∷ []);
        address = always 0;
        word = always 7;
        enables = always 15;
        count = always 2;
      };
  waitrequest = always 0;
  readdata = always 0;
  readdatavalid = always 0;
  response = always 0;
}

abbrev pub ends_early : Port
ends_early = side_with burst_view.signals [] []
