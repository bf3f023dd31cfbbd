-- A host without readdatavalid, an agent and the default agent, wired. The host reads the agent, which gives its word two cycles
-- later, and then an address in no footprint.
use Rattle.std.specs.Prelude.{ℕ, true, false, [], ◌∷◌, Some, None, nat_eq, nat_lt, if◌then◌else◌}
use Rattle.memory_runs.specs.Views.{System, Run, Signals, HostSide, HostView}
use Rattle.memory_machines.specs.Link.{Port}
use Rattle.memory_parts.specs.HostRun.{HostInputs}
use Rattle.runs_tests.specs.Examples.{signal, always, shape_of, agent_of}
use Rattle.runs_tests.specs.PartRows.{answers_in}
use Rattle.runs_tests.specs.SmallSystem.{nothing, no_word, port_with, small_standings, no_slack}
use Rattle.memory_awake.specs.Approach.{Approach}
use Rattle.memory_awake.specs.Ways.{Ways}

abbrev pub waiting_side : HostSide
waiting_side =
    record
    { shape = record (shape_of 1 1 true) { burst_bits = 1 }; has_burst = false; has_readdatavalid = false; has_response = false }

abbrev pub waiting_small : System
waiting_small = record {
  hosts = 1;
  agents = 1;
  host = λ h. waiting_side;
  agent = λ a. agent_of 1 true 16;
  place = λ h kind address. if nat_lt address 16 then Some 0 else None;
  base = λ h a. 0;
  joined = λ a. 0 ∷ [];
  shares = λ h a. 1;
  stages = 0;
}

-- each read stands until its word comes
abbrev pub two_reads : Signals
two_reads = record nothing { read = signal (1 ∷ 1 ∷ 1 ∷ 1 ∷ 1 ∷ []); address = signal (3 ∷ 3 ∷ 3 ∷ 99 ∷ 99 ∷ []) }

-- behind the part next to the host each is shown once
abbrev pub reads_below : Port
reads_below =
    port_with (record two_reads { read = signal (1 ∷ 0 ∷ 0 ∷ 1 ∷ []) }) (always 0) (always 0)
    (answers_in (0 ∷ 0 ∷ 1 ∷ 0 ∷ 1 ∷ []) (0 ∷ 0 ∷ 7 ∷ 0 ∷ 0 ∷ []))

-- behind the route the first one alone
abbrev pub read_behind : ℕ → Port
read_behind h =
    if nat_eq h 0
    then port_with (record two_reads { read = signal (1 ∷ []) }) (always 0) (always 0)
    (answers_in (0 ∷ 0 ∷ 1 ∷ []) (0 ∷ 0 ∷ 7 ∷ []))
    else port_with nothing (always h) (always 0) no_word

abbrev pub host_waiting : ℕ → HostView
host_waiting h = record {
  signals = two_reads;
  waitrequest = signal (1 ∷ 1 ∷ 0 ∷ 1 ∷ 0 ∷ []);
  readdata = reads_below.answers.word;
  readdatavalid = always 0;
  response = always 0;
}

abbrev pub waiting_run : Run
waiting_run = record {
  at_host = host_waiting;
  at_agent =
      λ a. record {
        signals =
            (read_behind 0).commands.signals;
        waitrequest =
            always 0;
        readdata =
            (read_behind 0).answers.word;
        readdatavalid = (read_behind 0).answers.valid;
        response = always 0;
        grant = always 0;
      };
}

-- the wrong twin accepts a read as soon as it is taken below
abbrev pub early_run : Run
early_run = record waiting_run { at_host = λ h. record (host_waiting h) { waitrequest = always 0 } }

-- what the machine next to the host is given
abbrev pub waiting_in : HostInputs
waiting_in = record { signals = two_reads; waitrequest = reads_below.commands.waitrequest; answers = reads_below.answers }

abbrev pub waiting_ways : Ways
waiting_ways =
    record { stages = 0; lower = λ i. read_behind 0; answer_tag = λ i c. 0; above = λ h. 1; upper = λ h i. read_behind h }

abbrev pub waiting_approach : ℕ → Approach
waiting_approach a = record { ways = waiting_ways; standings = small_standings; slacks = no_slack }
