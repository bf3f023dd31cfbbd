-- Two hosts with 3 and 1 shares write to one agent that never waits: host 0 has 4 writes and host 1 has 8, without gaps.
use Rattle.std.specs.Prelude.{ℕ, true, List, [], ◌∷◌, replicate, nat_eq, if◌then◌else◌}
use Rattle.histories.specs.Turns.{Seat}
use Rattle.memory_runs.specs.Views.{System}
use Rattle.memory_machines.specs.Link.{Port}
use Rattle.runs_tests.specs.Examples.{signal, always, shape_of}
use Rattle.histories.specs.Turns as turns
use Rattle.memory_machines.specs.Turns.{seats_of}
use Rattle.memory_machines.specs.Lines.{Group}
use Rattle.memory_runs.specs.Operations.Operation.{Write}
use Rattle.runs_tests.specs.MoreExamples.{shared_system}

abbrev pub seats : List Seat
seats = record { host = 0; shares = 3 } ∷ record { host = 1; shares = 1 } ∷ []

-- a side that shows plain writes in some cycles, and waits in some
abbrev pub writes : List ℕ → List ℕ → (ℕ → ℕ) → Port
writes write wait tag = record {
  shape = shape_of 4 1 true;
  commands = record {
    signals =
        record
        { read = always 0; write = signal write; address = always 0; word = always 7; enables = always 15; count = always 1 };
    more = always 0;
    tag = tag;
    waitrequest = signal wait;
  };
  answers = record { valid = always 0; word = always 0; code = always 0 };
}

abbrev pub askers : ℕ → Port
askers host =
    if nat_eq host 0 then writes (replicate 5 1) (0 ∷ 0 ∷ 0 ∷ 1 ∷ 0 ∷ []) (always 0)
    else writes (replicate 12 1) (1 ∷ 1 ∷ 1 ∷ 0 ∷ 1 ∷ []) (always 1)

-- below the arbiter, by the hosts whose writes are shown
abbrev pub granted : List ℕ → Port
granted tags = writes (replicate 12 1) [] (signal tags)

abbrev pub by_shares : List ℕ
by_shares = 0 ∷ 0 ∷ 0 ∷ 1 ∷ 0 ∷ 1 ∷ 1 ∷ 1 ∷ 1 ∷ 1 ∷ 1 ∷ 1 ∷ []

-- one share for each host, and the first host always first
abbrev pub one_share_each : List ℕ
one_share_each = 0 ∷ 1 ∷ 0 ∷ 1 ∷ 0 ∷ 1 ∷ 0 ∷ 1 ∷ 1 ∷ 1 ∷ 1 ∷ 1 ∷ []

abbrev pub first_host_first : List ℕ
first_host_first = 0 ∷ 0 ∷ 0 ∷ 0 ∷ 1 ∷ 1 ∷ 1 ∷ 1 ∷ 1 ∷ 1 ∷ 1 ∷ 1 ∷ []

-- host 0 is joined to the agent twice, each host with one share
abbrev pub twice_system : System
twice_system = record shared_system { joined = λ a. 0 ∷ 1 ∷ 0 ∷ []; shares = λ h a. 1 }

-- whose commands begin where both ask in each of six cycles
abbrev pub twice_tags : List ℕ
twice_tags = turns.begun (record { left = 0; ring = seats_of twice_system 0 }) (replicate 6 turns.both_ask)

-- two hosts with one share each take turns at an arbiter; the second command of host 1 is a write without an enabled lane
abbrev pub one_each_system : System
one_each_system = record shared_system { joined = λ a. 0 ∷ 1 ∷ []; shares = λ h a. 1 }

abbrev pub write_of : ℕ → Group
write_of host = record { tag = host; operations = Write 0 7 ∷ []; closes = true; beats = 1 }

abbrev pub with_empty_write : List Group
with_empty_write =
    write_of 0 ∷ write_of 1 ∷ write_of 0 ∷ record { tag = 1; operations = []; closes = true; beats = 1 } ∷ write_of 0 ∷ write_of 1
    ∷ write_of 0 ∷ []
