-- Packed reads: each word of the agent that a read touches is read once.
use Rattle.std.specs.Prelude.{ℕ, ◌+◌, ◌-◌, ◌/◌, ◌%◌, ◌≤◌, Bool, false, ◌&&◌, List, [], ◌∷◌, length, take, if◌then◌else◌, nat_eq, nat_le, nat_lt, IsTrue, Option, Some, None, filter, flat_map, slice_get, MatchOption, ⊤}
use Rattle.memory_runs.specs.Views.{System, Run}
use Rattle.memory_runs.specs.Operations.{Beat}
use Rattle.memory_runs.specs.Commands.{is_of_reads}
use Rattle.memory_runs.specs.Order.{TaggedBeat, host_transfers, for_agent, beat_operations, transfer_operations, beats_taken, operations_at}

-- where a host word lies in the agent's words, if it has an operation
pub record Touch : Type 0 where
  pub word : ℕ
  pub offset : ℕ

abbrev pub touch_of : System → ℕ → ℕ → Beat → Touch
touch_of system host agent beat =
    let offset = (beat.address - system.base host agent) % (system.agent agent).span in
    record { word = offset / (system.agent agent).word_bytes; offset = offset }

-- a host word goes on in the touch of the one before it
abbrev pub goes_on : Option Touch → Touch → Bool
goes_on None touch = false
goes_on (Some last) touch = nat_eq last.word touch.word && nat_lt last.offset touch.offset

-- how many operations the first `count` touches have, of the host words of a read, after the one before them
abbrev pub operations_touched : System → ℕ → ℕ → ℕ → Option Touch → List Beat → ℕ
operations_touched system host agent count last [] = 0
operations_touched system host agent count last (beat ∷ later) =
    let own = length (beat_operations system host agent beat) in
    let touch = touch_of system host agent beat in
    if nat_eq own 0 then operations_touched system host agent count None later
    else if goes_on last touch then own + operations_touched system host agent count (Some touch) later
    else if nat_lt 0 count then own + operations_touched system host agent (count - 1) (Some touch) later
    else 0

-- how many of these beats have operations with a number from `low` to below `high`, where `reached` came before
abbrev pub beats_between : System → ℕ → ℕ → ℕ → ℕ → List TaggedBeat → ℕ
beats_between system agent low high reached [] = 0
beats_between system agent low high reached (beat ∷ later) =
    let passed = reached + length (operations_at system agent beat) in
    (if nat_lt reached passed && nat_lt reached high && nat_lt low passed then 1 else 0)
    + beats_between system agent low high passed later

-- where the host's word is no larger than the agent's, the operations of the first touches of a read command are taken in at most
-- one beat for each of them. `number` is the command's place among the host's transfers for the agent
abbrev pub ReadsEachTouchedWordOnce : System → Run → ℕ → ℕ → ℕ → Type 0
ReadsEachTouchedWordOnce system run host agent end =
    (c number count : ℕ) → c ≤ end →
    let transfers = for_agent system host agent (host_transfers system run host c) in
    let low = length (flat_map (transfer_operations system host agent) (take number transfers)) in
    MatchOption (slice_get transfers number) ⊤ (λ t.
    IsTrue (is_of_reads t.kind) → IsTrue (nat_le (system.host host).word_bytes (system.agent agent).word_bytes) →
    beats_between system agent low (low + operations_touched system host agent count None t.beats) 0
    (filter (λ b. nat_eq b.tag host) (beats_taken system run agent c))
    ≤ count)
