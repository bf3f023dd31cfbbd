-- Packed reads at a part: the beats that are taken below are the touches of what was accepted above, so each word of the agent
-- that a read touches is read in at most one beat.
use Rattle.std.specs.Prelude.{ℕ, ◌+◌, ◌/◌, ◌%◌, ◌≤◌, List, [], ◌∷◌, length, map, filter, flat_map, if◌then◌else◌, nat_eq, nat_lt, Option, Some, None}
use Rattle.histories.specs.History.{IsPrefix}
use Rattle.memory_runs.specs.Views.{Shape, System, Run}
use Rattle.memory_runs.specs.Operations.{Beat}
use Rattle.memory_runs.specs.Commands.{Transfer, is_of_reads}
use Rattle.memory_runs.specs.Packed.{Touch, touch_of, goes_on}
use Rattle.memory_runs.specs.Order.{beat_operations as placed_operations, operations_at, beats_taken, host_transfers, for_agent}
use Rattle.memory_machines.specs.Link.{Target, Port, Marked, beat_operations, taken_at}

-- where a host word lies in the agent's words
abbrev pub touch_in : Target → Beat → Touch
touch_in target beat =
    record { word = (beat.address % target.span) / target.shape.word_bytes; offset = beat.address % target.span }

-- how many operations each touch of a read has, from one of its beats on, where `size` of them stand in the touch that is open
abbrev pub touches_from : Target → Shape → Option Touch → ℕ → List Beat → List ℕ
touches_from target shape last size [] = size ∷ []
touches_from target shape last size (beat ∷ later) =
    if nat_eq (length (beat_operations target shape beat)) 0 then size ∷ touches_from target shape None 0 later
    else if goes_on last (touch_in target beat)
    then touches_from target shape (Some (touch_in target beat)) (size + length (beat_operations target shape beat)) later
    else size ∷ touches_from target shape (Some (touch_in target beat)) (length (beat_operations target shape beat)) later

abbrev pub beat_sizes : Target → Shape → Marked → List ℕ
beat_sizes target shape m = map (λ b. length (beat_operations target shape b)) m.transfer.beats

-- of a write each beat stands by itself
abbrev pub touches_of : Target → Shape → Marked → List ℕ
touches_of target shape m =
    if is_of_reads m.transfer.kind then touches_from target shape None 0 m.transfer.beats else beat_sizes target shape m

-- those that have an operation
abbrev pub acting : List ℕ → List ℕ
acting sizes = filter (nat_lt 0) sizes

-- the beats that are taken below are, by their operations, the first touches of what was accepted above
abbrev pub PacksReads : Target → Port → Port → ℕ → Type 0
PacksReads target up down end =
    (c : ℕ) → c ≤ end
    → IsPrefix (acting (flat_map (beat_sizes target down.shape) (taken_at down c)))
    (acting (flat_map (touches_of target up.shape) (taken_at up c)))

-- ---- the same at the ports of a system

abbrev pub system_touches : System → ℕ → ℕ → Option Touch → ℕ → List Beat → List ℕ
system_touches system host agent last size [] = size ∷ []
system_touches system host agent last size (beat ∷ later) =
    if nat_eq (length (placed_operations system host agent beat)) 0 then size ∷ system_touches system host agent None 0 later
    else if goes_on last (touch_of system host agent beat)
    then system_touches system host agent (Some (touch_of system host agent beat))
    (size + length (placed_operations system host agent beat)) later
    else size
    ∷ system_touches system host agent (Some (touch_of system host agent beat))
    (length (placed_operations system host agent beat)) later

abbrev pub transfer_touches : System → ℕ → ℕ → Transfer → List ℕ
transfer_touches system host agent t =
    if is_of_reads t.kind then system_touches system host agent None 0 t.beats
    else map (λ b. length (placed_operations system host agent b)) t.beats

-- the beats that an agent takes of a host are, by their operations, the first touches of what the host has presented for it
abbrev pub TakesTouches : System → Run → ℕ → ℕ → ℕ → Type 0
TakesTouches system run host agent end =
    (c : ℕ) → c ≤ end
    → IsPrefix
    (acting
    (map (λ b. length (operations_at system agent b)) (filter (λ b. nat_eq b.tag host) (beats_taken system run agent c))))
    (acting (flat_map (transfer_touches system host agent) (for_agent system host agent (host_transfers system run host c))))
