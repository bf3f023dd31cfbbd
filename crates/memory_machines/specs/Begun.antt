-- Which commands the operations behind an arbiter belong to, told by the ends of joined commands, and what an agent takes of
-- them.
use Rattle.std.specs.Prelude.{ℕ, suc, ◌+◌, ◌-◌, ◌≤◌, Bool, true, false, not, ◌&&◌, ◌||◌, List, [], ◌∷◌, ◌++◌, length, map, replicate, nat_eq, nat_le, if◌then◌else◌, IsTrue}
use Rattle.histories.specs.History.{IsPrefix}
use Rattle.memory_runs.specs.Views.{System, Run}
use Rattle.memory_runs.specs.Commands.{Transfer}
use Rattle.memory_runs.specs.Order.{Owner, owners_taken, host_transfers, transfer_operations, place_of, is_agent}
use Rattle.memory_machines.specs.Link.{is_nonempty, shown_at, taken_at}
use Rattle.memory_machines.specs.Lines.{Group, Inside, groups_of, target_of}

-- whether a joined command ends with this group
abbrev pub is_ended : (ℕ → Bool) → Group → Bool
is_ended acted g = g.closes && (acted g.tag || is_nonempty g.operations)

abbrev pub turn_after : (ℕ → ℕ) → (ℕ → Bool) → Group → ℕ → ℕ
turn_after turn acted g h = if nat_eq h g.tag && is_ended acted g then suc (turn h) else turn h

abbrev pub acts_after : (ℕ → Bool) → Group → ℕ → Bool
acts_after acted g h = if nat_eq h g.tag then not g.closes && (acted h || is_nonempty g.operations) else acted h

-- for each operation its tag, and how many joined commands with that tag have ended before it
abbrev pub owners_of_groups : (ℕ → ℕ) → (ℕ → Bool) → List Group → List Owner
owners_of_groups turn acted [] = []
owners_of_groups turn acted (g ∷ later) =
    replicate (length g.operations) (record { tag = g.tag; command = turn g.tag })
    ++ owners_of_groups (turn_after turn acted g) (acts_after acted g) later

-- after a group that doesn't close comes one of the same tag
abbrev pub groups_whole : List Group → Bool
groups_whole [] = true
groups_whole (g ∷ []) = true
groups_whole (g ∷ next ∷ later) = (g.closes || nat_eq g.tag next.tag) && groups_whole (next ∷ later)

-- how many of a host's joined commands with an operation at an agent end before a command
abbrev pub turn_of : System → ℕ → ℕ → ℕ → ℕ → Bool → List Transfer → ℕ → ℕ
turn_of system host agent number n acted [] command = n
turn_of system host agent number n acted (t ∷ ts) command =
    if nat_le command number then n
    else turn_of system host agent (if t.ends then number + 1 else number)
    (if is_agent agent (place_of system host t) && (t.ends && (acted || is_nonempty (transfer_operations system host agent t)))
    then suc n else n)
    (if is_agent agent (place_of system host t)
    then not t.ends && (acted || is_nonempty (transfer_operations system host agent t)) else acted) ts command

abbrev pub turn_at : System → Run → ℕ → ℕ → ℕ → ℕ → ℕ
turn_at system run agent cycle host command = turn_of system host agent 1 0 false (host_transfers system run host cycle) command

-- an owner by its turn
abbrev pub by_turn : (ℕ → ℕ → ℕ) → Owner → Owner
by_turn f owner = record { tag = owner.tag; command = f owner.tag owner.command }

-- what an agent takes matches, in order, what is taken behind its arbiter
pub record IsMatched (system : System) (run : Run) (inside : Inside) (agent end : ℕ) : Type 0 where
  pub owners : (c : ℕ) → c ≤ end →
      IsPrefix (map (by_turn (turn_at system run agent c)) (owners_taken system run agent c))
      (owners_of_groups (λ _. 0) (λ _. false)
      (groups_of (target_of system agent) (inside.after_arbiter agent).shape
      (shown_at (inside.after_arbiter agent).port (c - system.stages))))
  pub taken : (c : ℕ) → c ≤ end
      → IsPrefix (taken_at (inside.before_agent agent).port c) (taken_at (inside.after_arbiter agent).port (c - system.stages))
  pub whole : (c : ℕ) → c ≤ end
      → IsTrue
      (groups_whole
      (groups_of (target_of system agent) (inside.after_arbiter agent).shape (shown_at (inside.after_arbiter agent).port c)))
