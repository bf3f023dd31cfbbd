-- How little a link accepts beyond what it hands on, and how few words it gives beyond those that come to it.
use Rattle.std.specs.Prelude.{ℕ, suc, ◌+◌, ◌<◌, ◌≤◌, Bool, not, ◌&&◌, ◌||◌, List, length, filter, IsTrue}
use Rattle.histories.specs.History.{is_raised}
use Rattle.memory_runs.specs.Commands.{shows}
use Rattle.memory_machines.specs.Link.{Target, Port, Marked, takes, marked_at, taken_at, closes, operations_in, is_nonempty}
use Rattle.memory_links.specs.Selects.{takes_read}

-- with each beat that is accepted one is taken below, and with each word above one comes from below, in the same cycle
pub record PassesAtOnce (up down : Port) (end : ℕ) : Type 0 where
  pub beats : (c : ℕ) → c < end → IsTrue (takes up c) → IsTrue (takes down c)
  pub words : (c : ℕ) → c < end → IsTrue (is_raised (up.answers.valid c)) → IsTrue (is_raised (down.answers.valid c))

-- a write beat that ends its command is shown below as such a beat
abbrev pub ShowsWrite : Port → Port → ℕ → Type 0
ShowsWrite up down c =
    IsTrue (shows up.commands.signals c) → IsTrue (is_raised (up.commands.write c)) → IsTrue (closes (marked_at up c)) →
    IsTrue (shows down.commands.signals c) × IsTrue (is_raised (down.commands.write c)) × IsTrue (closes (marked_at down c))

abbrev pub has_operation : Target → Port → Marked → Bool
has_operation target port m = is_nonempty (operations_in target port.shape m)

-- each beat that is accepted has an operation
abbrev pub AcceptsActs : Target → Port → ℕ → Type 0
AcceptsActs target port end = (c : ℕ) → c < end → IsTrue (takes port c) → IsTrue (has_operation target port (marked_at port c))

-- the accepted transfers that have one
abbrev pub acting : Target → Port → ℕ → List Marked
acting target port c = filter (has_operation target port) (taken_at port c)

-- what has no operation isn't handed on. Of the others few wait, and a word that doesn't come from below is that of a read
-- without an operation
pub record PassesActs (hold : ℕ) (target : Target) (up down : Port) (end : ℕ) : Type 0 where
  pub after : (c : ℕ) → c ≤ end → length (taken_at down c) ≤ length (acting target up c)
  pub soon : (c : ℕ) → c ≤ end → length (acting target up c) ≤ length (taken_at down c) + hold
  pub first : 0 < end → IsTrue (is_raised (up.answers.valid 0)) → IsTrue (is_raised (down.answers.valid 0))
  pub words : (c : ℕ) → suc c < end → IsTrue (is_raised (up.answers.valid (suc c))) →
      IsTrue (is_raised (down.answers.valid (suc c)) || (takes_read up c && not (has_operation target up (marked_at up c))))
