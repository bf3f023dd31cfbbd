-- How a link, or a row of links, begins below what waits above.
use Rattle.std.specs.Prelude.{ℕ, suc, ◌+◌, ◌<◌, ◌≤◌, Bool, not, ◌&&◌, length, IsTrue, IsFalse}
use Rattle.memory_runs.specs.Commands.{shows, is_of_reads}
use Rattle.memory_machines.specs.Link.{Target, Port, takes, marked_at, taken_at, shown_at, operations_in, operations_among, is_nonempty, words_at, words_owed}
use Rattle.memory_machines.specs.Straight.{may_be_prompt, shows_empty_write}

-- a transfer with an operation is shown that is to be begun promptly
abbrev pub shows_first : Bool → Target → Port → ℕ → Bool
shows_first may_burst target port c =
    shows port.commands.signals c && may_be_prompt may_burst (marked_at port c)
    && is_nonempty (operations_in target port.shape (marked_at port c))

-- how many operations were taken before a cycle
abbrev pub operations_taken : Target → Port → ℕ → ℕ
operations_taken target port c = length (operations_among target port.shape (taken_at port c))

-- `few`: cycles, 0 where a transfer is begun in its own cycle
pub record BeginsBelow (few : ℕ) (may_burst : Bool) (target : Target) (up down : Port) (end : ℕ) : Type 0 where
  -- as such a transfer is accepted, its first operation is taken below at the latest
  pub taken : (c : ℕ) → c < end → IsTrue (shows_first may_burst target up c) → IsTrue (takes up c)
      → operations_taken target up c < operations_taken target down (suc c)
  -- and one that waits is shown below within a few cycles, once all before it are taken there, and all reads that were accepted
  -- are answered
  pub waits : (c : ℕ) → c + few < end → IsTrue (shows_first may_burst target up c) → IsFalse (takes up c) →
      operations_taken target up c ≤ operations_taken target down c → words_owed up c ≤ length (words_at up c) →
      operations_taken target up c < length (operations_among target down.shape (shown_at down (suc (c + few))))
  -- an empty write below is a write that stands above, and is taken there if that is accepted
  pub empty : (c : ℕ) → c < end → IsTrue (shows_empty_write target down c) →
      IsTrue (shows up.commands.signals c && not (is_of_reads (marked_at up c).transfer.kind))
      × (IsTrue (takes up c) → IsTrue (takes down c))
