-- What two straight links in a row need of each other, so that the row is straight.
use Rattle.std.specs.Prelude.{◌≡◌, ℕ, ◌<◌, ◌≤◌, Bool, ◌&&◌, ◌||◌, length, nat_eq, IsTrue}
use Rattle.memory_runs.specs.Commands.{shows}
use Rattle.memory_machines.specs.Link.{Target, Port, takes, marked_at, taken_at, operations_in, operations_among, is_nonempty}
use Rattle.memory_machines.specs.Straight.{shows_plain, earlier_shown, are_answered}

-- a plain command that has an operation is shown, and as the cycle begins all before it is taken below, and answered, but where
-- `ahead` lifts this
abbrev pub is_next : Bool → Target → Port → Port → ℕ → Bool
is_next ahead target up down c =
    (shows_plain up c && is_nonempty (operations_in target up.shape (marked_at up c)))
    && (nat_eq (length (operations_among target down.shape (taken_at down c)))
    (length (operations_among target up.shape (earlier_shown up c)))
    && (ahead || are_answered up (earlier_shown up c) c))

pub record GoesInStep (ahead : Bool) (target : Target) (up down : Port) (end : ℕ) : Type 0 where
  -- what is taken below is accepted above by then
  pub accepts : (c : ℕ) → c ≤ end
      → length (operations_among target down.shape (taken_at down c)) ≤ length (operations_among target up.shape (taken_at up c))
  -- where a plain command is next, no beat without an operation is shown below
  pub full : (c : ℕ) → c < end → IsTrue (is_next ahead target up down c) → IsTrue (shows down.commands.signals c)
      → IsTrue (is_nonempty (operations_in target down.shape (marked_at down c)))
  -- and it is a plain command below too
  pub plain : (c : ℕ) → c < end → IsTrue (is_next ahead target up down c) → IsTrue (shows_plain down c)
  -- whatever waits: where it is accepted above, one is taken below in this cycle
  pub at_once : (c : ℕ) → c < end → IsTrue (shows_plain up c) → IsTrue (takes up c)
      → IsTrue (shows_plain down c) × IsTrue (takes down c)
  -- where all words of what was accepted above are answered, so are all of what was taken below
  pub quiet : (c : ℕ) → c ≤ end → IsTrue (are_answered up (taken_at up c) c) → IsTrue (are_answered down (taken_at down c) c)

-- two links between equal words go in step, and each plain command has an operation
pub record AreInStep (ahead : Bool) (target : Target) (up middle down : Port) (end : ℕ) : Type 0 where
  pub words : up.shape.word_bytes ≡ down.shape.word_bytes → middle.shape.word_bytes ≡ up.shape.word_bytes
  pub acts : (c : ℕ) → c < end → IsTrue (shows_plain up c) → IsTrue (is_nonempty (operations_in target up.shape (marked_at up c)))
  pub first : GoesInStep ahead target up middle end
  pub second : GoesInStep ahead target middle down end
