-- The read commands that a side has taken and that aren't fully answered, oldest first.
use Rattle.std.specs.Prelude.{◌≡◌, ℕ, suc, ◌-◌, ◌<◌, Bool, ◌&&◌, List, [], ◌∷◌, ◌++◌, if◌then◌else◌, nat_eq, Option, Some, None}
use Rattle.histories.specs.History.{only_if, is_raised}
use Rattle.memory_machines.specs.Link.{Port, takes}

-- an unanswered read command: its tag, and how many of its words haven't come
pub record Entry : Type 0 where
  pub tag : ℕ
  pub left : ℕ

-- a word lowers the oldest entry, and its last word takes it away
abbrev pub answered : Bool → List Entry → List Entry
answered word [] = []
answered word (e ∷ later) =
    if word then (if nat_eq e.left 1 then later else record { tag = e.tag; left = e.left - 1 } ∷ later)
    else e ∷ later

abbrev pub head_tag : List Entry → ℕ
head_tag [] = 0
head_tag (e ∷ later) = e.tag

abbrev pub takes_read : Port → ℕ → Bool
takes_read port c = takes port c && is_raised (port.commands.read c)

abbrev pub entry_at : Port → ℕ → Entry
entry_at port c = record { tag = port.commands.tag c; left = port.commands.count c }

-- the queue as the next cycle begins: a word answers the oldest entry, and a read that is taken becomes the newest one
abbrev pub queue_after : Port → (ℕ → ℕ) → List Entry → ℕ → List Entry
queue_after port valid queue c = answered (is_raised (valid c)) queue ++ only_if (takes_read port c) (entry_at port c)

-- a queue for the reads that a side takes, and that words answer in order
pub record QueuesReads (port : Port) (valid : ℕ → ℕ) (queue : ℕ → List Entry) (end : ℕ) : Type 0 where
  pub begins : queue 0 ≡ []
  pub next : (c : ℕ) → suc c < end → queue (suc c) ≡ queue_after port valid (queue c) c

-- one of two values, by whether there is a member
abbrev pub by_option : {A B : Type 0} → Option A → B → (A → B) → B
by_option {A} {B} None none some = none
by_option {A} {B} (Some x) none some = some x
