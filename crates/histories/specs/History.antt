-- Histories: what the cycles before a given one add, in order. Every history of a run is one of these.
use Rattle.std.specs.Prelude.{◌≡◌, ℕ, zero, suc, ◌+◌, ◌-◌, ◌≤◌, ◌<◌, Bool, true, not, ◌&&◌, List, [], ◌∷◌, ◌++◌, if◌then◌else◌, nat_lt}

-- what the cycles before `end` add
abbrev pub before : {A : Type 0} → (ℕ → List A) → ℕ → List A
before {A} adds zero = []
before {A} adds (suc cycle) = before adds cycle ++ adds cycle

-- x alone where the test holds
abbrev pub only_if : {A : Type 0} → Bool → A → List A
only_if {A} test x = if test then x ∷ [] else []

-- 1 where the test holds
abbrev pub one_if : Bool → ℕ
one_if test = if test then 1 else 0

-- an item is shown and not accepted, so it stands on
abbrev pub stands_on : (ℕ → Bool) → (ℕ → Bool) → ℕ → Bool
stands_on shown accepts cycle = shown cycle && not (accepts cycle)

-- the first cycle in which a shown item stands
abbrev pub is_first : (ℕ → Bool) → (ℕ → Bool) → ℕ → Bool
is_first shown accepts zero = shown zero
is_first shown accepts (suc cycle) = shown (suc cycle) && not (stands_on shown accepts cycle)

-- the items that were shown before a cycle, each once
abbrev pub first_shown : {A : Type 0} → (ℕ → Bool) → (ℕ → Bool) → (ℕ → A) → ℕ → List A
first_shown {A} shown accepts item cycle = before (λ c. only_if (is_first shown accepts c) (item c)) cycle

-- the items that were accepted before a cycle
abbrev pub all_accepted : {A : Type 0} → (ℕ → Bool) → (ℕ → A) → ℕ → List A
all_accepted {A} accepts item cycle = before (λ c. only_if (accepts c) (item c)) cycle

-- an item is accepted only while it is shown, and one that stands on is shown in the next cycle, unchanged
pub record KeepsItems {A : Type 0} (shown accepts : ℕ → Bool) (item : ℕ → A) (end : ℕ) : Type 0 where
  pub accepted : (c : ℕ) → accepts c ≡ true → shown c ≡ true
  pub held : (c : ℕ) → suc c < end → stands_on shown accepts c ≡ true → (shown (suc c) ≡ true) × (item c ≡ item (suc c))

-- the item that stands on when a cycle begins
abbrev pub standing : {A : Type 0} → (ℕ → Bool) → (ℕ → Bool) → (ℕ → A) → ℕ → List A
standing {A} shown accepts item zero = []
standing {A} shown accepts item (suc cycle) = only_if (stands_on shown accepts cycle) (item cycle)

-- the list begins with `front`
pub record IsPrefix {A : Type 0} (front whole : List A) : Type 0 where
  pub rest : List A
  pub joins : front ++ rest ≡ whole

-- a signal of one bit is high where it isn't 0
abbrev pub is_raised : ℕ → Bool
is_raised level = nat_lt 0 level

-- the numbers from `first` on, `count` of them
abbrev pub numbers : ℕ → ℕ → List ℕ
numbers first zero = []
numbers first (suc count) = first ∷ numbers (suc first) count

-- the members of groups of these sizes together
abbrev pub total : List ℕ → ℕ
total [] = 0
total (size ∷ sizes) = size + total sizes

-- of groups of these sizes, how many have a member past the first `reached` members of all of them
abbrev pub unreached : List ℕ → ℕ → ℕ
unreached [] reached = 0
unreached (size ∷ sizes) reached = (if nat_lt reached size then 1 else 0) + unreached sizes (reached - size)

-- each lower group lies within one upper group: a lower group takes room in the first upper group, or goes on to the next
-- where no room is left
pub data AreWithin : List ℕ → List ℕ → Type 0 where
  all_placed : {upper : List ℕ} → AreWithin [] upper
  placed : {size room : ℕ} {lower upper : List ℕ} → size ≤ room → AreWithin lower ((room - size) ∷ upper)
      → AreWithin (size ∷ lower) (room ∷ upper)
  next_room : {lower upper : List ℕ} → AreWithin lower upper → AreWithin lower (0 ∷ upper)
