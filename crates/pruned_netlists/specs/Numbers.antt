-- What is marked, numbered anew in its order.
use Rattle.std.specs.Prelude.{◌≡◌, ℕ, zero, suc, ◌<◌, Bool, true, List, [], ◌∷◌, length, Some, slice_get, if◌then◌else◌}
use Rattle.netlist.specs.Netlists.{Netlist, driver_of, is_input}
use Rattle.netlist.specs.declared.line.Line.{Line}
use Rattle.netlist.specs.declared.line.Equation.{Equation}
use Rattle.netlist.specs.declared.line.Equation.TheVariants.{Read}
use Rattle.pruned_netlists.specs.Needed.{IsOneOf, IsNeeded, IsReadFrom}

-- how many of the first n are marked: the new number of place n
abbrev pub place : List Bool → ℕ → ℕ
place marks zero = 0
place [] (suc n) = 0
place (mark ∷ marks) (suc n) = if mark then suc (place marks n) else place marks n

abbrev pub IsMarked : List Bool → ℕ → Type 0
IsMarked marks n = slice_get marks n ≡ Some true

-- exactly the needed nets are marked
pub record AreMarks (netlist : Netlist) (marks : List Bool) : Type 0 where
  pub count : length marks ≡ length netlist.lines
  pub all : (n : ℕ) → IsNeeded netlist n → IsMarked marks n
  pub only : (n : ℕ) → IsMarked marks n → IsNeeded netlist n

-- exactly the memories that a needed net reads are marked
pub record AreMemoryMarks (netlist : Netlist) (marks : List Bool) : Type 0 where
  pub count : length marks ≡ length netlist.memories
  pub all : (m : ℕ) → IsReadFrom netlist m → IsMarked marks m
  pub only : (m : ℕ) → IsMarked marks m → IsReadFrom netlist m

-- the new numbers of the first places, and how many of those are marked
pub record AreNumbers (marks : List Bool) (count : ℕ) (places : List ℕ) (marked : ℕ) : Type 0 where
  pub length_is : length places ≡ count
  pub each : (n : ℕ) → n < count → slice_get places n ≡ Some (place marks n)
  pub marked_is : marked ≡ place marks count

-- the input nets among the first nets stand in the list, and only needed nets
pub record AreInputs (netlist : Netlist) (count : ℕ) (pending : List ℕ) : Type 0 where
  pub inputs : (n : ℕ) (line : Line) → n < count → slice_get netlist.lines n ≡ Some line → is_input line.equation ≡ true
      → IsOneOf n pending
  pub only : (n : ℕ) → IsOneOf n pending → IsNeeded netlist n

-- the input nets do, and what drives the first ports
pub record AreRoots (netlist : Netlist) (count : ℕ) (pending : List ℕ) : Type 0 where
  pub inputs : AreInputs netlist (length netlist.lines) pending
  pub drivers : (k n : ℕ) → k < count → driver_of netlist k ≡ Some n → IsOneOf n pending

-- a memory that the equation reads is there
abbrev pub ReadsWithin : Netlist → Equation → Type 0
ReadsWithin netlist (Read m a) = m < length netlist.memories
ReadsWithin netlist _ = Unit {0}
