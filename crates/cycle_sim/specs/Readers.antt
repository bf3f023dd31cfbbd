-- Which nets are evaluated anew when something changes.
use Rattle.std.specs.Prelude.{◌≡◌, ℕ, ◌+◌, ◌/◌, ◌<◌, ◌⊎◌, Bool, true, List, [], length, slice_get, slice_index_or, Option, Some, None}
use Rattle.netlist.specs.declared.line.Line.{Line}
use Rattle.netlist.specs.declared.line.Equation.{Equation}
use Rattle.netlist.specs.declared.line.Equation.TheVariants.{Input, Constant, And, Or, Xor, Add, Sub, Eq, Less, Concat, Not, Any, Mux, Slice, Reg, Read}
use Rattle.netlist.specs.Netlists.{Netlist}
use Rattle.cycle_sim.specs.declared.reading.readers.Operands.{Operands}

-- eight neighbours are a block, which is evaluated as one
abbrev pub block_of : ℕ → ℕ
block_of n = n / 8

-- the last may have no net
abbrev pub block_count : Netlist → ℕ
block_count netlist = length netlist.lines / 8 + 1

abbrev pub operands : ℕ → ℕ → ℕ → Operands
operands a b c = record { first = a; second = b; third = c }

-- the nets that an equation reads; where they are fewer than three, some are told more than once
abbrev pub operands_of : Equation → Option Operands
operands_of (And a b) = Some (operands a b b)
operands_of (Or a b) = Some (operands a b b)
operands_of (Xor a b) = Some (operands a b b)
operands_of (Add a b) = Some (operands a b b)
operands_of (Sub a b) = Some (operands a b b)
operands_of (Eq a b) = Some (operands a b b)
operands_of (Less a b) = Some (operands a b b)
operands_of (Concat a b) = Some (operands a b b)
operands_of (Not a) = Some (operands a a a)
operands_of (Any a) = Some (operands a a a)
operands_of (Mux s a b) = Some (operands s a b)
operands_of (Slice a high low) = Some (operands a a a)
operands_of (Read m a) = Some (operands a a a)
operands_of (Input port) = None
operands_of (Constant value) = None
operands_of (Reg reset next) = None

abbrev pub is_among : Option Operands → ℕ → Type 0
is_among None a = ⊥
is_among (Some o) a = (a ≡ o.first) ⊎ (a ≡ o.second) ⊎ (a ≡ o.third)

-- the equation reads net a
abbrev pub Reads : Equation → ℕ → Type 0
Reads e a = is_among (operands_of e) a

-- n stands in the list
pub record IsListed (numbers : List ℕ) (n : ℕ) : Type 0 where
  pub place : ℕ
  pub is : slice_get numbers place ≡ Some n

-- the list at a place; none where there is none
abbrev pub list_at : List (List ℕ) → ℕ → List ℕ
list_at lists n = slice_index_or lists n []

-- one of the lists has this block besides, wherever it stands, and the others are as they were
pub record HasBesides (lists after : List (List ℕ)) (number block : ℕ) : Type 0 where
  pub count : length after ≡ length lists
  pub keeps : (n other : ℕ) → IsListed (list_at lists n) other → IsListed (list_at after n) other
  pub has : IsListed (list_at after number) block
  pub only : (n other : ℕ) → IsListed (list_at after n) other → IsListed (list_at lists n) other ⊎ (other ≡ block)

-- for each net the blocks of all nets below k that read it
pub record AreNetReaders (netlist : Netlist) (lists : List (List ℕ)) (k : ℕ) : Type 0 where
  pub count : length lists ≡ length netlist.lines
  pub each : (n a : ℕ) (line : Line) → n < k → slice_get netlist.lines n ≡ Some line → Reads line.equation a
      → IsListed (list_at lists a) (block_of n)
  pub inside : (a block : ℕ) → IsListed (list_at lists a) block → block < block_count netlist

-- for each memory the blocks of all nets below k that read a word of it
pub record AreMemoryReaders (netlist : Netlist) (lists : List (List ℕ)) (k : ℕ) : Type 0 where
  pub count : length lists ≡ length netlist.memories
  pub each : (n m a : ℕ) (line : Line) → n < k → slice_get netlist.lines n ≡ Some line → line.equation ≡ Read m a
      → IsListed (list_at lists m) (block_of n)
  pub inside : (m block : ℕ) → IsListed (list_at lists m) block → block < block_count netlist

-- for each net and each memory the blocks of all that read it
pub record AreReaders (netlist : Netlist) (of_nets of_memories : List (List ℕ)) : Type 0 where
  pub nets : AreNetReaders netlist of_nets (length netlist.lines)
  pub memories : AreMemoryReaders netlist of_memories (length netlist.lines)

-- which blocks are stale, before and now: those that were still are
pub record StayStale (stale after : List Bool) : Type 0 where
  pub count : length after ≡ length stale
  pub stay : (block : ℕ) → slice_get stale block ≡ Some true → slice_get after block ≡ Some true

-- all of these blocks are stale
abbrev pub AreStale : List Bool → List ℕ → Type 0
AreStale stale blocks = (block : ℕ) → IsListed blocks block → slice_get stale block ≡ Some true
