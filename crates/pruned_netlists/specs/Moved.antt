-- Lines, drivers and memories with new numbers.
use Rattle.std.specs.Prelude.{◌≡◌, ℕ, ◌<◌, List, Bool, length, Some, option_map, slice_get}
use Rattle.netlist.specs.declared.line.Line.{Line}
use Rattle.netlist.specs.declared.line.Memory.{Memory}
use Rattle.netlist.specs.declared.line.MemWrite.{MemWrite}
use Rattle.netlist.specs.declared.line.Equation.{Equation}
use Rattle.netlist.specs.declared.line.Equation.TheVariants.{Input, Constant, And, Or, Xor, Add, Sub, Eq, Less, Concat, Not, Any, Mux, Slice, Reg, Read}
use Rattle.netlist.specs.Netlists.{Netlist, line_of, write_of}
use Rattle.pruned_netlists.specs.Numbers.{place, IsMarked}

-- the equation with these new numbers of nets and of memories
abbrev pub moved : (ℕ → ℕ) → (ℕ → ℕ) → Equation → Equation
moved net memory (Input port) = Input port
moved net memory (Constant value) = Constant value
moved net memory (And a b) = And (net a) (net b)
moved net memory (Or a b) = Or (net a) (net b)
moved net memory (Xor a b) = Xor (net a) (net b)
moved net memory (Add a b) = Add (net a) (net b)
moved net memory (Sub a b) = Sub (net a) (net b)
moved net memory (Eq a b) = Eq (net a) (net b)
moved net memory (Less a b) = Less (net a) (net b)
moved net memory (Concat a b) = Concat (net a) (net b)
moved net memory (Not a) = Not (net a)
moved net memory (Any a) = Any (net a)
moved net memory (Mux s a b) = Mux (net s) (net a) (net b)
moved net memory (Slice a high low) = Slice (net a) high low
moved net memory (Reg reset next) = Reg reset (net next)
moved net memory (Read m a) = Read (memory m) (net a)

abbrev pub moved_write : (ℕ → ℕ) → MemWrite → MemWrite
moved_write net write = write_of (net write.enable) (net write.address) (net write.word)

abbrev pub moved_memory : (ℕ → ℕ) → Memory → Memory
moved_memory net memory = record memory { write = option_map (moved_write net) memory.write }

-- the marked ones of the first items stand in this list, changed so, in their order
pub record AreKept {X : Type 0} (marks : List Bool) (items : List X) (change : X → X) (count : ℕ) (kept : List X) : Type 0 where
  pub few : length kept ≡ place marks count
  pub each : (n : ℕ) (item : X) → n < count → slice_get items n ≡ Some item → IsMarked marks n
      → slice_get kept (place marks n) ≡ Some (change item)

abbrev pub moved_line : List Bool → List Bool → Line → Line
moved_line marks memory_marks line = line_of line.width (moved (place marks) (place memory_marks) line.equation)

-- the marked ones of the first lines, moved
abbrev pub AreMovedLines : Netlist → List Bool → List Bool → ℕ → List Line → Type 0
AreMovedLines whole marks memory_marks count lines = AreKept marks whole.lines (moved_line marks memory_marks) count lines

-- and of the first memories
abbrev pub AreMovedMemories : Netlist → List Bool → List Bool → ℕ → List Memory → Type 0
AreMovedMemories whole marks memory_marks count memories =
    AreKept memory_marks whole.memories (moved_memory (place marks)) count memories
