-- Which nets and memories an output depends on.
use Rattle.std.specs.Prelude.{◌≡◌, ◌⊎◌, ℕ, true, List, [], ◌∷◌, Option, Some, None, slice_get}
use Rattle.netlist.specs.declared.line.Line.{Line}
use Rattle.netlist.specs.declared.line.Memory.{Memory}
use Rattle.netlist.specs.declared.line.MemWrite.{MemWrite}
use Rattle.netlist.specs.declared.line.Equation.{Equation}
use Rattle.netlist.specs.declared.line.Equation.TheVariants.{Input, Constant, And, Or, Xor, Add, Sub, Eq, Less, Concat, Not, Any, Mux, Slice, Reg, Read}
use Rattle.netlist.specs.Netlists.{Netlist, driver_of, is_input, line_of}

-- the number is one of these
abbrev pub IsOneOf : ℕ → List ℕ → Type 0
IsOneOf n [] = ⊥
IsOneOf n (m ∷ ms) = (n ≡ m) ⊎ IsOneOf n ms

-- the nets that a memory's write is made of
abbrev pub write_nets : Option MemWrite → List ℕ
write_nets None = []
write_nets (Some write) = write.enable ∷ write.address ∷ write.word ∷ []

abbrev pub memory_nets : Option Memory → List ℕ
memory_nets None = []
memory_nets (Some memory) = write_nets memory.write

-- the nets that an equation goes by: its operands, a register's next net, and for a read word also the nets of its memory's write
abbrev pub sources : List Memory → Equation → List ℕ
sources memories (Input port) = []
sources memories (Constant value) = []
sources memories (And a b) = a ∷ b ∷ []
sources memories (Or a b) = a ∷ b ∷ []
sources memories (Xor a b) = a ∷ b ∷ []
sources memories (Add a b) = a ∷ b ∷ []
sources memories (Sub a b) = a ∷ b ∷ []
sources memories (Eq a b) = a ∷ b ∷ []
sources memories (Less a b) = a ∷ b ∷ []
sources memories (Concat a b) = a ∷ b ∷ []
sources memories (Not a) = a ∷ []
sources memories (Any a) = a ∷ []
sources memories (Mux s a b) = s ∷ a ∷ b ∷ []
sources memories (Slice a high low) = a ∷ []
sources memories (Reg reset next) = next ∷ []
sources memories (Read m a) = a ∷ memory_nets (slice_get memories m)

-- the net is an input's, or it drives an output, or a needed net goes by it
pub data IsNeeded (netlist : Netlist) : ℕ → Type 0 where
  input : (n : ℕ) (line : Line) → slice_get netlist.lines n ≡ Some line → is_input line.equation ≡ true → IsNeeded netlist n
  drives : (k n : ℕ) → driver_of netlist k ≡ Some n → IsNeeded netlist n
  source : (n a : ℕ) (line : Line) → slice_get netlist.lines n ≡ Some line → IsOneOf a (sources netlist.memories line.equation)
      → IsNeeded netlist n → IsNeeded netlist a

-- a needed net reads the memory
pub record IsReadFrom (netlist : Netlist) (m : ℕ) : Type 0 where
  pub net : ℕ
  pub width : ℕ
  pub address : ℕ
  pub is : slice_get netlist.lines net ≡ Some (line_of width (Read m address))
  pub needed : IsNeeded netlist net
