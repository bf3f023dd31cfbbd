-- Masks to which the values of nets keep, and gaps that the words of memories leave.
use Rattle.std.specs.Prelude.{◌≡◌, ℕ, ◌^◌, ◌<◌, ◌≤◌, false, List, length, get_or, slice_get, Some, IfSome}
use Rattle.std.specs.Int.{bit_at}
use Rattle.netlist.specs.declared.line.Line.{Line}
use Rattle.netlist.specs.declared.line.Memory.{Memory}
use Rattle.netlist.specs.Netlists.{Netlist, HasWidth, is_register, next_in}
use Rattle.netlist.specs.Runs.{Cycle, NetHolds, reset_of}
use Rattle.narrowed_netlists.specs.declared.gaps.Gap.{Gap}
use Rattle.narrowed_netlists.specs.Gaps.{IsOpen, FitsIn}

-- of so many bits of the number, each is one of the mask's
abbrev pub AreIn : ℕ → ℕ → ℕ → Type 0
AreIn width n mask = (i : ℕ) → i < width → bit_at n i ≤ bit_at mask i

-- all bits but those below the lowest 1
pub record IsFromLowest (mask bits : ℕ) : Type 0 where
  pub lowest : ℕ
  pub below : (i : ℕ) → i < lowest → bit_at mask i ≡ 0
  pub above : (i : ℕ) → lowest ≤ i → i < 128 → bit_at bits i ≡ 1

-- each net below this one keeps to its mask, and each word of a memory leaves the memory's gap
pub record KeepsTo (netlist : Netlist) (masks : List ℕ) (gaps : List Gap) (count : ℕ) (cycle : Cycle) : Type 0 where
  pub fits : (a w : ℕ) → a < count → HasWidth netlist a w → cycle.net a < 2 ^ w
  pub nets : (a w : ℕ) → a < count → HasWidth netlist a w → AreIn w (cycle.net a) (get_or masks a 0)
  pub words : (m : ℕ) (gap : Gap) → slice_get gaps m ≡ Some gap → (address : ℕ) → IsOpen gap (cycle.cell m address)

-- These bits are all that net n may have, where the others keep to their masks: those that its equation gives; and for a register
-- those of its reset value, and of its next net's mask.
pub record Allows (netlist : Netlist) (masks : List ℕ) (gaps : List Gap) (n : ℕ) (line : Line) (bits : ℕ) : Type 0 where
  pub value : (cycle : Cycle) → KeepsTo netlist masks gaps n cycle → NetHolds netlist.lines cycle n line
      → is_register line.equation ≡ false → AreIn line.width (cycle.net n) bits
  pub reset : IfSome (reset_of line.equation) (λ x. AreIn line.width x bits)
  pub next : IfSome (next_in line.equation) (λ m. AreIn line.width (get_or masks m 0) bits)

-- what each net of the first may have is in its mask
abbrev pub AreAllowed : Netlist → List ℕ → List Gap → ℕ → Type 0
AreAllowed netlist masks gaps count = (n : ℕ) (line : Line) → n < count → slice_get netlist.lines n ≡ Some line
    → Allows netlist masks gaps n line (get_or masks n 0)

-- a gap inside each memory's words
pub record HasMemoryGap (gaps : List Gap) (m : ℕ) (memory : Memory) : Type 0 where
  pub gap : Gap
  pub is : slice_get gaps m ≡ Some gap
  pub fits : FitsIn gap memory.width

abbrev pub AreMemoryGaps : Netlist → List Gap → ℕ → Type 0
AreMemoryGaps netlist gaps count = (m : ℕ) (memory : Memory) → m < count → slice_get netlist.memories m ≡ Some memory
    → HasMemoryGap gaps m memory

-- a gap inside each net's value, in which its mask has no bit
pub record HasNetGap (masks : List ℕ) (gaps : List Gap) (n : ℕ) (line : Line) : Type 0 where
  pub gap : Gap
  pub is : slice_get gaps n ≡ Some gap
  pub fits : FitsIn gap line.width
  pub clear : IsOpen gap (get_or masks n 0)

abbrev pub AreNetGaps : Netlist → List ℕ → List Gap → ℕ → Type 0
AreNetGaps netlist masks gaps count = (n : ℕ) (line : Line) → n < count → slice_get netlist.lines n ≡ Some line
    → HasNetGap masks gaps n line

-- no word that is written to one of the first memories has a bit in its gap
abbrev pub AreOpen : Netlist → List ℕ → List Gap → ℕ → Type 0
AreOpen netlist masks gaps count = (m : ℕ) (memory : Memory) (gap : Gap) → m < count
    → slice_get netlist.memories m ≡ Some memory → slice_get gaps m ≡ Some gap
    → IfSome memory.write (λ write. IsOpen gap (get_or masks write.word 0))

-- masks to which nets keep in each cycle of every run, and the gaps of nets and of memories
pub record AreMasks (netlist : Netlist) (masks : List ℕ) (registers memories : List Gap) : Type 0 where
  pub allowed : AreAllowed netlist masks memories (length netlist.lines)
  pub registers_fit : AreNetGaps netlist masks registers (length netlist.lines)
  pub memories_fit : AreMemoryGaps netlist memories (length netlist.memories)
  pub many_registers : length registers ≡ length netlist.lines
  pub many_memories : length memories ≡ length netlist.memories
  pub written : AreOpen netlist masks memories (length netlist.memories)
