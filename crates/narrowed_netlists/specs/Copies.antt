-- Nets and memories of a module, made anew in a longer netlist, without the bits in their gaps.
use Rattle.std.specs.Prelude.{◌≡◌, ◌⊎◌, ℕ, ◌+◌, ◌-◌, ◌^◌, ◌<◌, ◌≤◌, ◌==◌, ◌&&◌, if◌then◌else◌, true, false, List, length, slice_get, slice_index_or, Some, option_map, IfSome}
use Rattle.av_base.specs.declared.value.Val.{Val}
use Rattle.netlist.specs.declared.line.Line.{Line}
use Rattle.netlist.specs.declared.line.Memory.{Memory}
use Rattle.netlist.specs.declared.line.Equation.{Equation}
use Rattle.netlist.specs.declared.line.Equation.TheVariants.{Input, Constant}
use Rattle.netlist.specs.Nets.{NetValue, MemValue, net_of, mem_of}
use Rattle.netlist.specs.Netlists.{Netlist, IsMem, IsWaiting, WaitsForWrite, appended, driver_of, input_lines, input_net, is_register, line_of, next_in}
use Rattle.netlist.specs.Runs.{Run, Cycle, IsRun, IsValuation, NetHolds, reset_of}
use Rattle.netlist.specs.Longer.{Extends}
use Rattle.net_parts.specs.Nets.{IsNetOfWidth, IsRegister}
use Rattle.net_parts.specs.Growth.{GrowsAlike}
use Rattle.narrowed_netlists.specs.declared.gaps.Gap.{Gap}
use Rattle.narrowed_netlists.specs.Gaps.{narrowed, widened}
use Rattle.narrowed_netlists.specs.Narrowed.{AreFixed}

-- ---- one net

-- a net of this width, of whose value this holds in each valuation
pub record IsNetThat (old new : Netlist) (net : NetValue) (width : ℕ) (value : Cycle → ℕ) : Type 0 where
  pub net_is : IsNetOfWidth new net width
  pub is : (cycle : Cycle) → IsValuation new cycle → cycle.net net.number ≡ value cycle
  pub grows : GrowsAlike old new

-- the number of the net that stands for net n
abbrev pub number_at : List NetValue → ℕ → ℕ
number_at nets n = (slice_index_or nets n (net_of 0 0)).number

-- a cycle of the whole module with what these nets show, and with zeros in the gaps of its memories
pub record Shows (nets : List NetValue) (gaps : List Gap) (cycle whole : Cycle) : Type 0 where
  pub input : (port : ℕ) → whole.input port ≡ cycle.input port
  pub net : (n : ℕ) (net : NetValue) → slice_get nets n ≡ Some net → whole.net n ≡ cycle.net net.number
  pub cell : (m : ℕ) (gap : Gap) → slice_get gaps m ≡ Some gap → (address : ℕ)
      → whole.cell m address ≡ widened gap (cycle.cell m address)

-- of a register of this width and equation: what it keeps, from which its net comes
pub record IsCoreOf (netlist : Netlist) (gap : Gap) (width : ℕ) (equation : Equation) (net core : NetValue) : Type 0 where
  pub core_is : IsNetOfWidth netlist core (width - gap.zeros)
  pub register : IsRegister netlist core.number
  pub wide : (cycle : Cycle) → IsValuation netlist cycle → cycle.net net.number ≡ widened gap (cycle.net core.number)
  pub starts : IfSome (reset_of equation) (λ x. (run : Run) (cycles : ℕ) → IsRun netlist run cycles → 0 < cycles
      → run.net 0 core.number ≡ narrowed gap x)

-- the net shows what net n of the whole module does where the others do
pub record IsCopyOf (whole netlist : Netlist) (registers memories : List Gap) (nets : List NetValue) (n : ℕ) (line : Line)
    (net core : NetValue) : Type 0 where
  pub net_is : IsNetOfWidth netlist net line.width
  pub holds : (cycle : Cycle) → IsValuation netlist cycle → (seen : Cycle) → Shows nets memories cycle seen
      → NetHolds whole.lines seen n line
  pub input : (port : ℕ) → line.equation ≡ Input port → net.number ≡ input_net whole.ports port
  pub register : (gap : Gap) → slice_get registers n ≡ Some gap → is_register line.equation ≡ true
      → IsCoreOf netlist gap line.width line.equation net core

-- a copy stands in the lists
pub record HasCopy (whole netlist : Netlist) (registers memories : List Gap) (nets cores : List NetValue) (n : ℕ)
    (line : Line) : Type 0 where
  pub net : NetValue
  pub net_at : slice_get nets n ≡ Some net
  pub core : NetValue
  pub core_at : slice_get cores n ≡ Some core
  pub copy : IsCopyOf whole netlist registers memories nets n line net core

abbrev pub HaveCopies : Netlist → Netlist → List Gap → List Gap → List NetValue → List NetValue → ℕ → Type 0
HaveCopies whole netlist registers memories nets cores count = (n : ℕ) (line : Line) → n < count
    → slice_get whole.lines n ≡ Some line → HasCopy whole netlist registers memories nets cores n line

-- a net stands for each of the first
pub record HasNet (netlist : Netlist) (nets : List NetValue) (n : ℕ) (line : Line) : Type 0 where
  pub net : NetValue
  pub net_at : slice_get nets n ≡ Some net
  pub net_is : IsNetOfWidth netlist net line.width

abbrev pub AreNets : Netlist → Netlist → List NetValue → ℕ → Type 0
AreNets whole netlist nets count = (n : ℕ) (line : Line) → n < count → slice_get whole.lines n ≡ Some line
    → HasNet netlist nets n line

-- the net is a constant that was appended
pub record IsNewConstant (old new : Netlist) (width : ℕ) (value : Val) (net : NetValue) : Type 0 where
  pub appended : new ≡ appended old (line_of width (Constant value))
  pub number : net.number ≡ length old.lines

-- the net was made for net n, which is no register; an input has its net already
pub record IsOperatorCopy (whole old new : Netlist) (memories : List Gap) (nets : List NetValue) (n : ℕ) (line : Line)
    (net : NetValue) : Type 0 where
  pub net_is : IsNetOfWidth new net line.width
  pub holds : (cycle : Cycle) → IsValuation new cycle → (seen : Cycle) → Shows nets memories cycle seen
      → seen.net n ≡ cycle.net net.number → NetHolds whole.lines seen n line
  pub input : (port : ℕ) → line.equation ≡ Input port → net.number ≡ input_net whole.ports port
  pub same : (port : ℕ) → line.equation ≡ Input port → new ≡ old
  pub constant : (value : Val) → line.equation ≡ Constant value → IsNewConstant old new line.width value net
  pub plain : is_register line.equation ≡ false
  pub grows : GrowsAlike old new

-- the net was made for a register of this width and equation; its core waits
pub record IsRegisterCopy (old new : Netlist) (gap : Gap) (width : ℕ) (equation : Equation) (net core : NetValue) : Type 0 where
  pub net_is : IsNetOfWidth new net width
  pub kept : IsCoreOf new gap width equation net core
  pub extends : Extends old new
  pub drivers : new.drivers ≡ old.drivers
  pub memories : new.memories ≡ old.memories
  pub still_wait : (n : ℕ) → IsWaiting old n → IsWaiting new n
  pub newly : (n : ℕ) → IsWaiting new n → IsWaiting old n ⊎ (n ≡ core.number)
  pub core_waits : IsWaiting new core.number
  pub core_is_new : length old.lines ≤ core.number

-- ---- registers that wait

-- the core of a register of the whole module
pub record IsRegisterCore (whole : Netlist) (cores : List NetValue) (n : ℕ) (core : NetValue) : Type 0 where
  pub line : Line
  pub at : slice_get whole.lines n ≡ Some line
  pub register : is_register line.equation ≡ true
  pub core_at : slice_get cores n ≡ Some core

-- the core of a register from place `low` on, below `count`
pub record IsLaterCore (whole : Netlist) (cores : List NetValue) (low count number : ℕ) : Type 0 where
  pub place : ℕ
  pub from : low ≤ place
  pub below : place < count
  pub core : NetValue
  pub is : IsRegisterCore whole cores place core
  pub number_is : number ≡ core.number

-- those registers wait whose places are from `low` on, and a later register has a later core
pub record AreWaiting (whole netlist : Netlist) (cores : List NetValue) (low count : ℕ) : Type 0 where
  pub all : (n : ℕ) (core : NetValue) → low ≤ n → n < count → IsRegisterCore whole cores n core → IsWaiting netlist core.number
  pub only : (number : ℕ) → IsWaiting netlist number → IsLaterCore whole cores low count number
  pub rising : (i j : ℕ) (one other : NetValue) → i < j → IsRegisterCore whole cores i one
      → IsRegisterCore whole cores j other → one.number < other.number

-- the first registers take what their next nets were, without the bits in their gaps
abbrev pub HaveNext : Netlist → Netlist → List Gap → List NetValue → List NetValue → ℕ → Type 0
HaveNext whole netlist registers nets cores count = (n : ℕ) (line : Line) (core : NetValue) (gap : Gap) → n < count
    → slice_get whole.lines n ≡ Some line → slice_get cores n ≡ Some core → slice_get registers n ≡ Some gap
    → IfSome (next_in line.equation) (λ next. (run : Run) (cycles : ℕ) → IsRun netlist run cycles → (c : ℕ) → c + 1 < cycles
    → run.net (c + 1) core.number ≡ narrowed gap (run.net c (number_at nets next)))

-- ---- inputs and constants

-- where the first nets are inputs and constants, each stands where it stood
pub record KeepsFixed (whole netlist : Netlist) (nets : List NetValue) (count : ℕ) : Type 0 where
  pub number : (n : ℕ) (net : NetValue) → n < count → slice_get nets n ≡ Some net → AreFixed whole (n + 1) → net.number ≡ n
  pub line : (n : ℕ) (line : Line) → n < count → slice_get whole.lines n ≡ Some line → AreFixed whole (n + 1)
      → slice_get netlist.lines n ≡ Some line

-- so many nets stand, where the first nets are inputs and constants
pub record AddsFixed (whole netlist : Netlist) (count : ℕ) : Type 0 where
  pub among : AreFixed whole count → count ≤ length (input_lines 0 whole.ports)
      → length netlist.lines ≡ length (input_lines 0 whole.ports)
  pub behind : AreFixed whole count → length (input_lines 0 whole.ports) ≤ count → length netlist.lines ≡ count

-- ---- memories

-- the memory that stands for memory m
pub record HasNarrowMemory (netlist : Netlist) (gaps : List Gap) (m : ℕ) (memory : Memory) : Type 0 where
  pub gap : Gap
  pub gap_at : slice_get gaps m ≡ Some gap
  pub is : IsMem netlist (mem_of m (memory.width - gap.zeros) memory.address_bits)

abbrev pub HaveMemories : Netlist → Netlist → List Gap → ℕ → Type 0
HaveMemories whole netlist gaps count = (m : ℕ) (memory : Memory) → m < count → slice_get whole.memories m ≡ Some memory
    → HasNarrowMemory netlist gaps m memory

-- the handles of memories
abbrev pub AreMems : Netlist → List Gap → List MemValue → ℕ → Type 0
AreMems whole gaps mems count = (m : ℕ) (memory : Memory) (gap : Gap) → m < count → slice_get whole.memories m ≡ Some memory
    → slice_get gaps m ≡ Some gap
    → slice_get mems m ≡ Some (mem_of m (memory.width - gap.zeros) memory.address_bits)

-- those memories wait for their write whose places are from `low` on, below `count`
pub record MemoriesWait (netlist : Netlist) (low count : ℕ) : Type 0 where
  pub all : (m : ℕ) → low ≤ m → m < count → WaitsForWrite netlist m
  pub only : (m : ℕ) → WaitsForWrite netlist m → (low ≤ m) × (m < count)

-- the first memories take what is written to them, without the bits in their gaps
abbrev pub HaveWrites : Netlist → Netlist → List Gap → List NetValue → ℕ → Type 0
HaveWrites whole netlist gaps nets count = (m : ℕ) (memory : Memory) (gap : Gap) → m < count
    → slice_get whole.memories m ≡ Some memory → slice_get gaps m ≡ Some gap
    → IfSome memory.write (λ write. (run : Run) (cycles : ℕ) → IsRun netlist run cycles → (c : ℕ) → c + 1 < cycles
    → (address : ℕ) → address < 2 ^ memory.address_bits
    → run.cell (c + 1) m address
    ≡ (if (run.net c (number_at nets write.enable) == 1) && (run.net c (number_at nets write.address) == address)
    then narrowed gap (run.net c (number_at nets write.word)) else run.cell c m address))

-- ---- outputs

-- what drives the first ports
abbrev pub AreDriven : Netlist → Netlist → List NetValue → ℕ → Type 0
AreDriven whole netlist nets count = (k : ℕ) → k < count → driver_of netlist k ≡ option_map (number_at nets) (driver_of whole k)

-- the netlist is the whole module made anew
pub record IsMadeAnew (whole netlist : Netlist) (registers memories : List Gap) (nets cores : List NetValue) : Type 0 where
  pub name : netlist.name ≡ whole.name
  pub ports : netlist.ports ≡ whole.ports
  pub copies : HaveCopies whole netlist registers memories nets cores (length whole.lines)
  pub next : HaveNext whole netlist registers nets cores (length whole.lines)
  pub narrow : HaveMemories whole netlist memories (length whole.memories)
  pub writes : HaveWrites whole netlist memories nets (length whole.memories)
  pub driven : AreDriven whole netlist nets (length whole.ports)
  pub fixed : KeepsFixed whole netlist nets (length whole.lines)
