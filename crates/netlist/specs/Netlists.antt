-- A netlist: what contracts see of a builder and of a module.
use Rattle.std.specs.Prelude.{◌≡◌, ◌≢◌, ℕ, ◌+◌, ◌-◌, ◌^◌, ◌<◌, ◌≤◌, Bool, true, false, not, List, [], ◌∷◌, ◌++◌, length, slice_get, slice_index_or, slice_set, take, map, All, AllPairs, count_by, Option, Some, None, option_map, IsSome, IfSome, if◌then◌else◌}
use Rattle.av_base.specs.Word.{IsWord}
use Rattle.av_base.specs.declared.value.Val.{Val}
use Rattle.netlist.specs.Names.{IsModuleName, IsPortName}
use Rattle.netlist.specs.Nets.{NetValue, MemValue}
use Rattle.netlist.specs.declared.line.Equation.{Equation}
use Rattle.netlist.specs.declared.line.Equation.TheVariants.{Input, Constant, And, Or, Xor, Add, Sub, Eq, Less, Concat, Not, Any, Mux, Slice, Reg, Read}
use Rattle.netlist.specs.declared.line.Line.{Line}
use Rattle.netlist.specs.declared.line.PortLine.{PortLine}
use Rattle.netlist.specs.declared.line.MemLine.{MemLine}
use Rattle.netlist.specs.declared.line.Memory.{Memory}
use Rattle.netlist.specs.declared.line.MemWrite.{MemWrite}

-- the module's name, its ports in header order, the line of each net, for each port the net that drives it, and the memories
pub record Netlist : Type 0 where
  pub name : List ℕ
  pub ports : List PortLine
  pub lines : List Line
  pub drivers : List (Option ℕ)
  pub memories : List Memory

abbrev pub line_with : ℕ → Equation → Bool → Line
line_with w e waits = record { width = w; equation = e; waits = waits }

-- a line that lacks nothing
abbrev pub line_of : ℕ → Equation → Line
line_of w e = line_with w e false

-- the width of net n, where there is one
abbrev pub width_at : List Line → ℕ → Option ℕ
width_at lines n = option_map (λ (line : Line). line.width) (slice_get lines n)

-- n is a net of this width
abbrev pub HasWidth : Netlist → ℕ → ℕ → Type 0
HasWidth netlist n w = width_at netlist.lines n ≡ Some w

-- the net is one of this netlist
abbrev pub IsNet : Netlist → NetValue → Type 0
IsNet netlist net = HasWidth netlist net.number net.width

-- the memory is one of this netlist
pub record IsMem (netlist : Netlist) (mem : MemValue) : Type 0 where
  pub memory : Memory
  pub is : slice_get netlist.memories mem.number ≡ Some memory
  pub width : memory.width ≡ mem.width
  pub address_bits : memory.address_bits ≡ mem.address_bits

-- the net that drives port k, where one does
abbrev pub driver_of : Netlist → ℕ → Option ℕ
driver_of netlist k = slice_index_or netlist.drivers k None

-- port k is an input of this width
pub record IsInputPort (ports : List PortLine) (k w : ℕ) : Type 0 where
  pub port : PortLine
  pub is : slice_get ports k ≡ Some port
  pub input : port.output ≡ false
  pub width : port.width ≡ w

-- port k is an output of this width
pub record IsOutputPort (ports : List PortLine) (k w : ℕ) : Type 0 where
  pub port : PortLine
  pub is : slice_get ports k ≡ Some port
  pub output : port.output ≡ true
  pub width : port.width ≡ w

-- how many of the ports are inputs
abbrev pub input_count : List PortLine → ℕ
input_count ports = count_by (λ (port : PortLine). not port.output) ports

-- the net of input port k: input nets are numbered in header order, outputs left out
abbrev pub input_net : List PortLine → ℕ → ℕ
input_net ports k = input_count (take k ports)

-- the lines of the input nets of ports that are numbered from k
abbrev pub input_lines : ℕ → List PortLine → List Line
input_lines k [] = []
input_lines k (port ∷ ports) =
    if port.output then input_lines (k + 1) ports else line_of port.width (Input k) ∷ input_lines (k + 1) ports

abbrev pub is_input : Equation → Bool
is_input (Input port) = true
is_input _ = false

abbrev pub is_register : Equation → Bool
is_register (Reg reset next) = true
is_register _ = false

-- the net whose value a register takes with the clock; None where it waits for one, and for other equations
abbrev pub next_in : Equation → Option ℕ
next_in (Reg reset next) = Some next
next_in _ = None

abbrev pub next_of : Line → Option ℕ
next_of line = if line.waits then None else next_in line.equation

-- net a stands before net n and has this width
pub record IsOperand (lines : List Line) (n a w : ℕ) : Type 0 where
  pub below : a < n
  pub width : width_at lines a ≡ Some w

-- the same for two nets
pub record AreOperands (lines : List Line) (n a b w : ℕ) : Type 0 where
  pub left : IsOperand lines n a w
  pub right : IsOperand lines n b w

pub record IsComparison (lines : List Line) (n w a b : ℕ) : Type 0 where
  pub width : ℕ
  pub operands : AreOperands lines n a b width
  pub one_bit : w ≡ 1

pub record IsConcatenation (lines : List Line) (n w a b : ℕ) : Type 0 where
  pub high_width : ℕ
  pub low_width : ℕ
  pub high : IsOperand lines n a high_width
  pub low : IsOperand lines n b low_width
  pub sum : w ≡ high_width + low_width

pub record IsAnyOf (lines : List Line) (n w a : ℕ) : Type 0 where
  pub width : ℕ
  pub operand : IsOperand lines n a width
  pub one_bit : w ≡ 1

pub record IsSliceOf (lines : List Line) (n w a high low : ℕ) : Type 0 where
  pub width : ℕ
  pub operand : IsOperand lines n a width
  pub order : low ≤ high
  pub inside : high < width
  pub bits : w ≡ high - low + 1

pub record IsChoice (lines : List Line) (n w s a b : ℕ) : Type 0 where
  pub test : IsOperand lines n s 1
  pub branches : AreOperands lines n a b w

-- the word of memory m at net a's address
pub record IsReadOf (memories : List Memory) (lines : List Line) (n w m a : ℕ) : Type 0 where
  pub memory : Memory
  pub is : slice_get memories m ≡ Some memory
  pub width : memory.width ≡ w
  pub address : IsOperand lines n a memory.address_bits

-- a value of this width
pub record IsValue (value : Val) (w : ℕ) : Type 0 where
  pub word : IsWord value.width value.bits
  pub width : value.width ≡ w

-- what the equation of net n, of this width, asks of the ports, memories and lines that it stands among
abbrev pub IsSound : List PortLine → List Memory → List Line → ℕ → ℕ → Equation → Type 0
IsSound ports memories lines n w (Input port) = IsInputPort ports port w
IsSound ports memories lines n w (Constant value) = IsValue value w
IsSound ports memories lines n w (And a b) = AreOperands lines n a b w
IsSound ports memories lines n w (Or a b) = AreOperands lines n a b w
IsSound ports memories lines n w (Xor a b) = AreOperands lines n a b w
IsSound ports memories lines n w (Add a b) = AreOperands lines n a b w
IsSound ports memories lines n w (Sub a b) = AreOperands lines n a b w
IsSound ports memories lines n w (Eq a b) = IsComparison lines n w a b
IsSound ports memories lines n w (Less a b) = IsComparison lines n w a b
IsSound ports memories lines n w (Concat a b) = IsConcatenation lines n w a b
IsSound ports memories lines n w (Not a) = IsOperand lines n a w
IsSound ports memories lines n w (Any a) = IsAnyOf lines n w a
IsSound ports memories lines n w (Mux s a b) = IsChoice lines n w s a b
IsSound ports memories lines n w (Slice a high low) = IsSliceOf lines n w a high low
IsSound ports memories lines n w (Reg reset next) = IsValue reset w
IsSound ports memories lines n w (Read m a) = IsReadOf memories lines n w m a

pub record IsSoundLine (ports : List PortLine) (memories : List Memory) (lines : List Line) (n : ℕ) (line : Line) : Type 0 where
  pub some_bit : 1 ≤ line.width
  pub small : line.width ≤ 128
  pub equation : IsSound ports memories lines n line.width line.equation
  pub next : IfSome (next_of line) (λ m. width_at lines m ≡ Some line.width)
  pub waits : line.waits ≡ true → is_register line.equation ≡ true

-- the write of a memory: a bit, an address and a word of its width
pub record IsWriteOf (lines : List Line) (memory : Memory) (write : MemWrite) : Type 0 where
  pub enable : width_at lines write.enable ≡ Some 1
  pub address : width_at lines write.address ≡ Some memory.address_bits
  pub word : width_at lines write.word ≡ Some memory.width

pub record IsSoundMemory (lines : List Line) (memory : Memory) : Type 0 where
  pub some_bit : 1 ≤ memory.width
  pub small : memory.width ≤ 128
  pub some_address : 1 ≤ memory.address_bits
  pub few_addresses : memory.address_bits ≤ 10
  pub write : IfSome memory.write (λ write. IsWriteOf lines memory write)

-- the name and the ports that a module may have
pub record IsHeader (name : List ℕ) (ports : List PortLine) : Type 0 where
  pub module_name : IsModuleName name
  pub port_names : All (λ (port : PortLine). IsPortName port.name) ports
  pub distinct : AllPairs (λ (p q : PortLine). p.name ≢ q.name) ports
  pub widths : All (λ (port : PortLine). (1 ≤ port.width) × (port.width ≤ 128)) ports
  pub few : length ports < 2 ^ 32

-- the first nets are the input ports in header order, and no other net is an input
pub record BeginsWithInputs (ports : List PortLine) (lines : List Line) : Type 0 where
  pub first : (n : ℕ) (line : Line) → slice_get (input_lines 0 ports) n ≡ Some line → slice_get lines n ≡ Some line
  pub no_others : (n : ℕ) (line : Line) → slice_get lines n ≡ Some line → is_input line.equation ≡ true
      → slice_get (input_lines 0 ports) n ≡ Some line

-- net n may drive port k: an output of its width
pub record IsDriver (netlist : Netlist) (k n : ℕ) : Type 0 where
  pub width : ℕ
  pub port : IsOutputPort netlist.ports k width
  pub net : HasWidth netlist n width

-- what each builder keeps
pub record IsWellMade (netlist : Netlist) : Type 0 where
  pub header : IsHeader netlist.name netlist.ports
  pub few : length netlist.lines ≤ 2 ^ 20
  pub inputs : BeginsWithInputs netlist.ports netlist.lines
  pub lines : (n : ℕ) (line : Line) → slice_get netlist.lines n ≡ Some line
      → IsSoundLine netlist.ports netlist.memories netlist.lines n line
  pub places : length netlist.drivers ≡ length netlist.ports
  pub drivers : (k n : ℕ) → driver_of netlist k ≡ Some n → IsDriver netlist k n
  pub few_memories : length netlist.memories ≤ 2 ^ 16
  pub memories : (m : ℕ) (memory : Memory) → slice_get netlist.memories m ≡ Some memory → IsSoundMemory netlist.lines memory

-- each output port has its driver
abbrev pub IsDriven : Netlist → Type 0
IsDriven netlist = (k w : ℕ) → IsOutputPort netlist.ports k w → IsSome (driver_of netlist k)

-- net n is a register that waits for its next net
pub record IsWaiting (netlist : Netlist) (n : ℕ) : Type 0 where
  pub line : Line
  pub is : slice_get netlist.lines n ≡ Some line
  pub waits : line.waits ≡ true

-- each register has its next net
abbrev pub IsClocked : Netlist → Type 0
IsClocked netlist = (n : ℕ) → ¬ IsWaiting netlist n

-- memory m waits for its write
pub record WaitsForWrite (netlist : Netlist) (m : ℕ) : Type 0 where
  pub memory : Memory
  pub is : slice_get netlist.memories m ≡ Some memory
  pub waits : memory.write ≡ None

-- each memory has its write
abbrev pub IsWritten : Netlist → Type 0
IsWritten netlist = (m : ℕ) → ¬ WaitsForWrite netlist m

-- what each module keeps
pub record IsModule (netlist : Netlist) : Type 0 where
  pub well_made : IsWellMade netlist
  pub driven : IsDriven netlist
  pub clocked : IsClocked netlist
  pub written : IsWritten netlist

-- no net drives the port yet
abbrev pub undriven : PortLine → Option ℕ
undriven port = None

-- a netlist with its input nets alone
abbrev pub started : List ℕ → List PortLine → Netlist
started name ports =
    record { name = name; ports = ports; lines = input_lines 0 ports; drivers = map undriven ports; memories = [] }

-- the netlist with one more line
abbrev pub appended : Netlist → Line → Netlist
appended netlist line = record netlist { lines = netlist.lines ++ line ∷ [] }

-- a register that waits; net n is its own
abbrev pub register_of : ℕ → Val → Line
register_of n reset = line_with reset.width (Reg reset n) true

abbrev pub next_set : Equation → ℕ → Equation
next_set (Reg reset next) m = Reg reset m
next_set e m = e

-- the line with its next net
abbrev pub with_next : Line → ℕ → Line
with_next line m = line_of line.width (next_set line.equation m)

-- the netlist in which line n is this one
abbrev pub with_line : Netlist → ℕ → Line → Netlist
with_line netlist n line = record netlist { lines = slice_set netlist.lines n line }

-- the netlist with port k driven by net n
abbrev pub with_driver : Netlist → ℕ → ℕ → Netlist
with_driver netlist k n = record netlist { drivers = slice_set netlist.drivers k (Some n) }

-- a memory that waits for its write
abbrev pub memory_with : ℕ → ℕ → Memory
memory_with w bits = record { width = w; address_bits = bits; write = None }

-- a memory with its write, as a line tells it
abbrev pub memory_of : MemLine → Memory
memory_of line = record {
  width = line.width;
  address_bits = line.address_bits;
  write = Some (record { enable = line.enable; address = line.address; word = line.word });
}

abbrev pub write_of : ℕ → ℕ → ℕ → MemWrite
write_of e a w = record { enable = e; address = a; word = w }

-- the netlist with one more memory
abbrev pub with_memory : Netlist → Memory → Netlist
with_memory netlist memory = record netlist { memories = netlist.memories ++ memory ∷ [] }

-- the netlist in which memory m, which is this one, has its write
abbrev pub with_write : Netlist → ℕ → Memory → MemWrite → Netlist
with_write netlist m memory write =
    record netlist { memories = slice_set netlist.memories m (record memory { write = Some write }) }
