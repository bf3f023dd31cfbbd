-- A few nets and a memory, for right sides behind them, and small modules, for whole texts.
use Rattle.std.specs.Prelude.{ℕ, true, false, List, [], ◌∷◌, Some, None, codes}
use Rattle.netlist.specs.declared.line.Equation.{Equation}
use Rattle.netlist.specs.declared.line.Equation.TheVariants.{Input, Reg, Read}
use Rattle.netlist.specs.declared.line.Line.{Line}
use Rattle.netlist.specs.declared.line.Memory.{Memory}
use Rattle.netlist.specs.Netlists.{Netlist, line_of, memory_with, started, write_of}
use Rattle.verilog_forms.specs.declared.rule.Rule.{Rule}
use Rattle.verilog_forms.specs.Forms.{Form, Reads, HasFault}
use Rattle.verilog_forms.specs.RightSides.{right_form}
use Rattle.verilog_forms.specs.WireLines.{wire_form}
use Rattle.verilog_forms.specs.MemoryLines.{memory_form}
use Rattle.verilog_forms.specs.Headers.{port_of}
use Rattle.verilog_forms.specs.WholeTexts.{written, nets_form, module_form}

-- nets 0 and 1 of 8 bits, net 2 of one bit, net 3 of 3 bits
abbrev pub four_nets : List Line
four_nets = line_of 8 (Input 0) ∷ line_of 8 (Input 1) ∷ line_of 1 (Input 2) ∷ line_of 3 (Input 3) ∷ []

-- 8 words of 8 bits
abbrev pub one_memory : List Memory
one_memory = memory_with 8 3 ∷ []

-- the right side of net 4, of w bits
abbrev pub fourth : ℕ → Form Equation
fourth w = right_form one_memory four_nets 4 w

-- on the right of net 4, of w bits, the text is the equation, and the rest stands behind it
abbrev pub IsReadAs : ℕ → List ℕ → Equation → List ℕ → Type 0
IsReadAs w text e rest = Reads (fourth w) text e rest

-- there the text breaks the rule at this place
abbrev pub IsRefused : ℕ → List ℕ → ℕ → Rule → Type 0
IsRefused w text at rule = HasFault (fourth w) text at rule

-- as the line of net 4, a wire, the text breaks the rule at this place
abbrev pub IsRefusedLine : List ℕ → ℕ → Rule → Type 0
IsRefusedLine text at rule = HasFault (wire_form one_memory four_nets 4) text at rule

-- as the line of memory 1 the text breaks the rule at this place
abbrev pub IsRefusedMemory : List ℕ → ℕ → Rule → Type 0
IsRefusedMemory text at rule = HasFault (memory_form 1) text at rule

-- the text is that of this module
abbrev pub IsReadWhole : List ℕ → Netlist → Type 0
IsReadWhole text one = Reads module_form text one []

-- as a whole text the text breaks the rule at this place
abbrev pub IsRefusedText : List ℕ → ℕ → Rule → Type 0
IsRefusedText text at rule = HasFault module_form text at rule

-- a module without ports of its own
abbrev pub idle : Netlist
idle = started (codes "idle_interconnect") []

-- an input, a register that takes it and begins with a5, and the register's output
abbrev pub one_register : Netlist
one_register = record {
  name = codes "t_interconnect";
  ports = port_of (codes "a$i$d") 8 false ∷ port_of (codes "b$i$q") 8 true ∷ [];
  lines = line_of 8 (Input 0) ∷ line_of 8 (Reg (record { width = 8; bits = 165 }) 0) ∷ [];
  drivers = None ∷ Some 1 ∷ [];
  memories = [];
}

-- a bit, an address, and a memory that the bit is written to where it is 1
abbrev pub one_write : Netlist
one_write = record {
  name = codes "t_interconnect";
  ports = port_of (codes "a$i$d") 1 false ∷ port_of (codes "b$i$d") 3 false ∷ port_of (codes "c$i$q") 1 true ∷ [];
  lines = line_of 1 (Input 0) ∷ line_of 3 (Input 1) ∷ line_of 1 (Read 0 1) ∷ [];
  drivers = None ∷ None ∷ Some 2 ∷ [];
  memories = written (memory_with 1 3) (write_of 0 1 0) ∷ [];
}

-- the nets behind these four where no more may come
abbrev pub full_form : Form (List Line)
full_form = nets_form 0 one_memory four_nets

-- there the text breaks the rule at this place
abbrev pub IsCrowded : List ℕ → ℕ → Rule → Type 0
IsCrowded text at rule = HasFault full_form text at rule
