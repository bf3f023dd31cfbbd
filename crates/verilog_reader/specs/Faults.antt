-- Why a text is not read.
use Rattle.std.specs.Prelude.{◌≡◌, ℕ, List, Option, Some, None}
use Rattle.netlist.specs.declared.line.Line.{Line}
use Rattle.netlist.specs.declared.line.Memory.{Memory}
use Rattle.netlist.specs.Netlists.{Netlist}
use Rattle.verilog_forms.specs.declared.rule.Rule.{Rule}
use Rattle.verilog_forms.specs.declared.rule.Rule.TheVariants.{TooManyNets}
use Rattle.verilog_reader.specs.declared.reading.TextFault.{TextFault}
use Rattle.verilog_reader.specs.declared.reading.TextFault.TheVariants.{Refused, TooManyNets as NoRoom, NoMemory}
use Rattle.verilog_reader.specs.declared.parts.Parts.{Parts}
use Rattle.verilog_forms.specs.Rules.{number_of}
use Rattle.verilog_forms.specs.Forms.{HasFault}
use Rattle.verilog_forms.specs.WholeTexts.{module_form}

abbrev pub fault_by : ℕ → Option ℕ → TextFault
fault_by at (Some number) = Refused at number
fault_by at None = NoRoom

-- the fault of a text that breaks the rule at this byte
abbrev pub fault_of : ℕ → Rule → TextFault
fault_of at rule = fault_by at (number_of rule)

-- the first fault of the text, if one is told
abbrev pub IsTextFault : List ℕ → TextFault → Type 0
IsTextFault text (Refused byte number) = (rule : Rule) × (number_of rule ≡ Some number) × HasFault module_form text byte rule
IsTextFault text NoRoom = (at : ℕ) × HasFault module_form text at TooManyNets
IsTextFault text NoMemory = Unit {0}

-- the netlist that is read
abbrev pub netlist_of : Parts → Netlist
netlist_of p =
    record { name = p.name; ports = p.ports; lines = p.lines.items; drivers = p.drivers.items; memories = p.memories.items }

-- the netlist with what stands behind the nets
abbrev pub with_parts : Netlist → List Line → List (Option ℕ) → List Memory → Netlist
with_parts header lines drivers memories = record header { lines = lines; drivers = drivers; memories = memories }
