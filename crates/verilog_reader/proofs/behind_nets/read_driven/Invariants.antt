use Rattle.std.proofs.Common.{◌≡◌, false, List, length, drop}
use Rattle.netlist.specs.declared.line.Line.{Line}
use Rattle.netlist.specs.declared.line.Memory.{Memory}
use Rattle.verilog_reader.specs.Spots.{IsWithin}
use Rattle.verilog_forms.specs.WholeTexts.{all_driven_form}
use Rattle.verilog_reader.specs.ClockedParts.{SameWidths}
use Rattle.verilog_reader.specs.Sections.{Leads}
use Rattle.verilog_reader.proofs.behind_nets.read_driven.Given as goal

abbrev pub invariant-ports : goal.invariant-ports
invariant-ports l = record {
  within : IsWithin l.bytes l.spot;
  leads : (old : List Line) (all : List Memory) → SameWidths old l.lines → length all ≡ l.memories
      → Leads (all_driven_form all old false l.ports) l.bytes l.fn.start l.drivers.items (all_driven_form all old l.assigned (drop l.port-index l.ports)) l.spot;
}
