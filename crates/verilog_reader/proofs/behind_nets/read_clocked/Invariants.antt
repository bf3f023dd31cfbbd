use Rattle.std.proofs.Common.{◌≡◌, List, length, take, drop}
use Rattle.netlist.specs.declared.line.Memory.{Memory}
use Rattle.verilog_reader.specs.Spots.{IsWithin}
use Rattle.verilog_forms.specs.WholeTexts.{all_clocked_form}
use Rattle.verilog_reader.specs.ClockedParts.{SameWidths}
use Rattle.verilog_reader.specs.Sections.{Leads}
use Rattle.verilog_reader.proofs.behind_nets.read_clocked.Given as goal

abbrev pub invariant-nets : goal.invariant-nets
invariant-nets l =
    let old = l.fn.lines.items in
    record {
      within : IsWithin l.bytes l.spot;
      count : l.net-end ≡ length old;
      same : SameWidths old l.lines.items;
      todo : drop l.net l.lines.items ≡ drop l.net old;
      leads : (all : List Memory) → length all ≡ l.memories → Leads (all_clocked_form all old 0 old) l.bytes l.fn.start (take l.net l.lines.items) (all_clocked_form all old l.net (drop l.net old)) l.spot;
    }
