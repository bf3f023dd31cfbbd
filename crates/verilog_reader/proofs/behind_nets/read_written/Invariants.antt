use Rattle.std.proofs.Common.{◌≡◌, List, length, take, drop}
use Rattle.netlist.specs.declared.line.Line.{Line}
use Rattle.verilog_reader.specs.Spots.{IsWithin}
use Rattle.verilog_forms.specs.WholeTexts.{all_written_form}
use Rattle.verilog_reader.specs.ClockedParts.{SameWidths}
use Rattle.verilog_reader.specs.Sections.{Leads}
use Rattle.verilog_reader.proofs.behind_nets.read_written.Given as goal

abbrev pub invariant-memories : goal.invariant-memories
invariant-memories l =
    let all = l.fn.memories.items in
    record {
      within : IsWithin l.bytes l.spot;
      total : l.count ≡ length all;
      count : length l.memories.items ≡ length all;
      todo : drop l.number l.memories.items ≡ drop l.number all;
      leads : (old : List Line) → SameWidths old l.lines → Leads (all_written_form all old 0 all) l.bytes l.fn.start (take l.number l.memories.items) (all_written_form all old l.number (drop l.number all)) l.spot;
    }
