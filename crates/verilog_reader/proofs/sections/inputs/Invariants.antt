use Rattle.std.proofs.Common.{◌≡◌, ◌≤◌, ◌^◌, length, drop}
use Rattle.std.specs.Prelude.{All}
use Rattle.verilog_reader.specs.Spots.{IsWithin}
use Rattle.verilog_forms.specs.WholeTexts.{inputs_form}
use Rattle.verilog_reader.specs.Sections.{Leads, HasBits}
use Rattle.verilog_reader.proofs.sections.inputs.Given as goal

abbrev pub invariant-port : goal.invariant-port
invariant-port l = record {
  within : IsWithin l.bytes l.spot;
  counted : l.number ≡ l.port-index;
  few : length l.lines.items ≤ 2 ^ 20;
  widths : All HasBits l.lines.items;
  reads : Leads (inputs_form 0 0 l.ports) l.bytes l.fn.start l.lines.items (inputs_form (length l.lines.items) l.port-index (drop l.port-index l.ports)) l.spot;
}
