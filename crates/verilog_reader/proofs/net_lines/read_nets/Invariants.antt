use Rattle.std.proofs.Common.{◌≡◌, ◌-◌, ◌≤◌, ◌^◌, length}
use Rattle.std.specs.Prelude.{All}
use Rattle.verilog_reader.specs.Spots.{found, IsWithin}
use Rattle.verilog_forms.specs.WholeTexts.{nets_form}
use Rattle.verilog_reader.specs.Sections.{HasBits}
use Rattle.verilog_reader.proofs.net_lines.read_nets.Given as goal

abbrev pub invariant-nets : goal.invariant-nets
invariant-nets l = record {
  within : IsWithin l.bytes l.at;
  few : length l.lines.items ≤ 2 ^ 20;
  widths : All HasBits l.lines.items;
  goes_on : found (nets_form (2 ^ 20 - length l.lines.items) l.memories l.lines.items) l.bytes l.at ≡ found (nets_form (2 ^ 20 - length l.fn.lines.items) l.memories l.fn.lines.items) l.bytes l.fn.spot;
}

abbrev pub decreases-nets : goal.decreases-nets
decreases-nets l = 2 ^ 20 - length l.lines.items
