use Rattle.std.proofs.Common.{subst}
use Rattle.verilog_reader.specs.declared.spot.Spot.{Spot}
use Rattle.verilog_forms.specs.WireLines.{high_test}
use Rattle.verilog_reader.specs.Spots.{Takes}
use Rattle.verilog_reader.specs.Holes.{width_told}
use Rattle.verilog_reader.proofs.holes.range.Goals as goal

pub returns-clause-read : goal.returns-clause-read
returns-clause-read c = record {
  inner = c.take-width.result.1;
  high = subst (λ (s : Spot). Takes high_test width_told c.args.bytes.now s c.take-width.result.0 c.take-width.result.1) c.fixed-opened.ensures.fixed (c.take-width.ensures.taken high_test width_told c.width_in.ensures.told);
  closes = c.fixed.ensures.fixed;
}
