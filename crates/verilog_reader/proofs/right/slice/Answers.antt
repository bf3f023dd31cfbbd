use Rattle.verilog_reader.proofs.RightSteps.{slice_found}
use Rattle.verilog_forms.specs.RightSides.{value_of}
use Rattle.verilog_reader.specs.Holes.{high_bound, low_bound}
use Rattle.verilog_reader.proofs.right.slice.Goals as goal

pub returns-clause-read : goal.returns-clause-read
returns-clause-read c =
    slice_found c.args.lines.now c.args.width c.args.a c.width_of.result c.args.bytes.now c.args.spot c.fixed-opened.result c.take-high.result.0 c.take-high.result.1 c.fixed-colon.result c.take-low.result.0 c.take-low.result.1 c.fixed.result
    c.width_of.ensures c.fixed-opened.ensures.fixed (c.take-high.ensures.taken (high_bound c.width_of.result) value_of c.high_in.ensures) c.fixed-colon.ensures.fixed
    (c.take-low.ensures.taken (low_bound c.take-high.result.0 c.args.width) value_of c.low_in.ensures) c.fixed.ensures.fixed
