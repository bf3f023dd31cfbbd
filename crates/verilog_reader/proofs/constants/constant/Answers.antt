use Rattle.verilog_reader.specs.Holes.{width_bound, hex_bound, constant_told}
use Rattle.verilog_reader.proofs.Hexes.{constant_found}
use Rattle.verilog_reader.proofs.constants.constant.Goals as goal

pub returns-clause-read : goal.returns-clause-read
returns-clause-read c =
    constant_found c.args.width c.args.bytes.now c.args.spot c.take-behind.result.0 c.take-behind.result.1 c.fixed-marked.result c.take.result.0 c.take.result.1
    (c.take-behind.ensures.taken (width_bound c.args.width) (λ run. c.args.width) c.constant_width_in.ensures) c.fixed-marked.ensures.fixed (c.take.ensures.taken (hex_bound c.args.width) (constant_told c.args.width) c.hex_in.ensures)
