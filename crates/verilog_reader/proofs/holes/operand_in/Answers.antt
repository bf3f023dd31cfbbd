use Rattle.std.proofs.Common.{sym, ◌∙◌, arith}
use Rattle.verilog_reader.specs.Holes.{fits}
use Rattle.verilog_reader.proofs.Numbers.{operand_passes_by, operand_breaks_by}
use Rattle.verilog_reader.proofs.holes.operand_in.Goals as goal

pub returns-then-not-fits : goal.returns-then-not-fits
returns-then-not-fits c =
    let told = c.in-Some.ensures in
    operand_breaks_by c.args.lines.now (fits c.args.wanted) c.args.run.now c.in-Some.net c.index-lines-net.result told.0 told.1 (omega arith) c.requires (sym c.fits.ensures ∙ c.if-not-fits.true)

pub returns : goal.returns
returns c =
    let told = c.in-Some.ensures in
    operand_passes_by c.args.lines.now (fits c.args.wanted) c.args.run.now c.in-Some.net c.index-lines-net.result told.0 told.1 (omega arith) c.requires (sym c.fits.ensures ∙ c.if-not-fits.false)
