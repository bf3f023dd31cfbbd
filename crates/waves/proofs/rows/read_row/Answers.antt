use Rattle.std.proofs.Common.{arith}
use Rattle.waves.specs.Cuts.{texts}
use Rattle.waves.proofs.RowLemmas.{within_line, filled, row_widths}
use Rattle.waves.proofs.rows.read_row.Goals as goal

pub text_end-end-requires : goal.text_end-end-requires
text_end-end-requires c = within_line c.args.widths.now c.args.line.now c.values.k c.values.at (omega arith) c.values.invariant.1

pub returns-clause-widths : goal.returns-clause-widths
returns-clause-widths c =
    row_widths c.args.widths.now (texts c.args.line.now) c.values.into
    (filled c.args.widths.now c.args.line.now c.values.k c.values.at c.values.into (omega arith) c.values.invariant.2 c.values.invariant.0 c.values.invariant.1)
