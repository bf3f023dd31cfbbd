use Rattle.std.proofs.Common.{sym, ◌∙◌, arith}
use Rattle.waves.proofs.RowLemmas.{no_text, at_end}
use Rattle.waves.proofs.rows.is_row.Goals as goal

pub returns-then-line-at : goal.returns-then-line-at
returns-then-line-at c = sym (c.values.invariant.0 ∙ no_text c.args.widths.now c.args.line.now c.values.width-index c.values.at c.values-test.true c.if-line-at.true)

pub returns : goal.returns
returns c = at_end c.args.widths.now c.args.line.now c.values.width-index c.values.at (omega arith) ∙ sym c.values.invariant.0
