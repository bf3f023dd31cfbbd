use Rattle.std.proofs.Common.{rules, ◌≡◌, ◌+◌, ◌-◌, ◌++◌, [], ◌∷◌, length, take, drop, None, sym, ◌∙◌, subst, arith}
use Rattle.waves.specs.Rows.{row_rule}
use Rattle.waves.specs.Cuts.{lines}
use Rattle.waves.specs.declared.faults.WavesRule.TheVariants.{Lines}
use Rattle.waves.proofs.Reading.{IsReading, faulty, next_reading, one_too_many, bad_row, one_missing, all_read}
use Rattle.waves.proofs.whole.starts_of.Goals as goal

pub returns-then-due-len-clause-fault : goal.returns-then-due-len-clause-fault
returns-then-due-len-clause-fault c =
    faulty c.args.widths.now c.args.due (length c.lines.starts.items) c.len-then-due-len.result (lines (drop c.args.from c.args.bytes.now)) Lines c.refused.result c.refused.ensures (search rules)
    (one_too_many c.args.widths.now c.args.bytes.now c.args.from c.args.due c.lines.at c.lines.starts.items c.first_line-line.result.len c.first_line-line.result.next c.lines.invariant (omega arith) c.first_line-line.ensures.line)

pub returns-in-Some-clause-fault : goal.returns-in-Some-clause-fault
returns-in-Some-clause-fault c =
    faulty c.args.widths.now c.args.due (length c.lines.starts.items) c.len-in-Some.result (lines (drop c.args.from c.args.bytes.now)) c.in-Some.rule c.refused-in-Some.result c.refused-in-Some.ensures (search rules)
    (bad_row c.args.widths.now c.args.bytes.now c.args.from c.args.due c.lines.at c.lines.starts.items c.first_line-line.result.len c.first_line-line.result.next c.in-Some.rule c.lines.invariant (omega arith) c.first_line-line.ensures.line
    (sym c.row_rule.ensures ∙ c.in-Some.is))

pub returns-then-len-due-clause-fault : goal.returns-then-len-due-clause-fault
returns-then-len-due-clause-fault c =
    faulty c.args.widths.now c.args.due (length c.lines.starts.items) c.len-then-len-due.result (lines (drop c.args.from c.args.bytes.now)) Lines c.refused-then-len-due.result c.refused-then-len-due.ensures (search rules)
    (one_missing c.args.widths.now c.args.bytes.now c.args.from c.args.due c.lines.at c.lines.starts.items c.lines.invariant (omega arith) (omega arith))

pub lines-preserved : goal.lines-preserved
lines-preserved c =
    let none : row_rule c.args.widths.now (take (c.lines.at + c.first_line-line.result.len - c.lines.at) (drop c.lines.at c.args.bytes.now)) ≡ None = search rules in
    let items : c.push.new.self.items ≡ c.lines.starts.items ++ c.lines.at ∷ [] = search rules in
    subst (λ xs. IsReading c.args.widths.now c.args.bytes.now c.args.from c.args.due (c.lines.at + c.first_line-line.result.next) xs) (sym items)
    (next_reading c.args.widths.now c.args.bytes.now c.args.from c.args.due c.lines.at c.lines.starts.items c.first_line-line.result.len c.first_line-line.result.next c.lines.invariant c.lines-test.true (omega arith)
    c.first_line-line.ensures.line c.first_line-line.ensures.end none)

pub returns-clause-rows : goal.returns-clause-rows
returns-clause-rows c = all_read c.args.widths.now c.args.bytes.now c.args.from c.args.due c.lines.at c.lines.starts.items c.lines.invariant (omega arith)
