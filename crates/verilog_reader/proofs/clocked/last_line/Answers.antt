use Rattle.std.proofs.Common.{true, false, sym, ◌∙◌}
use Rattle.verilog_reader.proofs.ClockedSteps.{last_found, ended_found}
use Rattle.verilog_reader.proofs.clocked.last_line.Goals as goal

pub returns-then-next_is-clause-read : goal.returns-then-next_is-clause-read
returns-then-next_is-clause-read c = λ old all one same counted.
    last_found all old c.args.assigned one c.args.bytes.now c.args.spot c.late_line.result true (sym c.if-next_is.true ∙ c.next_is.ensures) (c.late_line.ensures.read old all one same counted)

pub returns-else-next_is-clause-read : goal.returns-else-next_is-clause-read
returns-else-next_is-clause-read c = λ old all one same counted.
    last_found all old c.args.assigned one c.args.bytes.now c.args.spot c.end_of.result false (sym c.if-next_is.false ∙ c.next_is.ensures)
    (ended_found one c.args.bytes.now c.args.spot c.fixed-word.result c.end_of.result c.fixed-word.ensures.fixed (c.end_of.ensures.read one))
