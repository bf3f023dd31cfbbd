use Rattle.std.proofs.Common.{true, false, sym, ◌∙◌}
use Rattle.verilog_forms.specs.ClockedLines.{driver_form}
use Rattle.verilog_reader.proofs.ClockedSteps.{none_clocked_found}
use Rattle.verilog_reader.proofs.clocked.assign_line.Goals as goal

pub returns-then-clocked_next-clause-read : goal.returns-then-clocked_next-clause-read
returns-then-clocked_next-clause-read c = λ old all same counted.
    none_clocked_found all old c.args.assigned (driver_form old c.args.port.now) 0 c.args.bytes.now c.args.spot c.fixed-begun.result c.other_clocked.result true c.fixed-begun.ensures.fixed (sym c.if-clocked_next.true ∙ c.clocked_next.ensures)
    (c.other_clocked.ensures.among_outputs old all 0 same counted)

pub returns-else-clocked_next-clause-read : goal.returns-else-clocked_next-clause-read
returns-else-clocked_next-clause-read c = λ old all same counted.
    none_clocked_found all old c.args.assigned (driver_form old c.args.port.now) c.driver.result.0 c.args.bytes.now c.args.spot c.fixed-begun.result c.driver.result.1 false c.fixed-begun.ensures.fixed (sym c.if-clocked_next.false ∙ c.clocked_next.ensures)
    (c.driver.ensures.read old same)
