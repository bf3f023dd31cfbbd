use Rattle.std.proofs.Common.{true, false, sym, ◌∙◌, codes}
use Rattle.verilog_forms.specs.ClockedLines.{other_memory_form}
use Rattle.verilog_reader.specs.ClockedParts.{clocked_register_form}
use Rattle.verilog_reader.proofs.ClockedSteps.{always_found, other_memory_as}
use Rattle.verilog_reader.proofs.clocked.clock_line.Goals as goal

pub returns-then-next_is-clause-read : goal.returns-then-next_is-clause-read
returns-then-next_is-clause-read c = λ old all same counted.
    always_found (codes "  always @(posedge clk) if (") (clocked_register_form old c.args.net c.args.line.width) (other_memory_form all old)
    c.clocked_register.result.0 c.args.bytes.now c.args.spot c.fixed-begun.result c.clocked_register.result.1 true c.fixed-begun.ensures.fixed (sym c.if-next_is.true ∙ c.next_is.ensures)
    (c.clocked_register.ensures.read old same)

pub returns-else-next_is-clause-read : goal.returns-else-next_is-clause-read
returns-else-next_is-clause-read c = λ old all same counted.
    always_found (codes "  always @(posedge clk) if (") (clocked_register_form old c.args.net c.args.line.width) (other_memory_form all old)
    c.args.line c.args.bytes.now c.args.spot c.fixed-begun.result c.other_memory.result false c.fixed-begun.ensures.fixed (sym c.if-next_is.false ∙ c.next_is.ensures)
    (other_memory_as c.args.line c.args.bytes.now all old 0 c.fixed-begun.result c.other_memory.result c.fixed-begun.ensures.within c.other_memory.ensures.within (c.other_memory.ensures.read old all 0 same counted))
