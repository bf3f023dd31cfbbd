use Rattle.std.proofs.Common.{true, false, sym, ◌∙◌, codes}
use Rattle.verilog_forms.specs.ClockedLines.{other_net_form, other_memory_form}
use Rattle.verilog_reader.proofs.ClockedSteps.{always_found, other_net_as, other_memory_as}
use Rattle.verilog_reader.proofs.clocked.other_clocked.Goals as goal

pub returns-then-next_is-clause-among_outputs : goal.returns-then-next_is-clause-among_outputs
returns-then-next_is-clause-among_outputs c = λ old all none same counted.
    always_found (codes "lways @(posedge clk) if (") (other_net_form old) (other_memory_form all old)
    none c.args.bytes.now c.args.spot c.fixed-begun.result c.other_net.result true c.fixed-begun.ensures.fixed (sym c.if-next_is.true ∙ c.next_is.ensures)
    (c.other_net.ensures.read old none same.count)

pub returns-then-next_is-clause-at_the_end : goal.returns-then-next_is-clause-at_the_end
returns-then-next_is-clause-at_the_end c = λ old all one same counted.
    always_found (codes "lways @(posedge clk) if (") (other_net_form old) (other_memory_form all old)
    one c.args.bytes.now c.args.spot c.fixed-begun.result c.other_net.result true c.fixed-begun.ensures.fixed (sym c.if-next_is.true ∙ c.next_is.ensures)
    (other_net_as one c.args.bytes.now old 0 c.fixed-begun.result c.other_net.result c.fixed-begun.ensures.within c.other_net.ensures.within (c.other_net.ensures.read old 0 same.count))

pub returns-else-next_is-clause-among_outputs : goal.returns-else-next_is-clause-among_outputs
returns-else-next_is-clause-among_outputs c = λ old all none same counted.
    always_found (codes "lways @(posedge clk) if (") (other_net_form old) (other_memory_form all old)
    none c.args.bytes.now c.args.spot c.fixed-begun.result c.other_memory.result false c.fixed-begun.ensures.fixed (sym c.if-next_is.false ∙ c.next_is.ensures)
    (c.other_memory.ensures.read old all none same counted)

pub returns-else-next_is-clause-at_the_end : goal.returns-else-next_is-clause-at_the_end
returns-else-next_is-clause-at_the_end c = λ old all one same counted.
    always_found (codes "lways @(posedge clk) if (") (other_net_form old) (other_memory_form all old)
    one c.args.bytes.now c.args.spot c.fixed-begun.result c.other_memory.result false c.fixed-begun.ensures.fixed (sym c.if-next_is.false ∙ c.next_is.ensures)
    (other_memory_as one c.args.bytes.now all old 0 c.fixed-begun.result c.other_memory.result c.fixed-begun.ensures.within c.other_memory.ensures.within (c.other_memory.ensures.read old all 0 same counted))
