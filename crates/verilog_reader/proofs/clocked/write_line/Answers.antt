use Rattle.std.proofs.Common.{true, false, sym, ◌∙◌, codes}
use Rattle.netlist.specs.Netlists.{write_of}
use Rattle.verilog_forms.specs.ClockedLines.{other_net_form}
use Rattle.verilog_reader.specs.ClockedParts.{written_memory_form}
use Rattle.verilog_reader.proofs.ClockedSteps.{always_found, other_net_as}
use Rattle.verilog_reader.proofs.clocked.write_line.Goals as goal

pub returns-then-next_is-clause-read : goal.returns-then-next_is-clause-read
returns-then-next_is-clause-read c = λ old all same counted.
    always_found (codes "  always @(posedge clk) if (") (other_net_form old) (written_memory_form all old c.args.number c.args.memory.now)
    (write_of 0 0 0) c.args.bytes.now c.args.spot c.fixed-begun.result c.other_net.result true c.fixed-begun.ensures.fixed (sym c.if-next_is.true ∙ c.next_is.ensures)
    (other_net_as (write_of 0 0 0) c.args.bytes.now old 0 c.fixed-begun.result c.other_net.result c.fixed-begun.ensures.within c.other_net.ensures.within (c.other_net.ensures.read old 0 same.count))

pub returns-else-next_is-clause-read : goal.returns-else-next_is-clause-read
returns-else-next_is-clause-read c = λ old all same counted.
    always_found (codes "  always @(posedge clk) if (") (other_net_form old) (written_memory_form all old c.args.number c.args.memory.now)
    c.written_memory.result.0 c.args.bytes.now c.args.spot c.fixed-begun.result c.written_memory.result.1 false c.fixed-begun.ensures.fixed (sym c.if-next_is.false ∙ c.next_is.ensures)
    (c.written_memory.ensures.read old all same counted)
