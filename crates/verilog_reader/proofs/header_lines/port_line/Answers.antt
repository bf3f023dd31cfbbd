use Rattle.std.proofs.Common.{sym, ◌∙◌}
use Rattle.std.proofs.lemmas.Result.{IfOk-weaker}
use Rattle.verilog_reader.proofs.HeaderSteps.{output_found, input_found}
use Rattle.verilog_reader.proofs.header_lines.port_line.Goals as goal

pub returns-then-next_is-clause-read : goal.returns-then-next_is-clause-read
returns-then-next_is-clause-read c =
    IfOk-weaker c.described.result _ _
    (λ r h ports are. output_found c.args.bytes.now ports r.0 c.args.spot c.fixed-begun.result c.fixed-directed.result r.1 c.fixed-begun.ensures.fixed (sym c.if-next_is.true ∙ c.next_is.ensures) c.fixed-directed.ensures.fixed (h ports are))
    c.described.ensures.read

pub returns-else-next_is-clause-read : goal.returns-else-next_is-clause-read
returns-else-next_is-clause-read c =
    IfOk-weaker c.described-else-next_is.result _ _
    (λ r h ports are. input_found c.args.bytes.now ports r.0 c.args.spot c.fixed-begun.result c.fixed-directed-else-next_is.result r.1 c.fixed-begun.ensures.fixed (sym c.if-next_is.false ∙ c.next_is.ensures) c.fixed-directed-else-next_is.ensures.fixed (h ports are))
    c.described-else-next_is.ensures.read
