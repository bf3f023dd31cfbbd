use Rattle.std.proofs.Common.{refl, sym, ap, ◌∙◌, length, slice_get}
use Rattle.std.proofs.lemmas.Bool.{ltb-true}
use Rattle.std.proofs.lemmas.Option.{slice_get_read}
use Rattle.netlist.specs.Netlists.{Netlist}
use Rattle.row_steps.proofs.steps.output_at.Goals as goal

pub output-requires-clause-port_is : goal.output-requires-clause-port_is
output-requires-clause-port_is c =
    let ports = c.ports.ensures ∙ ap (λ (n : Netlist). n.ports) c.module.ensures in (
      c.in_ok-line.line.now.width,
      record {
        port = c.in_ok-line.line.now;
        is = ap (λ ps. slice_get ps c.args.port) (sym ports)
            ∙ slice_get_read c.ports.result.now (length c.ports.result.now) c.args.port c.in_ok-line.line.now refl (ltb-true c.args.port (length c.ports.result.now) (sym c.in_ok-line.ensures.lookup.0)) c.in_ok-line.ensures.lookup.1;
        output = c.if-line.true;
        width = refl;
      },
    )
