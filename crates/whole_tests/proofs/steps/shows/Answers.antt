use Rattle.std.proofs.Common.{refl, sym, ap, ◌∙◌, length, slice_get}
use Rattle.std.proofs.lemmas.Option.{slice_get_read}
use Rattle.netlist.specs.Netlists.{Netlist}
use Rattle.whole_tests.proofs.steps.shows.Goals as goal

pub output-requires-clause-port_is : goal.output-requires-clause-port_is
output-requires-clause-port_is c =
    let ports = c.ports-line-items.ensures ∙ ap (λ (n : Netlist). n.ports) c.module-2.ensures in (
      c.line-item.result.width,
      record {
        port = c.line-item.result;
        is = ap (λ ps. slice_get ps c.loop-port.port) (sym ports)
            ∙ slice_get_read c.ports-line-items.result.now (length c.ports-line-items.result.now) c.loop-port.port c.line-item.result refl c.loop-port-test.true c.line-item.is;
        output = c.if-line.true;
        width = refl;
      },
    )
