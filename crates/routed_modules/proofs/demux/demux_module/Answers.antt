use Rattle.std.proofs.Common.{◌≡◌, true, false, List, ◌++◌, None, length, codes, sym, subst, ap, ◌∙◌, arith}
use Rattle.netlist.specs.declared.line.PortLine.{PortLine}
use Rattle.netlist.specs.Netlists.{Netlist, IsHeader}
use Rattle.net_parts.specs.Laws.{if_ok}
use Rattle.pruned_netlists.specs.Pruned.{IsPruned}
use Rattle.routed_modules.specs.declared.header.EndPorts.{EndPorts}
use Rattle.routed_modules.specs.Ports.{end_ports, numbered_ports}
use Rattle.routed_modules.specs.Demultiplexers.{demultiplexer, demultiplexer_ports, IsDemultiplexerModule}
use Rattle.routed_modules.proofs.Headers.{demux_header, few_demux_ports}
use Rattle.routed_modules.proofs.DemuxModule.{demux_pruned}
use Rattle.routed_modules.proofs.demux.demux_module.Goals as goal

pub start-requires-clause-header : goal.start-requires-clause-header
start-requires-clause-header c =
    let demux = demultiplexer c.args.outputs c.args.symbols c.args.bits in
    let ports : c.in_ok-ports.ports ≡ demultiplexer_ports demux =
    c.in_ok-ports.ensures ∙ ap (λ (h : EndPorts). end_ports true h (codes "in") ++ numbered_ports false (record h { channel = None }) (codes "out") c.args.outputs) c.coming_ports-coming.ensures in
    subst (λ (ps : List PortLine). IsHeader (codes "demux_interconnect") ps) (sym ports) (demux_header demux c.requires)

pub start-requires-clause-few : goal.start-requires-clause-few
start-requires-clause-few c =
    let demux = demultiplexer c.args.outputs c.args.symbols c.args.bits in
    let ports : c.in_ok-ports.ports ≡ demultiplexer_ports demux =
    c.in_ok-ports.ensures ∙ ap (λ (h : EndPorts). end_ports true h (codes "in") ++ numbered_ports false (record h { channel = None }) (codes "out") c.args.outputs) c.coming_ports-coming.ensures in
    let same = ap (λ (ps : List PortLine). length ps) ports in
    let few = few_demux_ports demux c.requires in
    omega (arith, same, few)

pub returns : goal.returns
returns c =
    let demux = demultiplexer c.args.outputs c.args.symbols c.args.bits in
    if_ok c.prune.result _ (IsDemultiplexerModule demux)
    (λ pruned p. demux_pruned demux c.fill.new.builder pruned (subst (λ (n : Netlist). IsPruned n pruned) c.finish-whole.ensures.same p) c.in-Ok.ensures.filled.is)
    c.prune.ensures
