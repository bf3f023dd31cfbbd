use Rattle.std.proofs.Common.{◌≡◌, ◌*◌, true, false, List, ◌++◌, length, codes, sym, subst, ap, ◌∙◌, arith}
use Rattle.netlist.specs.declared.line.PortLine.{PortLine}
use Rattle.netlist.specs.Netlists.{Netlist, IsHeader}
use Rattle.net_parts.specs.Laws.{if_ok}
use Rattle.pruned_netlists.specs.Pruned.{IsPruned}
use Rattle.routed_modules.specs.declared.header.EndPorts.{EndPorts}
use Rattle.routed_modules.specs.Ports.{end_ports}
use Rattle.routed_modules.specs.Gatherers.{gatherer, gatherer_ports, IsGathererModule}
use Rattle.routed_modules.proofs.GatherModule.{gatherer_header, gather_pruned}
use Rattle.routed_modules.proofs.gather.gather_module.Goals as goal

pub start-requires-clause-header : goal.start-requires-clause-header
start-requires-clause-header c =
    let g = gatherer c.args.channels c.args.symbols c.args.parts c.args.bits in
    let ports : c.in_ok-ports.ports ≡ gatherer_ports g =
    c.in_ok-ports.ensures ∙ ap (λ (h : EndPorts). end_ports true h (codes "in") ++ end_ports false (record h { word = c.args.symbols * c.args.parts * c.args.bits }) (codes "out")) c.coming_ports-coming.ensures in
    subst (λ (ps : List PortLine). IsHeader (codes "gather_interconnect") ps) (sym ports) (gatherer_header g c.requires)

pub start-requires-clause-few : goal.start-requires-clause-few
start-requires-clause-few c =
    let g = gatherer c.args.channels c.args.symbols c.args.parts c.args.bits in
    let ports : c.in_ok-ports.ports ≡ gatherer_ports g =
    c.in_ok-ports.ensures ∙ ap (λ (h : EndPorts). end_ports true h (codes "in") ++ end_ports false (record h { word = c.args.symbols * c.args.parts * c.args.bits }) (codes "out")) c.coming_ports-coming.ensures in
    let same = ap (λ (ps : List PortLine). length ps) ports in
    omega (arith, same)

pub returns : goal.returns
returns c =
    let g = gatherer c.args.channels c.args.symbols c.args.parts c.args.bits in
    if_ok c.prune.result _ (IsGathererModule g)
    (λ pruned p. gather_pruned g c.fill.new.builder pruned (subst (λ (n : Netlist). IsPruned n pruned) c.finish-whole.ensures.same p) c.in-Ok.ensures.whole.is)
    c.prune.ensures
