use Rattle.std.proofs.Common.{◌≡◌, true, false, List, ◌++◌, Some, length, codes, sym, subst, ap, ◌∙◌, arith}
use Rattle.netlist.specs.declared.line.PortLine.{PortLine}
use Rattle.netlist.specs.Netlists.{Netlist, IsHeader}
use Rattle.net_parts.specs.Laws.{if_ok}
use Rattle.pruned_netlists.specs.Pruned.{IsPruned}
use Rattle.routed_modules.specs.declared.header.EndPorts.{EndPorts}
use Rattle.routed_modules.specs.Ports.{end_ports, numbered_ports}
use Rattle.routed_modules.specs.Multiplexers.{multiplexer, coming, multiplexer_ports, IsMultiplexerModule}
use Rattle.routed_modules.proofs.MuxHeaders.{mux_header, few_mux_ports}
use Rattle.routed_modules.proofs.MuxModule.{mux_pruned}
use Rattle.routed_modules.proofs.mux.mux_module.Goals as goal

pub start-requires-clause-header : goal.start-requires-clause-header
start-requires-clause-header c =
    let mux = multiplexer c.args.inputs c.args.symbols c.args.bits in
    let ports : c.in_ok-ports.ports ≡ multiplexer_ports mux =
    c.in_ok-ports.ensures ∙ ap (λ (h : EndPorts). numbered_ports true h (codes "in") c.args.inputs ++ end_ports false (record h { channel = Some c.bits_for.result }) (codes "out")) c.coming_ports-coming.ensures
    ∙ ap (λ n. numbered_ports true (coming mux) (codes "in") c.args.inputs ++ end_ports false (record (coming mux) { channel = Some n }) (codes "out")) c.bits_for.ensures.value in
    subst (λ (ps : List PortLine). IsHeader (codes "mux_interconnect") ps) (sym ports) (mux_header mux c.requires)

pub start-requires-clause-few : goal.start-requires-clause-few
start-requires-clause-few c =
    let mux = multiplexer c.args.inputs c.args.symbols c.args.bits in
    let ports : c.in_ok-ports.ports ≡ multiplexer_ports mux =
    c.in_ok-ports.ensures ∙ ap (λ (h : EndPorts). numbered_ports true h (codes "in") c.args.inputs ++ end_ports false (record h { channel = Some c.bits_for.result }) (codes "out")) c.coming_ports-coming.ensures
    ∙ ap (λ n. numbered_ports true (coming mux) (codes "in") c.args.inputs ++ end_ports false (record (coming mux) { channel = Some n }) (codes "out")) c.bits_for.ensures.value in
    let same = ap (λ (ps : List PortLine). length ps) ports in
    let few = few_mux_ports mux c.requires in
    omega (arith, same, few)

pub returns : goal.returns
returns c =
    let mux = multiplexer c.args.inputs c.args.symbols c.args.bits in
    if_ok c.prune.result _ (IsMultiplexerModule mux)
    (λ pruned p. mux_pruned mux c.fill.new.builder pruned (subst (λ (n : Netlist). IsPruned n pruned) c.finish-whole.ensures.same p) c.in-Ok.ensures.filled.is)
    c.prune.ensures
