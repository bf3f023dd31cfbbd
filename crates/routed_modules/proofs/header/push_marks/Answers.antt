use Rattle.std.proofs.Common.{◌≡◌, List, [], ◌∷◌, ◌++◌, codes, append_assoc, ap, sym, ◌∙◌}
use Rattle.netlist.specs.declared.line.PortLine.{PortLine}
use Rattle.net_parts.specs.Laws.{on_ok}
use Rattle.routed_modules.specs.Ports.{port_line, mark_ports}
use Rattle.routed_modules.proofs.header.push_marks.Goals as goal

pub returns : goal.returns
returns c =
    let first = port_line c.args.end.now (codes "startofpacket") 1 c.args.output in
    let last = port_line c.args.end.now (codes "endofpacket") 1 c.args.output in
    on_ok c.push_port-2.result _ (c.push_port-2.new.ports ≡ c.args.ports.now ++ mark_ports c.args.end.now c.args.packets c.args.output)
    (λ appended.
    appended ∙ ap (λ (ports : List PortLine). ports ++ last ∷ []) c.in_ok-push_port.ensures
    ∙ append_assoc c.args.ports.now (first ∷ []) (last ∷ [])
    ∙ ap (λ b. c.args.ports.now ++ mark_ports c.args.end.now b c.args.output) (sym c.if-not-packets.false))
    c.push_port-2.ensures
