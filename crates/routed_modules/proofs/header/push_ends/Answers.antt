use Rattle.std.proofs.Common.{◌≡◌, ℕ, suc, ◌+◌, List, ◌++◌, append_assoc, ap, ◌∙◌, arith}
use Rattle.netlist.specs.declared.line.PortLine.{PortLine}
use Rattle.routed_modules.specs.Ports.{numbered, end_ports, numbered_ports}
use Rattle.routed_modules.proofs.header.push_ends.Goals as goal

pub loop-number-preserved : goal.loop-number-preserved
loop-number-preserved c =
    let more : suc c.loop-number.number ≡ c.loop-number.number + 1 = omega arith in
    let front = numbered_ports c.args.comes c.args.has c.args.end.now c.loop-number.number in
    c.in_ok-push_end.ensures
    ∙ ap (λ (ports : List PortLine). ports ++ end_ports c.args.comes c.args.has c.as_str.result.now) c.loop-number.invariant
    ∙ ap (λ (name : List ℕ). (c.args.ports.now ++ front) ++ end_ports c.args.comes c.args.has name) (c.as_str.ensures ∙ c.in_ok-name.ensures)
    ∙ append_assoc c.args.ports.now front (end_ports c.args.comes c.args.has (numbered c.args.end.now c.loop-number.number))
    ∙ ap (λ (n : ℕ). c.args.ports.now ++ numbered_ports c.args.comes c.args.has c.args.end.now n) more
