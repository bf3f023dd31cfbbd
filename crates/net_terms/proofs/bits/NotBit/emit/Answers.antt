use Rattle.std.proofs.Common.{◌≡◌, not}
use Rattle.histories.specs.History.{is_raised}
use Rattle.netlist.specs.Runs.{Always}
use Rattle.net_parts.specs.Laws.{if_ok, adds_twice}
use Rattle.net_terms.proofs.bits.NotBit.emit.Goals as goal

pub returns-clause-value : goal.returns-clause-value
returns-clause-value g c =
    if_ok c.turned.result _ (λ net. Always c.turned.new.builder (λ cycle. is_raised (cycle.net net.number) ≡ not (g.A.Bit.level c.args.self.now.0 cycle)))
    (λ net made cycle v. (
    let v0 = c.turned.ensures.adds.grows.extends.valuations cycle v in
    let f0 = c.in_ok-a.ensures.value cycle v0 in
    let fact = made cycle v in cc))
    c.turned.ensures.value

pub returns-clause-adds : goal.returns-clause-adds
returns-clause-adds g c = adds_twice _ _ _ _ _ c.emit.ensures.adds c.turned.ensures.adds
