use Rattle.std.proofs.Common.{◌≡◌, ◌&&◌}
use Rattle.histories.specs.History.{is_raised}
use Rattle.netlist.specs.Runs.{Always}
use Rattle.net_parts.specs.Laws.{if_ok, adds_twice}
use Rattle.net_terms.proofs.bits.AndBit.emit.Goals as goal

pub emit-requires-2 : goal.emit-requires-2
emit-requires-2 g c = g.met.B.Bit.lasts _ _ _ c.requires.1 c.emit.ensures.adds.grows.extends

pub returns-clause-value : goal.returns-clause-value
returns-clause-value g c =
    if_ok c.both.result _ (λ net. Always c.both.new.builder (λ cycle. is_raised (cycle.net net.number) ≡ (g.A.Bit.level c.args.self.now.0 cycle && g.B.Bit.level c.args.self.now.1 cycle)))
    (λ net made cycle v. (
    let v1 = c.both.ensures.adds.grows.extends.valuations cycle v in
    let v0 = c.emit-2.ensures.adds.grows.extends.valuations cycle v1 in
    let f0 = c.in_ok-a.ensures.value cycle v0 in
    let f1 = c.in_ok-b.ensures.value cycle v1 in
    let fact = made cycle v in cc))
    c.both.ensures.value

pub returns-clause-adds : goal.returns-clause-adds
returns-clause-adds g c = adds_twice _ _ _ _ _ (adds_twice _ _ _ _ _ c.emit.ensures.adds c.emit-2.ensures.adds) c.both.ensures.adds
