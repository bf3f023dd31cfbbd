use Rattle.std.proofs.Common.{◌≡◌, if◌then◌else◌}
use Rattle.histories.specs.History.{is_raised}
use Rattle.netlist.specs.Runs.{Always}
use Rattle.net_parts.specs.Laws.{if_ok, extends_twice, adds_twice}
use Rattle.net_terms.proofs.bits.MuxBit.emit.Goals as goal

pub emit-requires-2 : goal.emit-requires-2
emit-requires-2 g c = g.met.A.Bit.lasts _ _ _ c.requires.1 c.emit.ensures.adds.grows.extends

pub emit-requires-3 : goal.emit-requires-3
emit-requires-3 g c = g.met.B.Bit.lasts _ _ _ c.requires.2 (extends_twice _ _ _ c.emit.ensures.adds.grows.extends c.emit-2.ensures.adds.grows.extends)

pub returns-clause-value : goal.returns-clause-value
returns-clause-value g c =
    if_ok c.choose_bit.result _ (λ net. Always c.choose_bit.new.builder (λ cycle. is_raised (cycle.net net.number) ≡ (if g.S.Bit.level c.args.self.now.0 cycle then g.A.Bit.level c.args.self.now.1 cycle else g.B.Bit.level c.args.self.now.2 cycle)))
    (λ net made cycle v. (
    let v2 = c.choose_bit.ensures.adds.grows.extends.valuations cycle v in
    let v1 = c.emit-3.ensures.adds.grows.extends.valuations cycle v2 in
    let v0 = c.emit-2.ensures.adds.grows.extends.valuations cycle v1 in
    let f0 = c.in_ok-s.ensures.value cycle v0 in
    let f1 = c.in_ok-a.ensures.value cycle v1 in
    let f2 = c.in_ok-b.ensures.value cycle v2 in
    let fact = made cycle v in cc))
    c.choose_bit.ensures.value

pub returns-clause-adds : goal.returns-clause-adds
returns-clause-adds g c = adds_twice _ _ _ _ _ (adds_twice _ _ _ _ _ (adds_twice _ _ _ _ _ c.emit.ensures.adds c.emit-2.ensures.adds) c.emit-3.ensures.adds) c.choose_bit.ensures.adds
