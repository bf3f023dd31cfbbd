use Rattle.std.proofs.Common.{◌≡◌, ◌-◌, arith, refl}
use Rattle.netlist.specs.Runs.{Always}
use Rattle.net_parts.specs.Laws.{if_ok, adds_twice, adds_fewer}
use Rattle.mm_split.specs.Pieces.{lane, is_marked, pick}
use Rattle.mm_split.proofs.Marks.{more_picked}
use Rattle.mm_split.proofs.lanes.+pick_number.Goals as goal

pub returns-clause-value : goal.returns-clause-value
returns-clause-value t c =
    if_ok c.choose.result _ (λ net. Always c.choose.new.builder (λ cycle. cycle.net net.number ≡ pick (is_marked (cycle.net c.args.mask.number)) c.args.count))
    (λ net value cycle v. (
    let v2 = c.choose.ensures.adds.grows.extends.valuations cycle v in
    let v1 = c.piece.ensures.adds.grows.extends.valuations cycle v2 in
    let v0 = c.pick_number.ensures.adds.grows.extends.valuations cycle v1 in
    more_picked (is_marked (cycle.net c.args.mask.number)) (λ n. n) c.args.count (lane 1 (cycle.net c.args.mask.number) (c.args.count - 1)) (cycle.net c.in_ok-here.here.number) (cycle.net c.in_ok-highest.highest.number) (cycle.net c.in_ok-below.below.number) (cycle.net net.number)
    c.requires.one (c.in_ok-here.ensures.value cycle v2) refl (c.in_ok-highest.ensures.value cycle v0) (c.in_ok-below.ensures.value cycle v1) (value cycle v)))
    c.choose.ensures.value

pub returns-clause-adds : goal.returns-clause-adds
returns-clause-adds t c =
    let some = c.requires.one in
    adds_fewer _ _ _ _ (omega (arith, some)) (adds_twice _ _ _ _ _ (adds_twice _ _ _ _ _ (adds_twice _ _ _ _ _ c.constant.ensures.adds c.pick_number.ensures.adds) c.piece.ensures.adds) c.choose.ensures.adds)
