use Rattle.std.proofs.Common.{◌≡◌, ◌==◌, not, ◌||◌, arith}
use Rattle.netlist.specs.Runs.{Always}
use Rattle.net_parts.specs.Laws.{bit_fits, if_ok, adds_fewer, adds_twice, grows_once}
use Rattle.net_parts.specs.Bits.{high_room}
use Rattle.net_parts.proofs.bits.has_room.Goals as goal

pub returns-clause-value : goal.returns-clause-value
returns-clause-value c =
    if_ok c.or.result _ (λ room. Always c.or.new.self (λ cycle. (cycle.net room.number == 1) ≡ (not (cycle.net c.args.held.number == 1) || (cycle.net c.args.goes.number == 1))))
    (λ room value cycle v2. (
    let v1 = c.or.ensures.extends.valuations cycle v2 in
    let v0 = c.not.ensures.extends.valuations cycle v1 in
    high_room c.args.held.width (cycle.net c.args.held.number) (cycle.net c.in_ok-empty.empty.number) (cycle.net c.args.goes.number) (cycle.net room.number) c.requires.held.has_width
    (bit_fits _ _ c.requires.held cycle v0) (bit_fits _ _ c.requires.goes cycle v0) (c.in_ok-empty.ensures.value cycle v1).1 (value cycle v2).1))
    c.or.ensures.value

pub returns-in_err-empty-clause-adds : goal.returns-in_err-empty-clause-adds
returns-in_err-empty-clause-adds c = adds_fewer _ _ _ _ (omega arith) (grows_once _ _ c.not.ensures.extends c.not.ensures.grows)

pub returns-clause-adds : goal.returns-clause-adds
returns-clause-adds c = adds_fewer _ _ _ _ (omega arith) (adds_twice _ _ _ _ _ (grows_once _ _ c.not.ensures.extends c.not.ensures.grows) (grows_once _ _ c.or.ensures.extends c.or.ensures.grows))
