use Rattle.std.proofs.Common.{◌≡◌, ◌&&◌, ◌||◌, ◌==◌, ◌∙◌, ap, arith}
use Rattle.netlist.specs.Runs.{Always}
use Rattle.net_parts.specs.Nets.{IsBit}
use Rattle.net_parts.specs.Laws.{bit_fits, if_ok, adds_fewer, adds_twice, grows_once}
use Rattle.net_parts.specs.Bits.{high_and, high_or}
use Rattle.net_parts.proofs.bits.gives_item.Goals as goal

pub returns-clause-value : goal.returns-clause-value
returns-clause-value c =
    if_ok c.and.result _ (λ gives. Always c.and.new.self (λ cycle. (cycle.net gives.number == 1) ≡ (((cycle.net c.args.first.number == 1) || (cycle.net c.args.shown.number == 1)) && (cycle.net c.args.ready.number == 1))))
    (λ gives value cycle v2. (
    let v1 = c.and.ensures.extends.valuations cycle v2 in
    let v0 = c.or.ensures.extends.valuations cycle v1 in
    let some : IsBit c.or.new.self c.in_ok-some.some = record { is_net = c.in_ok-some.ensures.net.0; has_width = c.in_ok-some.ensures.net.1 ∙ c.requires.first.has_width } in
    high_and (cycle.net c.in_ok-some.some.number) (cycle.net c.args.ready.number) (cycle.net gives.number) (bit_fits _ _ some cycle v1) (bit_fits _ _ c.requires.ready cycle v0) (value cycle v2).1
    ∙ ap (λ t. t && (cycle.net c.args.ready.number == 1)) (high_or (cycle.net c.args.first.number) (cycle.net c.args.shown.number) (cycle.net c.in_ok-some.some.number) (bit_fits _ _ c.requires.first cycle v0) (bit_fits _ _ c.requires.shown cycle v0) (c.in_ok-some.ensures.value cycle v1).1)))
    c.and.ensures.value

pub returns-in_err-some-clause-adds : goal.returns-in_err-some-clause-adds
returns-in_err-some-clause-adds c = adds_fewer _ _ _ _ (omega arith) (grows_once _ _ c.or.ensures.extends c.or.ensures.grows)

pub returns-clause-adds : goal.returns-clause-adds
returns-clause-adds c = adds_fewer _ _ _ _ (omega arith) (adds_twice _ _ _ _ _ (grows_once _ _ c.or.ensures.extends c.or.ensures.grows) (grows_once _ _ c.and.ensures.extends c.and.ensures.grows))
