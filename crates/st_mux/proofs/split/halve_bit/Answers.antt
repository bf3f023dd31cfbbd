use Rattle.std.proofs.Common.{◌≡◌, ◌+◌, ◌-◌, ◌/◌, ◌%◌, ◌^◌, ◌==◌, ◌&&◌, not, sym, ap, ◌∙◌, arith}
use Rattle.net_parts.specs.Nets.{IsBit}
use Rattle.net_parts.specs.Laws.{bit_fits, adds_twice, grows_once}
use Rattle.net_parts.specs.Bits.{bit_zero, high_and, high_turned}
use Rattle.st_mux.proofs.split.halve_bit.Goals as goal

pub returns-clause-front : goal.returns-clause-front
returns-clause-front c cycle v4 =
    let v3 = c.and-2.ensures.extends.valuations cycle v4 in
    let v2 = c.and.ensures.extends.valuations cycle v3 in
    let v1 = c.not.ensures.extends.valuations cycle v2 in
    let v0 = c.slice.ensures.extends.valuations cycle v1 in
    let one : c.args.bits - 1 - (c.args.bits - 1) + 1 ≡ 1 = omega arith in
    let top : IsBit c.slice.new.self c.in_ok-top.top = record { is_net = c.in_ok-top.ensures.net.0; has_width = c.in_ok-top.ensures.net.1 ∙ one } in
    let low : IsBit c.not.new.self c.in_ok-low.low = record { is_net = c.in_ok-low.ensures.net.0; has_width = c.in_ok-low.ensures.net.1 ∙ top.has_width } in
    high_and (cycle.net c.args.bit.number) (cycle.net c.in_ok-low.low.number) (cycle.net c.in_ok-front.front.number) (bit_fits _ _ c.requires.bit cycle v0) (bit_fits _ _ low cycle v2) (c.in_ok-front.ensures.value cycle v3).1
    ∙ ap (λ b. (cycle.net c.args.bit.number == 1) && b)
    (high_turned c.in_ok-top.top.width (cycle.net c.in_ok-top.top.number) (cycle.net c.in_ok-low.low.number) top.has_width (bit_fits _ _ top cycle v1) (c.in_ok-low.ensures.value cycle v2).1
    ∙ sym (bit_zero (cycle.net c.in_ok-top.top.number) (bit_fits _ _ top cycle v1))
    ∙ ap (λ n. n == 0) ((c.in_ok-top.ensures.value cycle v1).1 ∙ ap (λ n. cycle.net c.args.index.number / 2 ^ (c.args.bits - 1) % 2 ^ n) one))

pub returns-clause-back : goal.returns-clause-back
returns-clause-back c cycle v4 =
    let v3 = c.and-2.ensures.extends.valuations cycle v4 in
    let v2 = c.and.ensures.extends.valuations cycle v3 in
    let v1 = c.not.ensures.extends.valuations cycle v2 in
    let v0 = c.slice.ensures.extends.valuations cycle v1 in
    let one : c.args.bits - 1 - (c.args.bits - 1) + 1 ≡ 1 = omega arith in
    let top : IsBit c.slice.new.self c.in_ok-top.top = record { is_net = c.in_ok-top.ensures.net.0; has_width = c.in_ok-top.ensures.net.1 ∙ one } in
    high_and (cycle.net c.args.bit.number) (cycle.net c.in_ok-top.top.number) (cycle.net c.in_ok-back.back.number) (bit_fits _ _ c.requires.bit cycle v0) (bit_fits _ _ top cycle v1) (c.in_ok-back.ensures.value cycle v4).1
    ∙ ap (λ n. (cycle.net c.args.bit.number == 1) && (n == 1)) ((c.in_ok-top.ensures.value cycle v1).1 ∙ ap (λ n. cycle.net c.args.index.number / 2 ^ (c.args.bits - 1) % 2 ^ n) one)

pub returns-clause-adds : goal.returns-clause-adds
returns-clause-adds c =
    adds_twice _ _ _ _ _
    (adds_twice _ _ _ _ _
    (adds_twice _ _ _ _ _ (grows_once _ _ c.slice.ensures.extends c.slice.ensures.grows) (grows_once _ _ c.not.ensures.extends c.not.ensures.grows))
    (grows_once _ _ c.and.ensures.extends c.and.ensures.grows))
    (grows_once _ _ c.and-2.ensures.extends c.and-2.ensures.grows)
