use Rattle.std.proofs.Common.{◌≡◌, ◌%◌, ◌^◌, ap, ◌∙◌, arith}
use Rattle.histories.specs.History.{is_raised}
use Rattle.netlist.specs.Runs.{Always}
use Rattle.net_parts.specs.Laws.{bit_fits, net_fits, if_ok, adds_fewer, adds_twice, grows_once, extends_twice, net_lasts}
use Rattle.mm_agent.specs.Waits.{stood_next}
use Rattle.mm_agent.proofs.Levels.{fit_few}
use Rattle.mm_agent.proofs.Waiting.{next_capped}
use Rattle.net_parts.specs.Nets.{IsNetOfWidth}
use Rattle.net_parts.specs.Refusing.{handed_on}
use Rattle.mm_agent.proofs.waits.next_stood.Goals as goal

pub returns-in_err-none-clause-adds : goal.returns-in_err-none-clause-adds
returns-in_err-none-clause-adds c =
    let few = fit_few 1 c.width-bits.result in
    adds_fewer _ _ _ _ (omega (arith, few)) (adds_twice _ _ _ _ _ (adds_twice _ _ _ _ _ (adds_twice _ _ _ _ _ (adds_twice _ _ _ _ _ (grows_once _ _ c.not.ensures.extends c.not.ensures.grows) (grows_once _ _ c.any.ensures.extends c.any.ensures.grows)) c.fit_bits.ensures.adds) (grows_once _ _ c.add.ensures.extends c.add.ensures.grows)) c.constant.ensures.adds)

pub returns-clause-adds : goal.returns-clause-adds
returns-clause-adds c =
    let few = fit_few 1 c.width-bits.result in
    adds_fewer _ _ _ _ (omega (arith, few)) (adds_twice _ _ _ _ _ (adds_twice _ _ _ _ _ (adds_twice _ _ _ _ _ (adds_twice _ _ _ _ _ (adds_twice _ _ _ _ _ (grows_once _ _ c.not.ensures.extends c.not.ensures.grows) (grows_once _ _ c.any.ensures.extends c.any.ensures.grows)) c.fit_bits.ensures.adds) (grows_once _ _ c.add.ensures.extends c.add.ensures.grows)) c.constant.ensures.adds) c.choose.ensures.adds)

pub returns-clause-value : goal.returns-clause-value
returns-clause-value c =
    if_ok c.choose.result _ (λ next. Always c.choose.new.builder (λ cycle. cycle.net next.number ≡ stood_next c.args.stood.width (is_raised (cycle.net c.args.stands.number)) (cycle.net c.args.stood.number)))
    (λ next value cycle v6. (
    let v5 = c.choose.ensures.adds.grows.extends.valuations cycle v6 in
    let v4 = c.constant.ensures.adds.grows.extends.valuations cycle v5 in
    let v3 = c.add.ensures.extends.valuations cycle v4 in
    let v2 = c.fit_bits.ensures.adds.grows.extends.valuations cycle v3 in
    let v1 = c.any.ensures.extends.valuations cycle v2 in
    let v0 = c.not.ensures.extends.valuations cycle v1 in
    let wide = c.width-bits.ensures.value in
    next_capped c.args.stood.width _ _ _ _ _ _ _ _ (omega (arith, c.width-bits.ensures.bounds.0, wide)) (net_fits _ _ c.requires.stood cycle v0) (bit_fits _ _ c.requires.stands cycle v0)
    (c.in_ok-others.ensures.value cycle v1).1 (c.in_ok-rises.ensures.value cycle v2).1
    (c.in_ok-more.ensures.value cycle v3 ∙ ap (λ k. cycle.net c.in_ok-rises.rises.number % 2 ^ k) wide) (c.in_ok-risen.ensures.value cycle v4).1 (c.in_ok-none.ensures.value cycle v5) (value cycle v6)))
    c.choose.ensures.value

pub returns-in_err-others-clause-adds : goal.returns-in_err-others-clause-adds
returns-in_err-others-clause-adds c = adds_fewer _ _ _ _ (omega arith) (grows_once _ _ c.not.ensures.extends c.not.ensures.grows)

pub returns-in_err-others-clause-full : goal.returns-in_err-others-clause-full
returns-in_err-others-clause-full c e = let full = c.not.ensures.full.0 (handed_on _ _ _ _ c.in_err-others.was c.from_residual.ensures.1 e) in omega (arith, full)

pub returns-in_err-rises-clause-adds : goal.returns-in_err-rises-clause-adds
returns-in_err-rises-clause-adds c = adds_fewer _ _ _ _ (omega arith) (adds_twice _ _ _ _ _ (grows_once _ _ c.not.ensures.extends c.not.ensures.grows) (grows_once _ _ c.any.ensures.extends c.any.ensures.grows))

pub returns-in_err-rises-clause-full : goal.returns-in_err-rises-clause-full
returns-in_err-rises-clause-full c e =
    let most0 = c.not.ensures.grows.most in
    let full = c.any.ensures.full.0 (handed_on _ _ _ _ c.in_err-rises.was c.from_residual-in_err-rises.ensures.1 e) in
    omega (arith, most0, full)

pub returns-in_err-more-clause-adds : goal.returns-in_err-more-clause-adds
returns-in_err-more-clause-adds c =
    let few = fit_few 1 c.width-bits.result in
    adds_fewer _ _ _ _ (omega (arith, few)) (adds_twice _ _ _ _ _ (adds_twice _ _ _ _ _ (grows_once _ _ c.not.ensures.extends c.not.ensures.grows) (grows_once _ _ c.any.ensures.extends c.any.ensures.grows)) c.fit_bits.ensures.adds)

pub returns-in_err-more-clause-full : goal.returns-in_err-more-clause-full
returns-in_err-more-clause-full c e =
    let few = fit_few 1 c.width-bits.result in
    let most0 = c.not.ensures.grows.most in
    let most1 = c.any.ensures.grows.most in
    let full = c.fit_bits.ensures.full (handed_on _ _ _ _ c.in_err-more.was c.from_residual-in_err-more.ensures.1 e) in
    omega (arith, few, most0, most1, full)

pub returns-in_err-risen-clause-adds : goal.returns-in_err-risen-clause-adds
returns-in_err-risen-clause-adds c =
    let few = fit_few 1 c.width-bits.result in
    adds_fewer _ _ _ _ (omega (arith, few)) (adds_twice _ _ _ _ _ (adds_twice _ _ _ _ _ (adds_twice _ _ _ _ _ (grows_once _ _ c.not.ensures.extends c.not.ensures.grows) (grows_once _ _ c.any.ensures.extends c.any.ensures.grows)) c.fit_bits.ensures.adds) (grows_once _ _ c.add.ensures.extends c.add.ensures.grows))

pub returns-in_err-risen-clause-full : goal.returns-in_err-risen-clause-full
returns-in_err-risen-clause-full c e =
    let few = fit_few 1 c.width-bits.result in
    let most0 = c.not.ensures.grows.most in
    let most1 = c.any.ensures.grows.most in
    let most2 = c.fit_bits.ensures.adds.most in
    let full = c.add.ensures.full.0 (handed_on _ _ _ _ c.in_err-risen.was c.from_residual-in_err-risen.ensures.1 e) in
    omega (arith, few, most0, most1, most2, full)

pub returns-in_err-none-clause-full : goal.returns-in_err-none-clause-full
returns-in_err-none-clause-full c e =
    let few = fit_few 1 c.width-bits.result in
    let most0 = c.not.ensures.grows.most in
    let most1 = c.any.ensures.grows.most in
    let most2 = c.fit_bits.ensures.adds.most in
    let most3 = c.add.ensures.grows.most in
    let full = c.constant.ensures.full (handed_on _ _ _ _ c.in_err-none.was c.from_residual-in_err-none.ensures.1 e) in
    omega (arith, few, most0, most1, most2, most3, full)

pub returns-clause-full : goal.returns-clause-full
returns-clause-full c e =
    let few = fit_few 1 c.width-bits.result in
    let most0 = c.not.ensures.grows.most in
    let most1 = c.any.ensures.grows.most in
    let most2 = c.fit_bits.ensures.adds.most in
    let most3 = c.add.ensures.grows.most in
    let most4 = c.constant.ensures.adds.most in
    let full = c.choose.ensures.full e in
    omega (arith, few, most0, most1, most2, most3, most4, full)

pub returns-clause-net : goal.returns-clause-net
returns-clause-net c = if_ok c.choose.result _ (λ next. IsNetOfWidth c.choose.new.builder next c.args.stood.width) (λ next net. record { is_net = net.is_net; has_width = net.has_width ∙ c.in_ok-risen.ensures.net.1 }) c.choose.ensures.net

pub not-requires : goal.not-requires
not-requires c = record { a_is = c.requires.stood }

pub any-requires : goal.any-requires
any-requires c = record { a_is = c.in_ok-others.ensures.net.0 }

pub fit_bits-requires-clause-net : goal.fit_bits-requires-clause-net
fit_bits-requires-clause-net c = record { is_net = c.in_ok-rises.ensures.net.0; has_width = c.in_ok-rises.ensures.net.1 }

pub add-requires-clause-a_is : goal.add-requires-clause-a_is
add-requires-clause-a_is c = (extends_twice _ _ _ c.not.ensures.extends (extends_twice _ _ _ c.any.ensures.extends c.fit_bits.ensures.adds.grows.extends)).nets _ _ c.requires.stood

pub add-requires-clause-b_is : goal.add-requires-clause-b_is
add-requires-clause-b_is c = c.in_ok-more.ensures.net.is_net

pub choose-requires-clause-bit : goal.choose-requires-clause-bit
choose-requires-clause-bit c = net_lasts _ _ _ _ (extends_twice _ _ _ c.not.ensures.extends (extends_twice _ _ _ c.any.ensures.extends (extends_twice _ _ _ c.fit_bits.ensures.adds.grows.extends (extends_twice _ _ _ c.add.ensures.extends c.constant.ensures.adds.grows.extends)))) c.requires.stands

pub choose-requires-clause-one : goal.choose-requires-clause-one
choose-requires-clause-one c = c.constant.ensures.adds.grows.extends.nets _ _ c.in_ok-risen.ensures.net.0

pub choose-requires-clause-other : goal.choose-requires-clause-other
choose-requires-clause-other c = c.in_ok-none.ensures.net.is_net
