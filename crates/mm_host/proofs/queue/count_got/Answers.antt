use Rattle.std.proofs.Common.{◌≡◌, ◌+◌, ◌<◌, ◌^◌, not, ◌&&◌, nat_eq, if◌then◌else◌, ◌∙◌, arith, sym}
use Rattle.histories.specs.History.{is_raised, one_if}
use Rattle.netlist.specs.Runs.{Always}
use Rattle.net_parts.specs.Laws.{bit_fits, if_ok, adds_fewer, adds_twice, grows_once, extends_twice, net_lasts}
use Rattle.mm_host.proofs.Levels.{got_counted}
use Rattle.net_parts.specs.Refusing.{handed_on}
use Rattle.net_parts.specs.Nets.{IsNetOfWidth}
use Rattle.mm_host.proofs.queue.count_got.Goals as goal
use Rattle.net_parts.specs.Fitting.{fits_in_two}

pub returns-clause-value : goal.returns-clause-value
returns-clause-value c =
    if_ok c.choose.result _ (λ next. Always c.choose.new.builder (λ cycle. cycle.net c.args.got.number + cycle.net c.args.lacks.number < 2 ^ c.args.bits →
    cycle.net next.number ≡ (if is_raised (cycle.net c.args.last.number) then 0 else cycle.net c.args.got.number + one_if (is_raised (cycle.net c.args.goes.number) && not (nat_eq (cycle.net c.args.lacks.number) 0)))))
    (λ next value cycle v6. (
    let v5 = c.choose.ensures.adds.grows.extends.valuations cycle v6 in
    let v4 = c.constant.ensures.adds.grows.extends.valuations cycle v5 in
    let v3 = c.add.ensures.extends.valuations cycle v4 in
    let v2 = c.fit_bits.ensures.adds.grows.extends.valuations cycle v3 in
    let v1 = c.both.ensures.adds.grows.extends.valuations cycle v2 in
    let v0 = c.any.ensures.extends.valuations cycle v1 in
    got_counted c.args.bits _ _ _ _ _ _ _ _ _ _ c.requires.some (bit_fits _ _ c.requires.last cycle v0) (bit_fits _ _ c.in_ok-more.ensures.net cycle v2)
    (c.in_ok-some.ensures.value cycle v1).1 (c.in_ok-more.ensures.value cycle v2) (c.in_ok-step.ensures.value cycle v3) (rw c.requires.got.has_width at (c.in_ok-sum.ensures.value cycle v4).1) (c.in_ok-zero.ensures.value cycle v5) (value cycle v6)))
    c.choose.ensures.value

pub returns-in_err-zero-clause-adds : goal.returns-in_err-zero-clause-adds
returns-in_err-zero-clause-adds c = adds_fewer _ _ _ _ (let few = fits_in_two 1 c.args.bits in omega (arith, few)) (adds_twice _ _ _ _ _ (adds_twice _ _ _ _ _ (adds_twice _ _ _ _ _ (adds_twice _ _ _ _ _ (grows_once _ _ c.any.ensures.extends c.any.ensures.grows) c.both.ensures.adds) c.fit_bits.ensures.adds) (grows_once _ _ c.add.ensures.extends c.add.ensures.grows)) c.constant.ensures.adds)

pub returns-clause-adds : goal.returns-clause-adds
returns-clause-adds c = adds_fewer _ _ _ _ (let few = fits_in_two 1 c.args.bits in omega (arith, few)) (adds_twice _ _ _ _ _ (adds_twice _ _ _ _ _ (adds_twice _ _ _ _ _ (adds_twice _ _ _ _ _ (adds_twice _ _ _ _ _ (grows_once _ _ c.any.ensures.extends c.any.ensures.grows) c.both.ensures.adds) c.fit_bits.ensures.adds) (grows_once _ _ c.add.ensures.extends c.add.ensures.grows)) c.constant.ensures.adds) c.choose.ensures.adds)

pub both-requires-clause-a : goal.both-requires-clause-a
both-requires-clause-a c = net_lasts _ _ _ _ c.any.ensures.extends c.requires.goes

pub both-requires-clause-b : goal.both-requires-clause-b
both-requires-clause-b c = record { is_net = c.in_ok-some.ensures.net.0; has_width = c.in_ok-some.ensures.net.1 }

pub fit_bits-requires-clause-net : goal.fit_bits-requires-clause-net
fit_bits-requires-clause-net c = c.in_ok-more.ensures.net

pub add-requires-clause-a_is : goal.add-requires-clause-a_is
add-requires-clause-a_is c = (extends_twice _ _ _ c.any.ensures.extends (extends_twice _ _ _ c.both.ensures.adds.grows.extends c.fit_bits.ensures.adds.grows.extends)).nets _ _ c.requires.got.is_net

pub add-requires-clause-b_is : goal.add-requires-clause-b_is
add-requires-clause-b_is c = c.in_ok-step.ensures.net.is_net

pub add-requires-clause-widths : goal.add-requires-clause-widths
add-requires-clause-widths c = c.requires.got.has_width ∙ sym c.in_ok-step.ensures.net.has_width

pub choose-requires-clause-bit : goal.choose-requires-clause-bit
choose-requires-clause-bit c = net_lasts _ _ _ _ (extends_twice _ _ _ c.any.ensures.extends (extends_twice _ _ _ c.both.ensures.adds.grows.extends (extends_twice _ _ _ c.fit_bits.ensures.adds.grows.extends (extends_twice _ _ _ c.add.ensures.extends c.constant.ensures.adds.grows.extends)))) c.requires.last

pub choose-requires-clause-one : goal.choose-requires-clause-one
choose-requires-clause-one c = c.in_ok-zero.ensures.net.is_net

pub choose-requires-clause-other : goal.choose-requires-clause-other
choose-requires-clause-other c = c.constant.ensures.adds.grows.extends.nets _ _ c.in_ok-sum.ensures.net.0

pub choose-requires-clause-widths : goal.choose-requires-clause-widths
choose-requires-clause-widths c = c.in_ok-zero.ensures.net.has_width ∙ sym (c.in_ok-sum.ensures.net.1 ∙ c.requires.got.has_width)

pub returns-clause-net : goal.returns-clause-net
returns-clause-net c =
    if_ok c.choose.result _ (λ next. IsNetOfWidth c.choose.new.builder next c.args.bits) (λ next net. record { is_net = net.is_net; has_width = net.has_width ∙ c.in_ok-zero.ensures.net.has_width }) c.choose.ensures.net

pub returns-in_err-some-clause-adds : goal.returns-in_err-some-clause-adds
returns-in_err-some-clause-adds c = adds_fewer _ _ _ _ (omega arith) (grows_once _ _ c.any.ensures.extends c.any.ensures.grows)

pub returns-in_err-some-clause-full : goal.returns-in_err-some-clause-full
returns-in_err-some-clause-full c e = let full = c.any.ensures.full.0 (handed_on _ _ _ _ c.in_err-some.was c.from_residual.ensures.1 e) in omega (arith, full)

pub returns-in_err-more-clause-adds : goal.returns-in_err-more-clause-adds
returns-in_err-more-clause-adds c = adds_fewer _ _ _ _ (omega arith) (adds_twice _ _ _ _ _ (grows_once _ _ c.any.ensures.extends c.any.ensures.grows) c.both.ensures.adds)

pub returns-in_err-more-clause-full : goal.returns-in_err-more-clause-full
returns-in_err-more-clause-full c e =
    let most0 = c.any.ensures.grows.most in
    let full = c.both.ensures.full (handed_on _ _ _ _ c.in_err-more.was c.from_residual-in_err-more.ensures.1 e) in
    omega (arith, most0, full)

pub returns-in_err-step-clause-adds : goal.returns-in_err-step-clause-adds
returns-in_err-step-clause-adds c = adds_fewer _ _ _ _ (let few = fits_in_two 1 c.args.bits in omega (arith, few)) (adds_twice _ _ _ _ _ (adds_twice _ _ _ _ _ (grows_once _ _ c.any.ensures.extends c.any.ensures.grows) c.both.ensures.adds) c.fit_bits.ensures.adds)

pub returns-in_err-step-clause-full : goal.returns-in_err-step-clause-full
returns-in_err-step-clause-full c e =
    let few = fits_in_two 1 c.args.bits in
    let most0 = c.any.ensures.grows.most in
    let most1 = c.both.ensures.adds.most in
    let full = c.fit_bits.ensures.full (handed_on _ _ _ _ c.in_err-step.was c.from_residual-in_err-step.ensures.1 e) in
    omega (arith, few, most0, most1, full)

pub returns-in_err-sum-clause-adds : goal.returns-in_err-sum-clause-adds
returns-in_err-sum-clause-adds c = adds_fewer _ _ _ _ (let few = fits_in_two 1 c.args.bits in omega (arith, few)) (adds_twice _ _ _ _ _ (adds_twice _ _ _ _ _ (adds_twice _ _ _ _ _ (grows_once _ _ c.any.ensures.extends c.any.ensures.grows) c.both.ensures.adds) c.fit_bits.ensures.adds) (grows_once _ _ c.add.ensures.extends c.add.ensures.grows))

pub returns-in_err-sum-clause-full : goal.returns-in_err-sum-clause-full
returns-in_err-sum-clause-full c e =
    let few = fits_in_two 1 c.args.bits in
    let most0 = c.any.ensures.grows.most in
    let most1 = c.both.ensures.adds.most in
    let most2 = c.fit_bits.ensures.adds.most in
    let full = c.add.ensures.full.0 (handed_on _ _ _ _ c.in_err-sum.was c.from_residual-in_err-sum.ensures.1 e) in
    omega (arith, few, most0, most1, most2, full)

pub returns-in_err-zero-clause-full : goal.returns-in_err-zero-clause-full
returns-in_err-zero-clause-full c e =
    let few = fits_in_two 1 c.args.bits in
    let most0 = c.any.ensures.grows.most in
    let most1 = c.both.ensures.adds.most in
    let most2 = c.fit_bits.ensures.adds.most in
    let most3 = c.add.ensures.grows.most in
    let full = c.constant.ensures.full (handed_on _ _ _ _ c.in_err-zero.was c.from_residual-in_err-zero.ensures.1 e) in
    omega (arith, few, most0, most1, most2, most3, full)

pub returns-clause-full : goal.returns-clause-full
returns-clause-full c e =
    let few = fits_in_two 1 c.args.bits in
    let most0 = c.any.ensures.grows.most in
    let most1 = c.both.ensures.adds.most in
    let most2 = c.fit_bits.ensures.adds.most in
    let most3 = c.add.ensures.grows.most in
    let most4 = c.constant.ensures.adds.most in
    let full = c.choose.ensures.full e in
    omega (arith, few, most0, most1, most2, most3, most4, full)
