use Rattle.std.proofs.Common.{◌≡◌, ◌+◌, ◌^◌, ◌<◌, ◌%◌, ◌==◌, ap, ◌∙◌, arith}
use Rattle.histories.specs.History.{one_if}
use Rattle.netlist.specs.Runs.{Always}
use Rattle.net_parts.specs.Laws.{bit_fits, if_ok, grows_once, adds_twice, adds_fewer}
use Rattle.net_parts.specs.Refusing.{handed_on}
use Rattle.st_timing.proofs.PromiseCounts.{more_counted}
use Rattle.st_timing.proofs.promises.one_more.Goals as goal
use Rattle.net_parts.specs.Fitting.{fits_in_two}

pub returns-clause-value : goal.returns-clause-value
returns-clause-value c =
    if_ok c.add.result _ (λ more. Always c.add.new.self (λ cycle. cycle.net c.args.count.number + one_if (cycle.net c.args.bit.number == 1) < 2 ^ c.args.count.width → cycle.net more.number ≡ cycle.net c.args.count.number + one_if (cycle.net c.args.bit.number == 1)))
    (λ more value cycle v2 few. (
    let v1 = c.add.ensures.extends.valuations cycle v2 in
    let v0 = c.fit_bits.ensures.adds.grows.extends.valuations cycle v1 in
    let wide = c.width-bits.ensures.value in
    more_counted c.args.count.width _ _ _ _ (omega (arith, c.width-bits.ensures.bounds.0, wide)) (bit_fits _ _ c.requires.bit cycle v0) (c.in_ok-step.ensures.value cycle v1 ∙ ap (λ k. cycle.net c.args.bit.number % 2 ^ k) wide) (value cycle v2).1 few))
    c.add.ensures.value

pub returns-in_err-step-clause-adds : goal.returns-in_err-step-clause-adds
returns-in_err-step-clause-adds c = let few = fits_in_two 1 c.width-bits.result in adds_fewer _ _ _ _ (omega (arith, few)) c.fit_bits.ensures.adds

pub returns-in_err-step-clause-full : goal.returns-in_err-step-clause-full
returns-in_err-step-clause-full c e =
    let few = fits_in_two 1 c.width-bits.result in
    let full = c.fit_bits.ensures.full (handed_on _ _ _ _ c.in_err-step.was c.from_residual.ensures.1 e) in
    omega (arith, few, full)

pub returns-clause-adds : goal.returns-clause-adds
returns-clause-adds c = let few = fits_in_two 1 c.width-bits.result in adds_fewer _ _ _ _ (omega (arith, few)) (adds_twice _ _ _ _ _ c.fit_bits.ensures.adds (grows_once _ _ c.add.ensures.extends c.add.ensures.grows))

pub returns-clause-full : goal.returns-clause-full
returns-clause-full c e =
    let few = fits_in_two 1 c.width-bits.result in
    let most = c.fit_bits.ensures.adds.most in
    let full = c.add.ensures.full.0 e in
    omega (arith, few, most, full)
