use Rattle.std.proofs.Common.{◌≡◌, ◌==◌, ◌&&◌, ◌||◌, ◌∙◌, not, sym, arith}
use Rattle.netlist.specs.Runs.{Always}
use Rattle.net_parts.specs.Nets.{IsBit}
use Rattle.net_parts.specs.Laws.{grows_once, adds_twice, adds_fewer, bit_fits, if_ok}
use Rattle.net_parts.specs.Refusing.{handed_on}
use Rattle.st_windows.proofs.CountNets.{asked}
use Rattle.st_windows.proofs.window.asks_for.Goals as goal

pub returns-clause-net : goal.returns-clause-net
returns-clause-net c = if_ok c.and.result _ (λ up. IsBit c.and.new.self up) (λ up net. record { is_net = net.0; has_width = net.1 ∙ c.in_ok-not_alone.ensures.net.1 ∙ c.requires.alone.has_width }) c.and.ensures.net

pub returns-clause-value : goal.returns-clause-value
returns-clause-value c =
    if_ok c.and.result _ (λ up. Always c.and.new.self (λ cycle. (cycle.net up.number == 1) ≡ (not (cycle.net c.args.alone.number == 1) && (not (cycle.net c.args.full.number == 1) || (cycle.net c.args.ready.number == 1)))))
    (λ up value cycle v4.
    (let v3 = c.and.ensures.extends.valuations cycle v4 in
    let v2 = c.not-2.ensures.extends.valuations cycle v3 in
    let v1 = c.or.ensures.extends.valuations cycle v2 in
    let v0 = c.not.ensures.extends.valuations cycle v1 in
    asked _ _ (cycle.net c.args.alone.number) (cycle.net c.args.full.number) (cycle.net c.args.ready.number) _ _ _ _ c.requires.full.has_width c.requires.alone.has_width (bit_fits _ _ c.requires.alone cycle v0) (bit_fits _ _ c.requires.full cycle v0) (bit_fits _ _ c.requires.ready cycle v0)
    (c.in_ok-not_full.ensures.value cycle v1).1 (c.in_ok-passes.ensures.value cycle v2).1 (c.in_ok-not_alone.ensures.value cycle v3).1
    (bit_fits _ _ (record { is_net = c.in_ok-passes.ensures.net.0; has_width = c.in_ok-passes.ensures.net.1 ∙ c.in_ok-not_full.ensures.net.1 ∙ c.requires.full.has_width }) cycle v2) (bit_fits _ _ (record { is_net = c.in_ok-not_alone.ensures.net.0; has_width = c.in_ok-not_alone.ensures.net.1 ∙ c.requires.alone.has_width }) cycle v3) (value cycle v4).1))
    c.and.ensures.value

pub returns-in_err-not_full-clause-adds : goal.returns-in_err-not_full-clause-adds
returns-in_err-not_full-clause-adds c = adds_fewer _ _ _ _ (omega arith) (grows_once _ _ c.not.ensures.extends c.not.ensures.grows)

pub returns-in_err-passes-clause-adds : goal.returns-in_err-passes-clause-adds
returns-in_err-passes-clause-adds c = adds_fewer _ _ _ _ (omega arith) (adds_twice _ _ _ _ _ (grows_once _ _ c.not.ensures.extends c.not.ensures.grows) (grows_once _ _ c.or.ensures.extends c.or.ensures.grows))

pub returns-in_err-not_alone-clause-adds : goal.returns-in_err-not_alone-clause-adds
returns-in_err-not_alone-clause-adds c = adds_fewer _ _ _ _ (omega arith) (adds_twice _ _ _ _ _ (adds_twice _ _ _ _ _ (grows_once _ _ c.not.ensures.extends c.not.ensures.grows) (grows_once _ _ c.or.ensures.extends c.or.ensures.grows)) (grows_once _ _ c.not-2.ensures.extends c.not-2.ensures.grows))

pub returns-clause-adds : goal.returns-clause-adds
returns-clause-adds c = adds_fewer _ _ _ _ (omega arith) (adds_twice _ _ _ _ _ (adds_twice _ _ _ _ _ (adds_twice _ _ _ _ _ (grows_once _ _ c.not.ensures.extends c.not.ensures.grows) (grows_once _ _ c.or.ensures.extends c.or.ensures.grows)) (grows_once _ _ c.not-2.ensures.extends c.not-2.ensures.grows)) (grows_once _ _ c.and.ensures.extends c.and.ensures.grows))

pub returns-in_err-not_full-clause-full : goal.returns-in_err-not_full-clause-full
returns-in_err-not_full-clause-full c e = let full = c.not.ensures.full.0 (handed_on _ _ _ _ c.in_err-not_full.was c.from_residual.ensures.1 e) in omega (arith, full)

pub returns-in_err-passes-clause-full : goal.returns-in_err-passes-clause-full
returns-in_err-passes-clause-full c e = let most0 = c.not.ensures.grows.most in let full = c.or.ensures.full.0 (handed_on _ _ _ _ c.in_err-passes.was c.from_residual-in_err-passes.ensures.1 e) in omega (arith, most0, full)

pub returns-in_err-not_alone-clause-full : goal.returns-in_err-not_alone-clause-full
returns-in_err-not_alone-clause-full c e = let most0 = c.not.ensures.grows.most in let most1 = c.or.ensures.grows.most in let full = c.not-2.ensures.full.0 (handed_on _ _ _ _ c.in_err-not_alone.was c.from_residual-in_err-not_alone.ensures.1 e) in omega (arith, most0, most1, full)

pub returns-clause-full : goal.returns-clause-full
returns-clause-full c e = let most0 = c.not.ensures.grows.most in let most1 = c.or.ensures.grows.most in let most2 = c.not-2.ensures.grows.most in let full = c.and.ensures.full.0 e in omega (arith, most0, most1, most2, full)

pub or-requires-clause-a_is : goal.or-requires-clause-a_is
or-requires-clause-a_is c = c.in_ok-not_full.ensures.net.0

pub or-requires-clause-b_is : goal.or-requires-clause-b_is
or-requires-clause-b_is c = c.not.ensures.extends.nets _ _ c.requires.ready.is_net

pub or-requires-clause-widths : goal.or-requires-clause-widths
or-requires-clause-widths c = c.in_ok-not_full.ensures.net.1 ∙ c.requires.full.has_width ∙ sym c.requires.ready.has_width

pub and-requires-clause-a_is : goal.and-requires-clause-a_is
and-requires-clause-a_is c = c.in_ok-not_alone.ensures.net.0

pub and-requires-clause-b_is : goal.and-requires-clause-b_is
and-requires-clause-b_is c = c.not-2.ensures.extends.nets _ _ c.in_ok-passes.ensures.net.0

pub and-requires-clause-widths : goal.and-requires-clause-widths
and-requires-clause-widths c = c.in_ok-not_alone.ensures.net.1 ∙ c.requires.alone.has_width ∙ sym (c.in_ok-passes.ensures.net.1 ∙ c.in_ok-not_full.ensures.net.1 ∙ c.requires.full.has_width)
