use Rattle.std.proofs.Common.{◌≡◌, ◌-◌, ◌*◌, ◌==◌, ◌||◌, ap, ◌∙◌, arith}
use Rattle.netlist.specs.Runs.{Always}
use Rattle.net_parts.specs.Nets.{IsBit}
use Rattle.net_parts.specs.Laws.{bit_fits, if_ok, adds_fewer, adds_twice, grows_once}
use Rattle.net_parts.specs.Bits.{high_or}
use Rattle.st_format.proofs.CountedLemmas.{test_high}
use Rattle.stage_core.specs.Refusing.{handed_on}
use Rattle.st_format.proofs.widen.fills_up.Goals as goal

pub returns-clause-net : goal.returns-clause-net
returns-clause-net c = if_ok c.or.result _ (IsBit c.or.new.self) (λ full net. record { is_net = net.0; has_width = net.1 ∙ c.requires.last.has_width }) c.or.ensures.net

pub returns-clause-value : goal.returns-clause-value
returns-clause-value c =
    if_ok c.or.result _ (λ full. Always c.or.new.self (λ cycle. (cycle.net full.number == 1) ≡ ((cycle.net c.args.last.number == 1) || (cycle.net c.args.gathered.number == c.args.sizes.now.symbols * (c.args.sizes.now.parts - 1)))))
    (λ full value cycle v3. (
    let v2 = c.or.ensures.extends.valuations cycle v3 in
    let v1 = c.eq.ensures.extends.valuations cycle v2 in
    let v0 = c.constant.ensures.adds.grows.extends.valuations cycle v1 in
    let place = c.in_ok-in_last_place.ensures.value cycle v2 in
    let most = c.in_ok-most.ensures.value cycle v1 ∙ c.rest_symbols.ensures.value in
    high_or (cycle.net c.args.last.number) (cycle.net c.in_ok-in_last_place.in_last_place.number) (cycle.net full.number) (bit_fits _ _ c.requires.last cycle v0) place.0 (value cycle v3).1
    ∙ ap (λ t. (cycle.net c.args.last.number == 1) || t) (test_high _ _ place.1 ∙ ap (λ n. cycle.net c.args.gathered.number == n) most)))
    c.or.ensures.value

pub returns-in_err-most-clause-adds : goal.returns-in_err-most-clause-adds
returns-in_err-most-clause-adds c = adds_fewer _ _ _ _ (omega arith) c.constant.ensures.adds

pub returns-in_err-in_last_place-clause-adds : goal.returns-in_err-in_last_place-clause-adds
returns-in_err-in_last_place-clause-adds c = adds_fewer _ _ _ _ (omega arith) (adds_twice _ _ _ _ _ c.constant.ensures.adds (grows_once _ _ c.eq.ensures.extends c.eq.ensures.grows))

pub returns-clause-adds : goal.returns-clause-adds
returns-clause-adds c = adds_fewer _ _ _ _ (omega arith) (adds_twice _ _ _ _ _ (adds_twice _ _ _ _ _ c.constant.ensures.adds (grows_once _ _ c.eq.ensures.extends c.eq.ensures.grows)) (grows_once _ _ c.or.ensures.extends c.or.ensures.grows))

pub returns-in_err-most-clause-full : goal.returns-in_err-most-clause-full
returns-in_err-most-clause-full c e = let full = c.constant.ensures.full (handed_on _ _ _ _ c.in_err-most.was c.from_residual.ensures.1 e) in omega (arith, full)

pub returns-in_err-in_last_place-clause-full : goal.returns-in_err-in_last_place-clause-full
returns-in_err-in_last_place-clause-full c e = let most0 = c.constant.ensures.adds.most in let full = c.eq.ensures.full.0 (handed_on _ _ _ _ c.in_err-in_last_place.was c.from_residual-in_err-in_last_place.ensures.1 e) in omega (arith, most0, full)

pub returns-clause-full : goal.returns-clause-full
returns-clause-full c e = let most0 = c.constant.ensures.adds.most in let most1 = c.eq.ensures.grows.most in let full = c.or.ensures.full.0 e in omega (arith, most0, most1, full)
