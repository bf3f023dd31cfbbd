use Rattle.std.proofs.Common.{◌≡◌, ◌^◌, ◌<◌, subst, ◌∙◌, arith}
use Rattle.netlist.specs.Runs.{Always}
use Rattle.net_parts.specs.Laws.{valued_fits, if_ok, adds_fewer, adds_twice, grows_once}
use Rattle.net_parts.specs.Nets.{IsNetOfWidth}
use Rattle.st_format.specs.ClearNets.{without_low}
use Rattle.st_format.proofs.ClearLaw.{low_all, low_some}
use Rattle.stage_core.specs.Refusing.{handed_on}
use Rattle.st_format.proofs.clear.clear_low.Goals as goal

pub returns-clause-net : goal.returns-clause-net
returns-clause-net c =
    if_ok c.concat.result _ (λ high. IsNetOfWidth c.concat.new.self high c.args.word.width)
    (λ high net. record { is_net = net.0; has_width = net.1 ∙ (let one = c.in_ok-high.ensures.net.1 in let two = c.in_ok-zeros.ensures.net.has_width in omega (arith, one, two)) })
    c.concat.ensures.net

pub returns-clause-value : goal.returns-clause-value
returns-clause-value c =
    if_ok c.concat.result _ (λ high. Always c.concat.new.self (λ cycle. cycle.net high.number ≡ without_low c.args.low (cycle.net c.args.word.number)))
    (λ high value cycle v3. (
    let v2 = c.concat.ensures.extends.valuations cycle v3 in
    let v1 = c.slice.ensures.extends.valuations cycle v2 in
    let v0 = c.constant.ensures.adds.grows.extends.valuations cycle v1 in
    low_some (cycle.net c.args.word.number) (cycle.net c.in_ok-high.high.number) (cycle.net c.in_ok-zeros.zeros.number) (cycle.net high.number) c.args.low _ c.args.word.width _ (omega arith) (valued_fits _ cycle v0 _ _ c.requires.word) c.in_ok-zeros.ensures.net.has_width
    (c.in_ok-high.ensures.value cycle v2).1 (c.in_ok-zeros.ensures.value cycle v1) (value cycle v3).1 c.width-width.ensures.value))
    c.concat.ensures.value

pub returns-then-low-width-clause-value : goal.returns-then-low-width-clause-value
returns-then-low-width-clause-value c cycle v1 =
    let v0 = c.constant.ensures.adds.grows.extends.valuations cycle v1 in
    let same : c.args.word.width ≡ c.args.low = omega (arith, c.width-width.ensures.value) in
    c.in_ok-zeros.ensures.value cycle v1 ∙ low_all (cycle.net c.args.word.number) c.args.low (subst (λ w. cycle.net c.args.word.number < 2 ^ w) same (valued_fits _ cycle v0 _ _ c.requires.word))

pub returns-in_err-zeros-clause-full : goal.returns-in_err-zeros-clause-full
returns-in_err-zeros-clause-full c e = let full = c.constant.ensures.full (handed_on _ _ _ _ c.in_err-zeros.was c.from_residual.ensures.1 e) in omega (arith, full)

pub returns-in_err-high-clause-full : goal.returns-in_err-high-clause-full
returns-in_err-high-clause-full c e = let most0 = c.constant.ensures.adds.most in let full = c.slice.ensures.full.0 (handed_on _ _ _ _ c.in_err-high.was c.from_residual-in_err-high.ensures.1 e) in omega (arith, most0, full)

pub returns-clause-full : goal.returns-clause-full
returns-clause-full c e = let most0 = c.constant.ensures.adds.most in let most1 = c.slice.ensures.grows.most in let full = c.concat.ensures.full.0 e in omega (arith, most0, most1, full)

pub returns-then-low-width-clause-full : goal.returns-then-low-width-clause-full
returns-then-low-width-clause-full c e = cc

pub slice-requires-clause-a_is : goal.slice-requires-clause-a_is
slice-requires-clause-a_is c = c.constant.ensures.adds.grows.extends.nets _ _ c.requires.word

pub concat-requires-clause-a_is : goal.concat-requires-clause-a_is
concat-requires-clause-a_is c = c.in_ok-high.ensures.net.0

pub concat-requires-clause-b_is : goal.concat-requires-clause-b_is
concat-requires-clause-b_is c = c.slice.ensures.extends.nets _ _ c.in_ok-zeros.ensures.net.is_net

pub returns-in_err-zeros-clause-adds : goal.returns-in_err-zeros-clause-adds
returns-in_err-zeros-clause-adds c = adds_fewer _ _ _ _ (omega arith) c.constant.ensures.adds

pub returns-in_err-high-clause-adds : goal.returns-in_err-high-clause-adds
returns-in_err-high-clause-adds c = adds_fewer _ _ _ _ (omega arith) (adds_twice _ _ _ _ _ c.constant.ensures.adds (grows_once _ _ c.slice.ensures.extends c.slice.ensures.grows))

pub returns-then-low-width-clause-adds : goal.returns-then-low-width-clause-adds
returns-then-low-width-clause-adds c = adds_fewer _ _ _ _ (omega arith) c.constant.ensures.adds

pub returns-clause-adds : goal.returns-clause-adds
returns-clause-adds c = adds_fewer _ _ _ _ (omega arith) (adds_twice _ _ _ _ _ (adds_twice _ _ _ _ _ c.constant.ensures.adds (grows_once _ _ c.slice.ensures.extends c.slice.ensures.grows)) (grows_once _ _ c.concat.ensures.extends c.concat.ensures.grows))
