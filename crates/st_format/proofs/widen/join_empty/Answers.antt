use Rattle.std.proofs.Common.{◌≡◌, sym, ◌∙◌, arith}
use Rattle.std.proofs.lemmas.Result.{IfOk-from_err}
use Rattle.netlist.specs.Runs.{Always}
use Rattle.net_parts.specs.Nets.{IsNetOfWidth}
use Rattle.net_parts.specs.Laws.{extends_twice, grows_once, adds_twice, adds_fewer, if_ok}
use Rattle.st_format.specs.WidenNets.{missing_in}
use Rattle.st_format.proofs.WidenLemmas.{missing_and}
use Rattle.stage_core.specs.Refusing.{handed_on}
use Rattle.st_format.proofs.widen.join_empty.Goals as goal

pub returns-clause-net : goal.returns-clause-net
returns-clause-net c = if_ok c.add.result _ (λ joined. IsNetOfWidth c.add.new.self joined c.args.sizes.now.count) (λ joined net. record { is_net = net.0; has_width = net.1 ∙ (c.in_ok-missing.ensures.net.1 ∙ c.in_ok-most.ensures.net.has_width) }) c.add.ensures.net

pub returns-clause-value : goal.returns-clause-value
returns-clause-value c =
    if_ok c.add.result _ (λ joined. Always c.add.new.self (λ cycle. cycle.net joined.number ≡ missing_in c.args.sizes.now (cycle.net c.args.gathered.number) (cycle.net c.args.empty.number)))
    (λ joined value cycle v4. (
    let v3 = c.add.ensures.extends.valuations cycle v4 in
    let v2 = c.fit_empty.ensures.adds.grows.extends.valuations cycle v3 in
    let v1 = c.sub.ensures.extends.valuations cycle v2 in
    let v0 = c.constant.ensures.adds.grows.extends.valuations cycle v1 in
    missing_and c.args.sizes.now _ _ (cycle.net c.args.gathered.number) _ _ _ (cycle.net c.args.empty.number) (cycle.net joined.number) c.in_ok-most.ensures.net.has_width (c.in_ok-missing.ensures.net.1 ∙ c.in_ok-most.ensures.net.has_width)
    (c.in_ok-most.ensures.value cycle v1 ∙ c.rest_symbols.ensures.value) (c.in_ok-missing.ensures.value cycle v2).1 (c.in_ok-own.ensures.value cycle v3) (value cycle v4).1))
    c.add.ensures.value

pub returns-clause-adds : goal.returns-clause-adds
returns-clause-adds c = adds_fewer _ _ _ _ (omega arith) (adds_twice _ _ _ _ _ (adds_twice _ _ _ _ _ (adds_twice _ _ _ _ _ c.constant.ensures.adds (grows_once _ _ c.sub.ensures.extends c.sub.ensures.grows)) c.fit_empty.ensures.adds) (grows_once _ _ c.add.ensures.extends c.add.ensures.grows))

pub add-requires-clause-a_is : goal.add-requires-clause-a_is
add-requires-clause-a_is c = c.fit_empty.ensures.adds.grows.extends.nets _ _ c.in_ok-missing.ensures.net.0

pub add-requires-clause-b_is : goal.add-requires-clause-b_is
add-requires-clause-b_is c = c.in_ok-own.ensures.net.is_net

pub returns-in_err-most-clause-adds : goal.returns-in_err-most-clause-adds
returns-in_err-most-clause-adds c = adds_fewer _ _ _ _ (omega arith) c.constant.ensures.adds

pub returns-in_err-missing-clause-adds : goal.returns-in_err-missing-clause-adds
returns-in_err-missing-clause-adds c = adds_fewer _ _ _ _ (omega arith) (adds_twice _ _ _ _ _ c.constant.ensures.adds (grows_once _ _ c.sub.ensures.extends c.sub.ensures.grows))

pub returns-in_err-own-clause-adds : goal.returns-in_err-own-clause-adds
returns-in_err-own-clause-adds c = adds_fewer _ _ _ _ (omega arith) (adds_twice _ _ _ _ _ (adds_twice _ _ _ _ _ c.constant.ensures.adds (grows_once _ _ c.sub.ensures.extends c.sub.ensures.grows)) c.fit_empty.ensures.adds)

pub returns-in_err-most-clause-full : goal.returns-in_err-most-clause-full
returns-in_err-most-clause-full c e = let full = c.constant.ensures.full (handed_on _ _ _ _ c.in_err-most.was c.from_residual.ensures.1 e) in omega (arith, full)

pub returns-in_err-missing-clause-full : goal.returns-in_err-missing-clause-full
returns-in_err-missing-clause-full c e = let most0 = c.constant.ensures.adds.most in let full = c.sub.ensures.full.0 (handed_on _ _ _ _ c.in_err-missing.was c.from_residual-in_err-missing.ensures.1 e) in omega (arith, most0, full)

pub returns-in_err-own-clause-full : goal.returns-in_err-own-clause-full
returns-in_err-own-clause-full c e = let most0 = c.constant.ensures.adds.most in let most1 = c.sub.ensures.grows.most in let full = c.fit_empty.ensures.full (handed_on _ _ _ _ c.in_err-own.was c.from_residual-in_err-own.ensures.1 e) in omega (arith, most0, most1, full)

pub returns-clause-full : goal.returns-clause-full
returns-clause-full c e = let most0 = c.constant.ensures.adds.most in let most1 = c.sub.ensures.grows.most in let most2 = c.fit_empty.ensures.adds.most in let full = c.add.ensures.full.0 e in omega (arith, most0, most1, most2, full)

pub returns-in_err-most-clause-net : goal.returns-in_err-most-clause-net
returns-in_err-most-clause-net c = IfOk-from_err _ _ c.from_residual.ensures.0

pub returns-in_err-most-clause-value : goal.returns-in_err-most-clause-value
returns-in_err-most-clause-value c = IfOk-from_err _ _ c.from_residual.ensures.0

pub returns-in_err-missing-clause-net : goal.returns-in_err-missing-clause-net
returns-in_err-missing-clause-net c = IfOk-from_err _ _ c.from_residual-in_err-missing.ensures.0

pub returns-in_err-missing-clause-value : goal.returns-in_err-missing-clause-value
returns-in_err-missing-clause-value c = IfOk-from_err _ _ c.from_residual-in_err-missing.ensures.0

pub returns-in_err-own-clause-net : goal.returns-in_err-own-clause-net
returns-in_err-own-clause-net c = IfOk-from_err _ _ c.from_residual-in_err-own.ensures.0

pub returns-in_err-own-clause-value : goal.returns-in_err-own-clause-value
returns-in_err-own-clause-value c = IfOk-from_err _ _ c.from_residual-in_err-own.ensures.0

pub sub-requires-clause-a_is : goal.sub-requires-clause-a_is
sub-requires-clause-a_is c = c.in_ok-most.ensures.net.is_net

pub sub-requires-clause-b_is : goal.sub-requires-clause-b_is
sub-requires-clause-b_is c = c.constant.ensures.adds.grows.extends.nets _ _ c.requires.gathered.is_net

pub sub-requires-clause-widths : goal.sub-requires-clause-widths
sub-requires-clause-widths c = c.in_ok-most.ensures.net.has_width ∙ sym c.requires.gathered.has_width

pub fit_empty-requires-clause-empty : goal.fit_empty-requires-clause-empty
fit_empty-requires-clause-empty c = (extends_twice _ _ _ c.constant.ensures.adds.grows.extends c.sub.ensures.extends).nets _ _ c.requires.empty

pub add-requires-clause-widths : goal.add-requires-clause-widths
add-requires-clause-widths c = c.in_ok-missing.ensures.net.1 ∙ (c.in_ok-most.ensures.net.has_width ∙ sym c.in_ok-own.ensures.net.has_width)
