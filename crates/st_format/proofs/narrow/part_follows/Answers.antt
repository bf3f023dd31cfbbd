use Rattle.std.proofs.Common.{◌≡◌, ◌-◌, ◌*◌, ◌==◌, nat_lt, ap, ◌∙◌, arith}
use Rattle.netlist.specs.Runs.{Always}
use Rattle.net_parts.specs.Laws.{if_ok, adds_fewer, adds_twice, grows_once}
use Rattle.st_format.proofs.CountedLemmas.{test_high}
use Rattle.stage_core.specs.Refusing.{handed_on}
use Rattle.st_format.proofs.narrow.part_follows.Goals as goal

pub returns-clause-value : goal.returns-clause-value
returns-clause-value c =
    if_ok c.less.result _ (λ more. Always c.less.new.self (λ cycle. (cycle.net more.number == 1) ≡ nat_lt (cycle.net c.args.empty.number) (c.args.sizes.now.symbols * (c.args.sizes.now.parts - 1))))
    (λ more value cycle v. (
    let behind = c.in_ok-most.ensures.value cycle (c.less.ensures.extends.valuations cycle v) ∙ c.rest_symbols.ensures.value in
    test_high _ _ (value cycle v).1 ∙ ap (nat_lt (cycle.net c.args.empty.number)) behind))
    c.less.ensures.value

pub returns-in_err-most-clause-adds : goal.returns-in_err-most-clause-adds
returns-in_err-most-clause-adds c = adds_fewer _ _ _ _ (omega arith) c.constant.ensures.adds

pub returns-clause-adds : goal.returns-clause-adds
returns-clause-adds c = adds_fewer _ _ _ _ (omega arith) (adds_twice _ _ _ _ _ c.constant.ensures.adds (grows_once _ _ c.less.ensures.extends c.less.ensures.grows))

pub returns-in_err-most-clause-full : goal.returns-in_err-most-clause-full
returns-in_err-most-clause-full c e = let full = c.constant.ensures.full (handed_on _ _ _ _ c.in_err-most.was c.from_residual.ensures.1 e) in omega (arith, full)

pub returns-clause-full : goal.returns-clause-full
returns-clause-full c e = let most0 = c.constant.ensures.adds.most in let full = c.less.ensures.full.0 e in omega (arith, most0, full)
