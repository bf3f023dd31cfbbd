use Rattle.std.proofs.Common.{◌≡◌, if◌then◌else◌, ap, ◌∙◌, arith}
use Rattle.histories.specs.History.{is_raised}
use Rattle.netlist.specs.Runs.{Always}
use Rattle.net_parts.specs.Laws.{if_ok, adds_fewer, adds_twice}
use Rattle.net_parts.specs.Refusing.{handed_on}
use Rattle.mm_burst.proofs.shows.only_while.Goals as goal

pub returns-clause-value : goal.returns-clause-value
returns-clause-value c =
    if_ok c.pick.result _ (λ made. Always c.pick.new.builder (λ cycle. cycle.net made.number ≡ (if is_raised (cycle.net c.args.bit.number) then cycle.net c.args.net.number else 0)))
    (λ made value cycle v. value cycle v ∙ ap (λ n. if is_raised (cycle.net c.args.bit.number) then cycle.net c.args.net.number else n) (c.in_ok-none.ensures.value cycle (c.pick.ensures.adds.grows.extends.valuations cycle v)))
    c.pick.ensures.value

pub returns-in_err-none-clause-adds : goal.returns-in_err-none-clause-adds
returns-in_err-none-clause-adds c = adds_fewer _ _ _ _ (omega arith) c.constant.ensures.adds

pub returns-in_err-none-clause-full : goal.returns-in_err-none-clause-full
returns-in_err-none-clause-full c e =
    let full = c.constant.ensures.full (handed_on _ _ _ _ c.in_err-none.was c.from_residual.ensures.1 e) in
    omega (arith, full)

pub returns-clause-adds : goal.returns-clause-adds
returns-clause-adds c = adds_fewer _ _ _ _ (omega arith) (adds_twice _ _ _ _ _ c.constant.ensures.adds c.pick.ensures.adds)

pub returns-clause-full : goal.returns-clause-full
returns-clause-full c e =
    let most0 = c.constant.ensures.adds.most in
    let full = c.pick.ensures.full e in
    omega (arith, most0, full)
