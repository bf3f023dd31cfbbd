use Rattle.std.proofs.Common.{◌+◌, ◌^◌, ◌<◌, ◌≡◌, ◌==◌, subst, ◌∙◌, arith}
use Rattle.histories.specs.History.{one_if}
use Rattle.netlist.specs.Runs.{Always}
use Rattle.net_parts.specs.Nets.{IsNetOfWidth}
use Rattle.net_parts.specs.Laws.{if_ok, adds_twice, adds_fewer}
use Rattle.net_parts.specs.Refusing.{handed_on}
use Rattle.st_timing.specs.PromiseNets.{IsNextFree}
use Rattle.st_timing.proofs.PromiseCounts.{free_counted}
use Rattle.st_timing.proofs.promises.later_free.Goals as goal

pub returns-clause-value : goal.returns-clause-value
returns-clause-value c =
    if_ok c.one_more-2.result _ (λ later. Always c.one_more-2.new.builder (λ cycle. IsNextFree c.args.free.width (cycle.net c.args.free.number) (cycle.net c.args.promised.number == 1) (cycle.net c.args.unused.number == 1) (cycle.net c.args.goes.number == 1) (cycle.net later.number)))
    (λ later value cycle v2. (
    let v1 = c.one_more-2.ensures.adds.grows.extends.valuations cycle v2 in
    let v0 = c.one_more.ensures.adds.grows.extends.valuations cycle v1 in
    let left_wide = c.in_ok-left.ensures.net.has_width in
    let again_wide = c.in_ok-again.ensures.net.has_width ∙ left_wide in
    free_counted c.args.free.width (cycle.net c.args.free.number) (cycle.net c.in_ok-left.left.number) (cycle.net c.in_ok-again.again.number) (cycle.net later.number) _ _ _
    (c.in_ok-left.ensures.value cycle v0)
    (subst (λ w. cycle.net c.in_ok-left.left.number + one_if (cycle.net c.args.unused.number == 1) < 2 ^ w → cycle.net c.in_ok-again.again.number ≡ cycle.net c.in_ok-left.left.number + one_if (cycle.net c.args.unused.number == 1)) left_wide (c.in_ok-again.ensures.value cycle v1))
    (subst (λ w. cycle.net c.in_ok-again.again.number + one_if (cycle.net c.args.goes.number == 1) < 2 ^ w → cycle.net later.number ≡ cycle.net c.in_ok-again.again.number + one_if (cycle.net c.args.goes.number == 1)) again_wide (value cycle v2))))
    c.one_more-2.ensures.value

pub returns-clause-net : goal.returns-clause-net
returns-clause-net c =
    if_ok c.one_more-2.result _ (λ later. IsNetOfWidth c.one_more-2.new.builder later c.args.free.width)
    (λ later net. record { is_net = net.is_net; has_width = net.has_width ∙ c.in_ok-again.ensures.net.has_width ∙ c.in_ok-left.ensures.net.has_width })
    c.one_more-2.ensures.net

pub returns-in_err-left-clause-adds : goal.returns-in_err-left-clause-adds
returns-in_err-left-clause-adds c = adds_fewer _ _ _ _ (omega arith) c.one_fewer.ensures.adds

pub returns-in_err-left-clause-full : goal.returns-in_err-left-clause-full
returns-in_err-left-clause-full c e = let full = c.one_fewer.ensures.full (handed_on _ _ _ _ c.in_err-left.was c.from_residual.ensures.1 e) in omega (arith, full)

pub returns-in_err-again-clause-adds : goal.returns-in_err-again-clause-adds
returns-in_err-again-clause-adds c = adds_fewer _ _ _ _ (omega arith) (adds_twice _ _ _ _ _ c.one_fewer.ensures.adds c.one_more.ensures.adds)

pub returns-in_err-again-clause-full : goal.returns-in_err-again-clause-full
returns-in_err-again-clause-full c e =
    let most = c.one_fewer.ensures.adds.most in
    let full = c.one_more.ensures.full (handed_on _ _ _ _ c.in_err-again.was c.from_residual-in_err-again.ensures.1 e) in
    omega (arith, most, full)

pub returns-clause-adds : goal.returns-clause-adds
returns-clause-adds c = adds_fewer _ _ _ _ (omega arith) (adds_twice _ _ _ _ _ (adds_twice _ _ _ _ _ c.one_fewer.ensures.adds c.one_more.ensures.adds) c.one_more-2.ensures.adds)

pub returns-clause-full : goal.returns-clause-full
returns-clause-full c e =
    let most = c.one_fewer.ensures.adds.most in
    let more = c.one_more.ensures.adds.most in
    let full = c.one_more-2.ensures.full e in
    omega (arith, most, more, full)
