use Rattle.std.proofs.Common.{◌==◌, ◌&&◌, not, subst, ap, ◌∙◌, arith}
use Rattle.netlist.specs.Runs.{Always}
use Rattle.net_parts.specs.Laws.{if_ok, adds_twice, adds_fewer}
use Rattle.net_parts.specs.Refusing.{handed_on}
use Rattle.st_timing.specs.PromiseNets.{IsNextFree, is_unused}
use Rattle.st_timing.proofs.promises.next_free.Goals as goal

pub bit_before-requires-clause-kept : goal.bit_before-requires-clause-kept
bit_before-requires-clause-kept c = let wide = c.requires.promises.history.net.has_width in omega (arith, wide)

pub returns-clause-value : goal.returns-clause-value
returns-clause-value c =
    if_ok c.later_free.result _ (λ next. Always c.later_free.new.builder (λ cycle. IsNextFree c.args.promises.now.free.width (cycle.net c.args.promises.now.free.number) (cycle.net c.args.promised.number == 1) (is_unused c.args.latency (cycle.net c.args.promises.now.history.number) (cycle.net c.args.comes.number)) (cycle.net c.args.goes.number == 1) (cycle.net next.number)))
    (λ next value cycle v2. (
    let v1 = c.later_free.ensures.adds.grows.extends.valuations cycle v2 in
    let v0 = c.comes_unused.ensures.adds.grows.extends.valuations cycle v1 in
    subst (λ t. IsNextFree c.args.promises.now.free.width (cycle.net c.args.promises.now.free.number) (cycle.net c.args.promised.number == 1) t (cycle.net c.args.goes.number == 1) (cycle.net next.number))
    (c.in_ok-unused.ensures.value cycle v1 ∙ ap (λ n. (n == 1) && not (cycle.net c.args.comes.number == 1)) (c.in_ok-due.ensures.value cycle v0)) (value cycle v2)))
    c.later_free.ensures.value

pub returns-in_err-due-clause-adds : goal.returns-in_err-due-clause-adds
returns-in_err-due-clause-adds c = adds_fewer _ _ _ _ (omega arith) c.bit_before.ensures.adds

pub returns-in_err-due-clause-full : goal.returns-in_err-due-clause-full
returns-in_err-due-clause-full c e = let full = c.bit_before.ensures.full (handed_on _ _ _ _ c.in_err-due.was c.from_residual.ensures.1 e) in omega (arith, full)

pub returns-in_err-unused-clause-adds : goal.returns-in_err-unused-clause-adds
returns-in_err-unused-clause-adds c = adds_fewer _ _ _ _ (omega arith) (adds_twice _ _ _ _ _ c.bit_before.ensures.adds c.comes_unused.ensures.adds)

pub returns-in_err-unused-clause-full : goal.returns-in_err-unused-clause-full
returns-in_err-unused-clause-full c e =
    let most = c.bit_before.ensures.adds.most in
    let full = c.comes_unused.ensures.full (handed_on _ _ _ _ c.in_err-unused.was c.from_residual-in_err-unused.ensures.1 e) in
    omega (arith, most, full)

pub returns-clause-adds : goal.returns-clause-adds
returns-clause-adds c = adds_fewer _ _ _ _ (omega arith) (adds_twice _ _ _ _ _ (adds_twice _ _ _ _ _ c.bit_before.ensures.adds c.comes_unused.ensures.adds) c.later_free.ensures.adds)

pub returns-clause-full : goal.returns-clause-full
returns-clause-full c e =
    let most = c.bit_before.ensures.adds.most in
    let more = c.comes_unused.ensures.adds.most in
    let full = c.later_free.ensures.full e in
    omega (arith, most, more, full)

pub returns-clause-net : goal.returns-clause-net
returns-clause-net c = c.later_free.ensures.net
