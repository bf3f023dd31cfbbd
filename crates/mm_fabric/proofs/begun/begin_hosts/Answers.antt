use Rattle.std.proofs.Common.{◌≡◌, ◌+◌, false, Result, Ok, Err, subst, sym, ◌∙◌, arith}
use Rattle.std.specs.Result.{OnOk, is_err}
use Rattle.net_parts.specs.Laws.{grows_within}
use Rattle.mm_fabric.specs.Begun.{begun_nets, HaveBegunSoFar}
use Rattle.mm_fabric.proofs.Beginning.{none_begun, end_at, one_more_begun}
use Rattle.mm_fabric.proofs.begun.begin_hosts.Goals as goal

pub loop-number-init : goal.loop-number-init
loop-number-init c = subst (λ begun. HaveBegunSoFar c.args.plan.now c.args.builder.now c.args.builder.now c.args.ends.now begun 0) (sym c.new-begun.ensures) (none_begun _ _ _)

pub begin_host-requires-clause-end : goal.begin_host-requires-clause-end
begin_host-requires-clause-end c = end_at _ _ _ c.loop-number.number c.args.ends.now _ c.requires.ends c.loop-number.invariant.grows.extends c.loop-number-test.true c.index-ends-number.is

pub returns-in_err-host-clause-grows : goal.returns-in_err-host-clause-grows
returns-in_err-host-clause-grows c = let lt = c.loop-number-test.true in grows_within _ begun_nets _ _ _ _ c.loop-number.invariant.grows c.begin_host.ensures.grows (omega (arith, lt))

pub returns-then-is_err-clause-grows : goal.returns-then-is_err-clause-grows
returns-then-is_err-clause-grows c = let lt = c.loop-number-test.true in grows_within _ begun_nets _ _ _ _ c.loop-number.invariant.grows c.begin_host.ensures.grows (omega (arith, lt))

pushed : {X E : Type 0} (r : Result X E) (P : Type 0) → OnOk r P → is_err r ≡ false → P
pushed (Ok x) P h e = h
pushed (Err x) P h e = absurd (cc)

pub loop-number-preserved : goal.loop-number-preserved
loop-number-preserved c =
    let made = c.in_ok-host.ensures in
    let longer = pushed c.push.result _ c.push.ensures.ok (sym c.is_err.ensures.value ∙ c.if-is_err.false) in
    subst (λ begun. HaveBegunSoFar c.args.plan.now c.args.builder.now c.begin_host.new.builder c.args.ends.now begun (c.loop-number.number + 1)) (sym longer)
    (one_more_begun c.args.plan.now c.args.builder.now c.loop-number.builder c.begin_host.new.builder c.args.ends.now c.loop-number.begun c.loop-number.number c.index-ends-number.result c.in_ok-host.host c.loop-number.invariant c.loop-number-test.true c.index-ends-number.is
    (record { is = made.begun; end_is = made.end; owned = made.owned; newly = made.newly; grows = made.grows; waits = made.waits }))
