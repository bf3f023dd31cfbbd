use Rattle.std.proofs.Common.{◌≡◌, ◌+◌, false, Result, Ok, Err, subst, sym, ◌∙◌, inl, inr, arith}
use Rattle.std.specs.Result.{OnOk, is_err}
use Rattle.net_parts.specs.Refusing.{handed_on}
use Rattle.mm_agent.specs.Memories.{memory_grows_fewer, memory_grows_within}
use Rattle.mm_fabric.specs.Finished.{finished_nets, AreFinishedSoFar}
use Rattle.mm_fabric.proofs.Finishing.{may_at, wait_on, none_finished, one_more_finished}
use Rattle.mm_fabric.proofs.finished.finish_hosts.Goals as goal

pub loop-number-init : goal.loop-number-init
loop-number-init c = subst (λ hosts. AreFinishedSoFar c.args.builder.now c.args.builder.now c.args.parts.now c.args.begun.now hosts 0) (sym c.new-hosts.ensures) (none_finished _ _ _ c.requires.hosts)

pub finish_begun-requires-clause-port : goal.finish_begun-requires-clause-port
finish_begun-requires-clause-port c = (may_at _ c.args.parts.now c.args.begun.now c.loop-number.number _ c.loop-number.invariant.rest c.loop-number-test.true c.index-begun-number.is).bounded

pub finish_begun-requires-clause-trunk : goal.finish_begun-requires-clause-trunk
finish_begun-requires-clause-trunk c = (may_at _ c.args.parts.now c.args.begun.now c.loop-number.number _ c.loop-number.invariant.rest c.loop-number-test.true c.index-begun-number.is).trunk

pub finish_begun-requires-clause-lone : goal.finish_begun-requires-clause-lone
finish_begun-requires-clause-lone c = (may_at _ c.args.parts.now c.args.begun.now c.loop-number.number _ c.loop-number.invariant.rest c.loop-number-test.true c.index-begun-number.is).lone

pub finish_begun-requires-clause-few : goal.finish_begun-requires-clause-few
finish_begun-requires-clause-few c = (may_at _ c.args.parts.now c.args.begun.now c.loop-number.number _ c.loop-number.invariant.rest c.loop-number-test.true c.index-begun-number.is).few

pub finish_begun-requires-clause-forward : goal.finish_begun-requires-clause-forward
finish_begun-requires-clause-forward c = (may_at _ c.args.parts.now c.args.begun.now c.loop-number.number _ c.loop-number.invariant.rest c.loop-number-test.true c.index-begun-number.is).forward

pub finish_begun-requires-clause-tell : goal.finish_begun-requires-clause-tell
finish_begun-requires-clause-tell c = (may_at _ c.args.parts.now c.args.begun.now c.loop-number.number _ c.loop-number.invariant.rest c.loop-number-test.true c.index-begun-number.is).tell

pub returns-in_err-host-clause-grows : goal.returns-in_err-host-clause-grows
returns-in_err-host-clause-grows c =
    let lt = c.loop-number-test.true in
    let few = (may_at _ c.args.parts.now c.args.begun.now c.loop-number.number _ c.loop-number.invariant.rest c.loop-number-test.true c.index-begun-number.is).few in
    memory_grows_within _ finished_nets _ _ 1 _ _ _ _ c.loop-number.invariant.grows (memory_grows_fewer _ finished_nets 1 1 _ _ (omega (arith, few)) (omega arith) c.finish_begun.ensures.grows) (omega (arith, lt)) (omega (arith, lt))

pub returns-then-is_err-clause-grows : goal.returns-then-is_err-clause-grows
returns-then-is_err-clause-grows c =
    let lt = c.loop-number-test.true in
    let few = (may_at _ c.args.parts.now c.args.begun.now c.loop-number.number _ c.loop-number.invariant.rest c.loop-number-test.true c.index-begun-number.is).few in
    memory_grows_within _ finished_nets _ _ 1 _ _ _ _ c.loop-number.invariant.grows (memory_grows_fewer _ finished_nets 1 1 _ _ (omega (arith, few)) (omega arith) c.finish_begun.ensures.grows) (omega (arith, lt)) (omega (arith, lt))

pub returns-in_err-host-clause-full : goal.returns-in_err-host-clause-full
returns-in_err-host-clause-full c e =
    let lt = c.loop-number-test.true in
    let few = (may_at _ c.args.parts.now c.args.begun.now c.loop-number.number _ c.loop-number.invariant.rest c.loop-number-test.true c.index-begun-number.is).few in
    let most = c.loop-number.invariant.grows.most in
    let memories = c.loop-number.invariant.grows.most_memories in
    elim (c.finish_begun.ensures.full (handed_on _ _ _ _ c.in_err-host.was c.from_residual.ensures.1 e)) [
      | inl full ↦ inl (omega (arith, lt, few, most, full))
      | inr full ↦ inr (omega (arith, lt, memories, full))
    ]

pushed : {X E : Type 0} (r : Result X E) (P : Type 0) → OnOk r P → is_err r ≡ false → P
pushed (Ok x) P h e = h
pushed (Err x) P h e = absurd (cc)

pub loop-number-preserved : goal.loop-number-preserved
loop-number-preserved c =
    let made = c.in_ok-host.ensures in
    let few = (may_at _ c.args.parts.now c.args.begun.now c.loop-number.number _ c.loop-number.invariant.rest c.loop-number-test.true c.index-begun-number.is).few in
    let longer = pushed c.push.result _ c.push.ensures.ok (sym c.is_err.ensures.value ∙ c.if-is_err.false) in
    subst (λ hosts. AreFinishedSoFar c.args.builder.now c.finish_begun.new.builder c.args.parts.now c.args.begun.now hosts (c.loop-number.number + 1)) (sym longer)
    (one_more_finished c.args.builder.now c.loop-number.builder c.finish_begun.new.builder c.args.parts.now c.args.begun.now c.loop-number.hosts c.loop-number.number c.index-begun-number.result c.in_ok-host.host c.loop-number.invariant c.loop-number-test.true c.index-begun-number.is c.requires.apart
    (record { is = made.part; port = made.port; nets = made.nets; commands = made.commands; backs = made.backs }) (memory_grows_fewer _ finished_nets 1 1 _ _ (omega (arith, few)) (omega arith) c.finish_begun.ensures.grows) c.finish_begun.ensures.waits made.no_more_wait
    c.finish_begun.ensures.still_wait_for_write made.no_more_wait_for_write)

pub returns-in_err-host-clause-waits : goal.returns-in_err-host-clause-waits
returns-in_err-host-clause-waits c = wait_on _ _ _ c.args.begun.now c.loop-number.number c.index-begun-number.result c.loop-number-test.true c.index-begun-number.is c.loop-number.invariant.waits c.finish_begun.ensures.waits

pub returns-then-is_err-clause-waits : goal.returns-then-is_err-clause-waits
returns-then-is_err-clause-waits c = wait_on _ _ _ c.args.begun.now c.loop-number.number c.index-begun-number.result c.loop-number-test.true c.index-begun-number.is c.loop-number.invariant.waits c.finish_begun.ensures.waits

pub returns-in_err-host-clause-still_wait_for_write : goal.returns-in_err-host-clause-still_wait_for_write
returns-in_err-host-clause-still_wait_for_write c m w = c.finish_begun.ensures.still_wait_for_write m (c.loop-number.invariant.waits_for_write m w)

pub returns-then-is_err-clause-still_wait_for_write : goal.returns-then-is_err-clause-still_wait_for_write
returns-then-is_err-clause-still_wait_for_write c m w = c.finish_begun.ensures.still_wait_for_write m (c.loop-number.invariant.waits_for_write m w)
