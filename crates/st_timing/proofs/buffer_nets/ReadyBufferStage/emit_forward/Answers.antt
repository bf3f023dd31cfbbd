use Rattle.std.proofs.Common.{◌+◌, refl, sym, subst, ap, length, inl, inr, arith}
use Rattle.netlist.specs.Netlists.{IsWaiting}
use Rattle.netlist.specs.declared.line.Memory.{Memory}
use Rattle.net_parts.specs.Laws.{grows_without_memory, memory_grows_twice}
use Rattle.stage_core.specs.Lasting.{beat_lasts}
use Rattle.net_parts.specs.Memories.{waits_where_same, memory_grows_fewer}
use Rattle.stage_core.specs.Refusing.{handed_on}
use Rattle.stage_core.specs.StoredNets.{StoredKeeps, StoredForward, stored_keeps_lasts, stored_forward_lasts}
use Rattle.st_timing.proofs.buffer_nets.ReadyBufferStage.emit_forward.Goals as goal

pub returns-in_err-to-clause-grows : goal.returns-in_err-to-clause-grows
returns-in_err-to-clause-grows c = memory_grows_fewer _ _ _ _ _ _ (omega arith) (omega arith) c.emit_forward.ensures.grows

pub returns-in_err-promises-clause-grows : goal.returns-in_err-promises-clause-grows
returns-in_err-promises-clause-grows c = memory_grows_twice _ _ _ _ _ _ _ c.emit_forward.ensures.grows (grows_without_memory _ _ _ c.hold_promises.ensures.grows)

pub returns-clause-grows : goal.returns-clause-grows
returns-clause-grows c = memory_grows_twice _ _ _ _ _ _ _ c.emit_forward.ensures.grows (grows_without_memory _ _ _ c.hold_promises.ensures.grows)

pub returns-clause-beat : goal.returns-clause-beat
returns-clause-beat c = beat_lasts _ _ _ c.hold_promises.ensures.grows.extends c.in_ok-to.ensures.beat

pub returns-clause-kept : goal.returns-clause-kept
returns-clause-kept c = record {
  latency_is = refl;
  stored = stored_keeps_lasts c.in_ok-to.stored (c.args.self.now.latency + 1) _ _
      (subst (λ depth. StoredKeeps c.in_ok-to.stored depth c.emit_forward.new.builder) c.new-queue.ensures c.in_ok-to.ensures.kept) c.hold_promises.ensures.grows.extends
      (λ n o w. c.hold_promises.ensures.still_wait n w) (λ m o w. waits_where_same _ _ c.hold_promises.ensures.grows.memories m w);
  promises = c.in_ok-promises.ensures.promises;
  apart = λ n o p. (let queue = c.in_ok-to.ensures.owned n o in let own = c.in_ok-promises.ensures.owned n p in absurd (omega (arith, queue.1, own.0)));
}

pub returns-clause-owned : goal.returns-clause-owned
returns-clause-owned c n o =
    let before = c.emit_forward.ensures.grows.extends.count in
    let after = c.hold_promises.ensures.grows.extends.count in
    elim o [
      | inl q ↦ (let at = c.in_ok-to.ensures.owned n q in (at.0, omega (arith, at.1, after)))
      | inr p ↦ (let at = c.in_ok-promises.ensures.owned n p in (omega (arith, at.0, before), at.1))
    ]

pub returns-clause-made : goal.returns-clause-made
returns-clause-made c = record {
  latency_is = refl;
  stored = stored_forward_lasts c.args.from c.in_ok-to.to c.in_ok-to.stored (c.args.self.now.latency + 1) _ _
      (subst (λ depth. StoredForward c.args.from c.in_ok-to.to c.in_ok-to.stored depth c.emit_forward.new.builder) c.new-queue.ensures c.in_ok-to.ensures.made) c.hold_promises.ensures.grows.extends;
  starts = c.in_ok-promises.ensures.starts;
  wide = c.in_ok-promises.ensures.promises.wide;
  cycles = c.in_ok-promises.ensures.promises.history.net.has_width;
}

pub returns-clause-own_wait : goal.returns-clause-own_wait
returns-clause-own_wait c n o =
    elim o [
      | inl q ↦ c.hold_promises.ensures.still_wait n (c.in_ok-to.ensures.own_wait n q)
      | inr p ↦ elim p [
        | inl e ↦ subst (IsWaiting c.hold_promises.new.builder) (sym e) c.in_ok-promises.ensures.promises.waits
        | inr e ↦ subst (IsWaiting c.hold_promises.new.builder) (sym e) c.in_ok-promises.ensures.promises.history.waits
      ]
    ]

pub returns-clause-newly : goal.returns-clause-newly
returns-clause-newly c n w =
    elim (c.in_ok-promises.ensures.newly n w) [
      | inl before ↦ elim (c.in_ok-to.ensures.newly n before) [ inl old ↦ inl old | inr q ↦ inr (inl q) ]
      | inr p ↦ inr (inr p)
    ]

pub returns-clause-waits : goal.returns-clause-waits
returns-clause-waits c n w = c.hold_promises.ensures.still_wait n (c.emit_forward.ensures.waits n w)

pub returns-clause-written : goal.returns-clause-written
returns-clause-written c =
    let come = c.in_ok-to.ensures.written in
    let same = c.hold_promises.ensures.grows.memories in
    let count = ap (length {A = Memory}) same in
    record {
      between = λ m o. (let at = come.between m o in (at.0, omega (arith, at.1, count)));
      own = λ m o. waits_where_same _ _ same m (come.own m o);
      still = λ m w. waits_where_same _ _ same m (come.still m w);
      newly = λ m w. come.newly m (waits_where_same _ _ (sym same) m w);
    }

pub returns-in_err-to-clause-full : goal.returns-in_err-to-clause-full
returns-in_err-to-clause-full c room e = let full = c.emit_forward.ensures.full room (handed_on _ _ _ _ c.in_err-to.was c.from_residual.ensures.1 e) in omega (arith, full)

pub returns-in_err-promises-clause-full : goal.returns-in_err-promises-clause-full
returns-in_err-promises-clause-full c room e =
    let most = c.emit_forward.ensures.grows.most in
    let full = c.hold_promises.ensures.full (handed_on _ _ _ _ c.in_err-promises.was c.from_residual-in_err-promises.ensures.1 e) in
    omega (arith, most, full)
