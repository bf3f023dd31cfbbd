use Rattle.std.proofs.Common.{inl, inr, arith}
use Rattle.stage_core.specs.Lasting.{beat_lasts}
use Rattle.net_parts.specs.Laws.{net_lasts, extends_twice, owned_same, waiting_within}
use Rattle.net_parts.specs.Memories.{forward_grown, forward_fewer, backward_grown, both_grown, memories_come, memories_settle, memory_within}
use Rattle.stage_core.proofs.stream.emit_stream.Goals as goal

pub returns-clause-stands : goal.returns-clause-stands
returns-clause-stands g c = record {
  kept = c.in_ok-beat.kept;
  first = g.met.S.Stage.forward_lasts _ _ _ _ _ _ c.in_ok-beat.ensures.made (backward_grown _ _ _ _ c.emit_backward.ensures.grows).extends;
  second = c.in_ok-ready.ensures.made;
}

pub returns-clause-keeps : goal.returns-clause-keeps
returns-clause-keeps g c shape has longer e run endless =
    c.law.ensures.keeps shape c.args.from c.in_ok-beat.beat c.in_ok-beat.kept c.args.ready c.in_ok-ready.ready longer has
    (g.met.S.Stage.forward_lasts _ _ _ _ _ _ c.in_ok-beat.ensures.made (extends_twice _ _ _ (backward_grown _ _ _ _ c.emit_backward.ensures.grows).extends e))
    (g.met.S.Stage.backward_lasts _ _ _ _ _ _ c.in_ok-ready.ensures.made e) run endless

pub returns-clause-passes : goal.returns-clause-passes
returns-clause-passes g c shape has longer e run endless =
    c.law.ensures.ready shape c.args.from c.in_ok-beat.beat c.in_ok-beat.kept c.args.ready c.in_ok-ready.ready longer has
    (g.met.S.Stage.forward_lasts _ _ _ _ _ _ c.in_ok-beat.ensures.made (extends_twice _ _ _ (backward_grown _ _ _ _ c.emit_backward.ensures.grows).extends e))
    (g.met.S.Stage.backward_lasts _ _ _ _ _ _ c.in_ok-ready.ensures.made e) run endless

pub returns-clause-ignores_ready : goal.returns-clause-ignores_ready
returns-clause-ignores_ready g c longer e one other v w state same =
    let more = extends_twice _ _ _ (backward_grown _ _ _ _ c.emit_backward.ensures.grows).extends e in
    c.law.ensures.ignores_ready c.args.from c.in_ok-beat.beat c.in_ok-beat.kept longer
    (g.met.S.Stage.forward_lasts _ _ _ _ _ _ c.in_ok-beat.ensures.made more) one other v w
    (λ n o. owned_same c.emit_forward.new.builder longer n one other c.well_made.ensures more (c.in_ok-beat.ensures.own_wait n o) state) (λ m memory o at. state.words m memory at) same

pub returns-clause-beat : goal.returns-clause-beat
returns-clause-beat g c = beat_lasts _ _ _ (backward_grown _ _ _ _ c.emit_backward.ensures.grows).extends c.in_ok-beat.ensures.beat

pub returns-in_err-ready-clause-waits : goal.returns-in_err-ready-clause-waits
returns-in_err-ready-clause-waits g c n w =
    c.emit_backward.ensures.waits n (λ o. (let at = c.in_ok-beat.ensures.owned n o in let below = waiting_within c.args.builder.now n w in absurd (omega arith))) (c.emit_forward.ensures.waits n w)

pub returns-clause-waits : goal.returns-clause-waits
returns-clause-waits g c n w =
    c.emit_backward.ensures.waits n (λ o. (let at = c.in_ok-beat.ensures.owned n o in let below = waiting_within c.args.builder.now n w in absurd (omega arith))) (c.emit_forward.ensures.waits n w)

pub emit_backward-requires-clause-ready : goal.emit_backward-requires-clause-ready
emit_backward-requires-clause-ready g c = net_lasts _ _ _ _ (forward_grown _ _ _ _ c.emit_forward.ensures.grows).extends c.requires.ready

pub returns-in_err-beat-clause-grows : goal.returns-in_err-beat-clause-grows
returns-in_err-beat-clause-grows g c = forward_fewer _ _ _ _ _ _ (omega arith) (omega arith) c.emit_forward.ensures.grows

pub returns-in_err-ready-clause-grows : goal.returns-in_err-ready-clause-grows
returns-in_err-ready-clause-grows g c = both_grown _ _ _ _ _ _ c.emit_forward.ensures.grows c.emit_backward.ensures.grows

pub returns-clause-grows : goal.returns-clause-grows
returns-clause-grows g c = both_grown _ _ _ _ _ _ c.emit_forward.ensures.grows c.emit_backward.ensures.grows

pub returns-clause-no_more_wait : goal.returns-clause-no_more_wait
returns-clause-no_more_wait g c n w =
    let set = c.in_ok-ready.ensures.no_more_wait n w in
    elim (c.in_ok-beat.ensures.newly n set.0) [ inl before ↦ before | inr own ↦ absurd (set.1 own) ]

pub returns-clause-still_wait_for_write : goal.returns-clause-still_wait_for_write
returns-clause-still_wait_for_write g c m w =
    let come = memories_come _ _ _ _ _ c.emit_forward.ensures.grows c.in_ok-beat.ensures.written in
    let settle = memories_settle _ _ _ _ _ c.emit_backward.ensures.grows c.in_ok-ready.ensures.written in
    settle.others m (λ o. (let at = come.between m o in let below = memory_within c.args.builder.now m w in absurd (omega arith))) (come.still m w)

pub returns-clause-no_more_write : goal.returns-clause-no_more_write
returns-clause-no_more_write g c m w =
    let come = memories_come _ _ _ _ _ c.emit_forward.ensures.grows c.in_ok-beat.ensures.written in
    let settle = memories_settle _ _ _ _ _ c.emit_backward.ensures.grows c.in_ok-ready.ensures.written in
    let set = settle.settled m w in
    elim (come.newly m set.0) [ inl before ↦ before | inr own ↦ absurd (set.1 own) ]
