use Rattle.std.proofs.Common.{◌+◌, ◌^◌, ◌<◌, length, sym, subst}
use Rattle.std.specs.Prelude.{Some, IsSomeAnd, unwrap_or, option_map}
use Rattle.net_parts.specs.Growth.{WaitsWithout}
use Rattle.net_parts.specs.Laws.{if_ok, on_ok}
use Rattle.stage_core.specs.MaybeNets.{kept_of, backward_of}
use Rattle.net_parts.specs.Memories.{BackwardGrows, BackwardMemories}
use Rattle.stage_core.proofs.maybe.MaybeStage.emit_backward.Goals as goal

pub emit_backward-requires-clause-kept : goal.emit_backward-requires-clause-kept
emit_backward-requires-clause-kept g c =
    subst (λ kept. kept_of g.S.Stage.is_kept (Some c.in-Some.stage) kept c.args.builder.now) c.unwrap.ensures
    (subst (λ stage. kept_of g.S.Stage.is_kept stage c.args.kept c.args.builder.now) c.in-Some.is c.requires.kept)

pub returns-in-Some-clause-made : goal.returns-in-Some-clause-made
returns-in-Some-clause-made g c =
    if_ok c.emit_backward.result _ (λ up. backward_of g.S.Stage.backward_in c.args.self.now.stage c.args.kept c.args.ready up c.emit_backward.new.builder)
    (λ up made. subst (λ stage. backward_of g.S.Stage.backward_in stage c.args.kept c.args.ready up c.emit_backward.new.builder) (sym c.in-Some.is)
    (subst (λ kept. backward_of g.S.Stage.backward_in (Some c.in-Some.stage) kept c.args.ready up c.emit_backward.new.builder) (sym c.unwrap.ensures) made))
    c.emit_backward.ensures.made

pub returns-in-Some-clause-grows : goal.returns-in-Some-clause-grows
returns-in-Some-clause-grows g c = subst (λ stage. BackwardGrows (unwrap_or (option_map g.S.Stage.memories stage) 0) (unwrap_or (option_map g.S.Stage.backward_nets stage) 0) c.args.builder.now c.emit_backward.new.builder) (sym c.in-Some.is) c.emit_backward.ensures.grows

pub returns-in-Some-clause-waits : goal.returns-in-Some-clause-waits
returns-in-Some-clause-waits g c n apart w = c.emit_backward.ensures.waits n (λ o. apart (subst (λ kept. IsSomeAnd kept (λ held. g.S.Stage.owns held n)) (sym c.unwrap.ensures) o)) w

pub returns-in-Some-clause-no_more_wait : goal.returns-in-Some-clause-no_more_wait
returns-in-Some-clause-no_more_wait g c =
    on_ok c.emit_backward.result _ (WaitsWithout (λ n. IsSomeAnd c.args.kept (λ held. g.S.Stage.owns held n)) c.args.builder.now c.emit_backward.new.builder)
    (λ out n w. (let set = out n w in (set.0, λ o. set.1 (subst (λ kept. IsSomeAnd kept (λ held. g.S.Stage.owns held n)) c.unwrap.ensures o))))
    c.emit_backward.ensures.no_more_wait

pub returns-in-Some-clause-full : goal.returns-in-Some-clause-full
returns-in-Some-clause-full g c e = subst (λ stage. 2 ^ 20 < length c.args.builder.now.lines + unwrap_or (option_map g.S.Stage.backward_nets stage) 0) (sym c.in-Some.is) (c.emit_backward.ensures.full e)

pub returns-in-Some-clause-written : goal.returns-in-Some-clause-written
returns-in-Some-clause-written g c =
    on_ok c.emit_backward.result _ (BackwardMemories (unwrap_or (option_map g.S.Stage.memories c.args.self.now.stage) 0) (λ m. IsSomeAnd c.args.kept (λ held. g.S.Stage.owns_memories held m)) c.args.builder.now c.emit_backward.new.builder)
    (λ out. subst (λ stage. BackwardMemories (unwrap_or (option_map g.S.Stage.memories stage) 0) (λ m. IsSomeAnd c.args.kept (λ held. g.S.Stage.owns_memories held m)) c.args.builder.now c.emit_backward.new.builder) (sym c.in-Some.is)
    (subst (λ kept. BackwardMemories (g.S.Stage.memories c.in-Some.stage) (λ m. IsSomeAnd kept (λ held. g.S.Stage.owns_memories held m)) c.args.builder.now c.emit_backward.new.builder) (sym c.unwrap.ensures) out))
    c.emit_backward.ensures.written
