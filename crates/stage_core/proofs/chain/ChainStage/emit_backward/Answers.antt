use Rattle.std.proofs.Common.{◌⊎◌, inl, inr, arith}
use Rattle.net_parts.specs.Growth.{WaitsWithout}
use Rattle.net_parts.specs.Laws.{on_ok}
use Rattle.net_parts.specs.Memories.{BackwardMemories, backward_grown, backward_fewer, backward_twice, backward_memories, memories_settle}
use Rattle.stage_core.proofs.chain.ChainStage.emit_backward.Goals as goal

pub returns-clause-no_more_wait : goal.returns-clause-no_more_wait
returns-clause-no_more_wait g c =
    on_ok c.emit_backward-2.result (WaitsWithout (g.A.Stage.owns c.args.kept.0) c.emit_backward.new.builder c.emit_backward-2.new.builder)
    (WaitsWithout (λ n. g.A.Stage.owns c.args.kept.0 n ⊎ g.B.Stage.owns c.args.kept.1 n) c.args.builder.now c.emit_backward-2.new.builder)
    (λ first n w. (
    let one = first n w in
    let two = c.in_ok-middle.ensures.no_more_wait n one.0 in
    (two.0, λ o. elim o [ inl p ↦ one.1 p | inr p ↦ two.1 p ])))
    c.emit_backward-2.ensures.no_more_wait

pub returns-clause-written : goal.returns-clause-written
returns-clause-written g c =
    on_ok c.emit_backward-2.result (BackwardMemories (g.A.Stage.memories c.args.self.now.first) (g.A.Stage.owns_memories c.args.kept.0) c.emit_backward.new.builder c.emit_backward-2.new.builder) _
    (backward_memories (g.A.Stage.memories c.args.self.now.first) (g.B.Stage.memories c.args.self.now.second) _ _ (g.A.Stage.owns_memories c.args.kept.0) (g.B.Stage.owns_memories c.args.kept.1) _ _ _
    c.emit_backward.ensures.grows c.in_ok-middle.ensures.written c.emit_backward-2.ensures.grows)
    c.emit_backward-2.ensures.written

pub emit_backward-requires-2-clause-kept : goal.emit_backward-requires-2-clause-kept
emit_backward-requires-2-clause-kept g c =
    let grown = backward_grown _ _ _ _ c.emit_backward.ensures.grows in
    let settled = memories_settle _ _ _ _ _ c.emit_backward.ensures.grows c.in_ok-middle.ensures.written in
    g.met.A.Stage.kept_lasts _ _ _ _ c.requires.kept.first grown.extends (λ n o. c.emit_backward.ensures.waits n (c.requires.kept.apart n o)) (λ m o. settled.others m (c.requires.kept.memories_apart m o))

pub returns-in_err-middle-clause-grows : goal.returns-in_err-middle-clause-grows
returns-in_err-middle-clause-grows g c = backward_fewer _ _ _ _ _ _ (omega arith) (omega arith) c.emit_backward.ensures.grows

pub returns-in_err-middle-clause-waits : goal.returns-in_err-middle-clause-waits
returns-in_err-middle-clause-waits g c n apart w = c.emit_backward.ensures.waits n (λ o. apart (inr o)) w

pub returns-clause-grows : goal.returns-clause-grows
returns-clause-grows g c =
    backward_fewer _ _ _ _ _ _ (omega arith) (omega arith) (backward_twice (g.A.Stage.memories c.args.self.now.first) (g.B.Stage.memories c.args.self.now.second) _ _ _ _ _ c.emit_backward.ensures.grows c.emit_backward-2.ensures.grows)

pub returns-clause-waits : goal.returns-clause-waits
returns-clause-waits g c n apart w = c.emit_backward-2.ensures.waits n (λ o. apart (inl o)) (c.emit_backward.ensures.waits n (λ o. apart (inr o)) w)
