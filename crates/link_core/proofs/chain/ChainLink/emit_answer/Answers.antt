use Rattle.std.proofs.Common.{◌⊎◌, inl, inr, arith}
use Rattle.net_parts.specs.Growth.{WaitsWithout}
use Rattle.net_parts.specs.Laws.{on_ok, if_ok}
use Rattle.net_parts.specs.Memories.{BackwardMemories, backward_grown, backward_fewer, backward_twice, backward_memories, memories_settle}
use Rattle.netlist.specs.Nets.{NetValue}
use Rattle.command_nets.specs.declared.nets.AnswerNets.{AnswerNets}
use Rattle.link_core.specs.ChainNets.{HasMiddleAnswer}
use Rattle.net_parts.specs.Refusing.{handed_on}
use Rattle.link_core.proofs.chain.ChainLink.emit_answer.Goals as goal

pub returns-clause-no_more_wait : goal.returns-clause-no_more_wait
returns-clause-no_more_wait g c =
    on_ok c.emit_answer-2.result (WaitsWithout (g.A.Link.owns c.args.kept.0) c.emit_answer.new.builder c.emit_answer-2.new.builder)
    (WaitsWithout (λ n. g.A.Link.owns c.args.kept.0 n ⊎ g.B.Link.owns c.args.kept.1 n) c.args.builder.now c.emit_answer-2.new.builder)
    (λ first n w. (
    let one = first n w in
    let two = c.in_ok-middle.ensures.no_more_wait n one.0 in
    (two.0, λ o. elim o [ inl p ↦ one.1 p | inr p ↦ two.1 p ])))
    c.emit_answer-2.ensures.no_more_wait

pub returns-clause-written : goal.returns-clause-written
returns-clause-written g c =
    on_ok c.emit_answer-2.result (BackwardMemories (g.A.Link.memories c.args.self.now.first) (g.A.Link.owns_memories c.args.kept.0) c.emit_answer.new.builder c.emit_answer-2.new.builder) _
    (backward_memories (g.A.Link.memories c.args.self.now.first) (g.B.Link.memories c.args.self.now.second) _ _ (g.A.Link.owns_memories c.args.kept.0) (g.B.Link.owns_memories c.args.kept.1) _ _ _
    c.emit_answer.ensures.grows c.in_ok-middle.ensures.written c.emit_answer-2.ensures.grows)
    c.emit_answer-2.ensures.written

pub emit_answer-requires-2-clause-kept : goal.emit_answer-requires-2-clause-kept
emit_answer-requires-2-clause-kept g c =
    let grown = backward_grown _ _ _ _ c.emit_answer.ensures.grows in
    let settled = memories_settle _ _ _ _ _ c.emit_answer.ensures.grows c.in_ok-middle.ensures.written in
    g.met.A.Link.kept_lasts _ _ _ _ c.requires.kept.first grown.extends (λ n o. c.emit_answer.ensures.waits n (c.requires.kept.apart n o)) (λ m o. settled.others m (c.requires.kept.memories_apart m o))

pub returns-in_err-middle-clause-grows : goal.returns-in_err-middle-clause-grows
returns-in_err-middle-clause-grows g c = backward_fewer _ _ _ _ _ _ (omega arith) (omega arith) c.emit_answer.ensures.grows

pub returns-in_err-middle-clause-waits : goal.returns-in_err-middle-clause-waits
returns-in_err-middle-clause-waits g c n apart w = c.emit_answer.ensures.waits n (λ o. apart (inr o)) w

pub returns-clause-made : goal.returns-clause-made
returns-clause-made g c =
    if_ok c.emit_answer-2.result _
    (λ (p : NetValue × AnswerNets). HasMiddleAnswer (λ middle middle_answer. g.A.Link.answer_in c.args.self.now.first c.args.kept.0 middle middle_answer p.0 p.1 c.emit_answer-2.new.builder) (λ middle middle_answer. g.B.Link.answer_in c.args.self.now.second c.args.kept.1 c.args.wait c.args.answer middle middle_answer c.emit_answer-2.new.builder))
    (λ p first. record { wait = c.in_ok-middle.middle; answer = c.in_ok-middle.inner; first = first; second = g.met.B.Link.answer_lasts _ _ _ _ _ _ _ _ c.in_ok-middle.ensures.made (backward_grown _ _ _ _ c.emit_answer-2.ensures.grows).extends })
    c.emit_answer-2.ensures.made

pub returns-clause-grows : goal.returns-clause-grows
returns-clause-grows g c =
    backward_fewer _ _ _ _ _ _ (omega arith) (omega arith) (backward_twice (g.A.Link.memories c.args.self.now.first) (g.B.Link.memories c.args.self.now.second) _ _ _ _ _ c.emit_answer.ensures.grows c.emit_answer-2.ensures.grows)

pub returns-clause-waits : goal.returns-clause-waits
returns-clause-waits g c n apart w = c.emit_answer-2.ensures.waits n (λ o. apart (inl o)) (c.emit_answer.ensures.waits n (λ o. apart (inr o)) w)

pub emit_answer-requires-clause-kept : goal.emit_answer-requires-clause-kept
emit_answer-requires-clause-kept g c = c.requires.kept.second

pub emit_answer-requires-clause-wait : goal.emit_answer-requires-clause-wait
emit_answer-requires-clause-wait g c = c.requires.wait

pub emit_answer-requires-clause-answer : goal.emit_answer-requires-clause-answer
emit_answer-requires-clause-answer g c = c.requires.answer

pub emit_answer-requires-clause-words : goal.emit_answer-requires-clause-words
emit_answer-requires-clause-words g c = c.requires.words.0

pub emit_answer-requires-2-clause-wait : goal.emit_answer-requires-2-clause-wait
emit_answer-requires-2-clause-wait g c = c.in_ok-middle.ensures.wait

pub returns-in_err-middle-clause-full : goal.returns-in_err-middle-clause-full
returns-in_err-middle-clause-full g c e = let full = c.emit_answer.ensures.full (handed_on _ _ _ _ c.in_err-middle.was c.from_residual.ensures.1 e) in omega (arith, full)

pub returns-clause-full : goal.returns-clause-full
returns-clause-full g c e =
    let most = (backward_grown _ _ _ _ c.emit_answer.ensures.grows).most in
    let full = c.emit_answer-2.ensures.full e in
    omega (arith, most, full)

pub returns-clause-wait : goal.returns-clause-wait
returns-clause-wait g c = c.emit_answer-2.ensures.wait
