use Rattle.std.proofs.Common.{◌+◌, ◌^◌, ◌<◌, length, sym, subst}
use Rattle.std.specs.Prelude.{Some, IsSomeAnd, unwrap_or, option_map, IfSome}
use Rattle.net_parts.specs.Growth.{WaitsWithout}
use Rattle.net_parts.specs.Memories.{BackwardGrows, BackwardMemories}
use Rattle.net_parts.specs.Laws.{if_ok, on_ok, grows_none}
use Rattle.netlist.specs.Nets.{NetValue}
use Rattle.command_nets.specs.declared.nets.AnswerNets.{AnswerNets}
use Rattle.link_core.specs.MaybeNets.{kept_of, answer_of}
use Rattle.link_core.proofs.maybe.MaybeLink.emit_answer.Goals as goal

pub emit_answer-requires-clause-kept : goal.emit_answer-requires-clause-kept
emit_answer-requires-clause-kept g c =
    subst (λ kept. kept_of g.L.Link.is_kept (Some c.in-Some.link) kept c.args.builder.now) c.unwrap.ensures
    (subst (λ link. kept_of g.L.Link.is_kept link c.args.kept c.args.builder.now) c.in-Some.is c.requires.kept)

pub returns-in-Some-clause-made : goal.returns-in-Some-clause-made
returns-in-Some-clause-made g c =
    if_ok c.emit_answer.result _ (λ (p : NetValue × AnswerNets). answer_of g.L.Link.answer_in c.args.self.now.link c.args.kept c.args.wait c.args.answer p.0 p.1 c.emit_answer.new.builder)
    (λ p made. subst (λ link. answer_of g.L.Link.answer_in link c.args.kept c.args.wait c.args.answer p.0 p.1 c.emit_answer.new.builder) (sym c.in-Some.is)
    (subst (λ kept. answer_of g.L.Link.answer_in (Some c.in-Some.link) kept c.args.wait c.args.answer p.0 p.1 c.emit_answer.new.builder) (sym c.unwrap.ensures) made))
    c.emit_answer.ensures.made

pub returns-in-Some-clause-grows : goal.returns-in-Some-clause-grows
returns-in-Some-clause-grows g c = subst (λ link. BackwardGrows (unwrap_or (option_map g.L.Link.memories link) 0) (unwrap_or (option_map g.L.Link.answer_nets link) 0) c.args.builder.now c.emit_answer.new.builder) (sym c.in-Some.is) c.emit_answer.ensures.grows

pub returns-in-Some-clause-waits : goal.returns-in-Some-clause-waits
returns-in-Some-clause-waits g c n apart w = c.emit_answer.ensures.waits n (λ o. apart (subst (λ kept. IsSomeAnd kept (λ held. g.L.Link.owns held n)) (sym c.unwrap.ensures) o)) w

pub returns-in-Some-clause-no_more_wait : goal.returns-in-Some-clause-no_more_wait
returns-in-Some-clause-no_more_wait g c =
    on_ok c.emit_answer.result _ (WaitsWithout (λ n. IsSomeAnd c.args.kept (λ held. g.L.Link.owns held n)) c.args.builder.now c.emit_answer.new.builder)
    (λ out n w. (let set = out n w in (set.0, λ o. set.1 (subst (λ kept. IsSomeAnd kept (λ held. g.L.Link.owns held n)) c.unwrap.ensures o))))
    c.emit_answer.ensures.no_more_wait

pub returns-in-Some-clause-full : goal.returns-in-Some-clause-full
returns-in-Some-clause-full g c e = subst (λ link. 2 ^ 20 < length c.args.builder.now.lines + unwrap_or (option_map g.L.Link.answer_nets link) 0) (sym c.in-Some.is) (c.emit_answer.ensures.full e)

pub emit_answer-requires-clause-wait : goal.emit_answer-requires-clause-wait
emit_answer-requires-clause-wait g c = c.requires.wait

pub emit_answer-requires-clause-answer : goal.emit_answer-requires-clause-answer
emit_answer-requires-clause-answer g c = c.requires.answer

pub emit_answer-requires-clause-words : goal.emit_answer-requires-clause-words
emit_answer-requires-clause-words g c = subst (λ link. IfSome link (λ part. g.L.Link.takes_words part c.args.answer.word.width)) c.in-Some.is c.requires.words

pub returns-in-Some-clause-wait : goal.returns-in-Some-clause-wait
returns-in-Some-clause-wait g c = c.emit_answer.ensures.wait

pub returns-in-None-clause-grows : goal.returns-in-None-clause-grows
returns-in-None-clause-grows g c = subst (λ link. BackwardGrows (unwrap_or (option_map g.L.Link.memories link) 0) (unwrap_or (option_map g.L.Link.answer_nets link) 0) c.args.builder.now c.args.builder.now) (sym c.in-None.is) (grows_none _)

pub returns-in-None-clause-waits : goal.returns-in-None-clause-waits
returns-in-None-clause-waits g c n apart w = w

pub returns-in-None-clause-full : goal.returns-in-None-clause-full
returns-in-None-clause-full g c e = cc

pub returns-in-Some-clause-written : goal.returns-in-Some-clause-written
returns-in-Some-clause-written g c =
    on_ok c.emit_answer.result _ (BackwardMemories (unwrap_or (option_map g.L.Link.memories c.args.self.now.link) 0) (λ m. IsSomeAnd c.args.kept (λ held. g.L.Link.owns_memories held m)) c.args.builder.now c.emit_answer.new.builder)
    (λ out. subst (λ link. BackwardMemories (unwrap_or (option_map g.L.Link.memories link) 0) (λ m. IsSomeAnd c.args.kept (λ held. g.L.Link.owns_memories held m)) c.args.builder.now c.emit_answer.new.builder) (sym c.in-Some.is)
    (subst (λ kept. BackwardMemories (g.L.Link.memories c.in-Some.link) (λ m. IsSomeAnd kept (λ held. g.L.Link.owns_memories held m)) c.args.builder.now c.emit_answer.new.builder) (sym c.unwrap.ensures) out))
    c.emit_answer.ensures.written
