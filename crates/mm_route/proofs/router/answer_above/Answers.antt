use Rattle.std.proofs.Common.{ap, ◌∙◌, arith}
use Rattle.netlist.specs.Runs.{Always}
use Rattle.net_parts.specs.Laws.{if_ok, extends_twice, adds_fewer, adds_twice, net_lasts}
use Rattle.net_parts.specs.Refusing.{handed_on}
use Rattle.mm_route.specs.Forward.{router_keeps_last}
use Rattle.mm_route.specs.Backward.{AnswersAbove, picked, answers_in, backs_last}
use Rattle.mm_route.proofs.Levels.{three_are}
use Rattle.mm_route.proofs.router.answer_above.Goals as goal

pub owed_answer-requires-clause-backs : goal.owed_answer-requires-clause-backs
owed_answer-requires-clause-backs c = backs_last _ _ _ _ (extends_twice _ _ _ c.default_word.ensures.adds.grows.extends c.default_code.ensures.adds.grows.extends) c.requires.backs

pub owed_answer-requires-clause-held : goal.owed_answer-requires-clause-held
owed_answer-requires-clause-held c =
    router_keeps_last _ _ _ _ _ c.requires.held (extends_twice _ _ _ c.default_word.ensures.adds.grows.extends c.default_code.ensures.adds.grows.extends) (λ n o w. c.default_code.ensures.adds.grows.waits n (c.default_word.ensures.adds.grows.waits n w))

pub returns-clause-value : goal.returns-clause-value
returns-clause-value c =
    if_ok c.owed_answer.result _ (λ answer. Always c.owed_answer.new.builder (λ cycle. AnswersAbove cycle c.args.held.now c.args.backs.now answer))
    (λ answer value cycle v3. (
    let v2 = c.owed_answer.ensures.adds.grows.extends.valuations cycle v3 in
    let v1 = c.in_ok-code.ensures.adds.grows.extends.valuations cycle v2 in
    let v0 = c.in_ok-word.ensures.adds.grows.extends.valuations cycle v1 in
    value cycle v3 ∙ ap (picked 0 (cycle.net c.args.held.now.registers.owing.number) (answers_in cycle c.args.backs.now))
    (three_are _ _ _ _ (c.requires.held.owes_is cycle v0) (c.in_ok-word.ensures.value cycle v1) (c.in_ok-code.ensures.value cycle v2))))
    c.owed_answer.ensures.value

pub returns-in_err-word-clause-adds : goal.returns-in_err-word-clause-adds
returns-in_err-word-clause-adds c = adds_fewer _ _ _ _ (omega arith) c.default_word.ensures.adds

pub returns-in_err-word-clause-full : goal.returns-in_err-word-clause-full
returns-in_err-word-clause-full c e = let full = c.default_word.ensures.full (handed_on _ _ _ _ c.in_err-word.was c.from_residual.ensures.1 e) in omega (arith, full)

pub returns-in_err-code-clause-adds : goal.returns-in_err-code-clause-adds
returns-in_err-code-clause-adds c = adds_fewer _ _ _ _ (omega arith) (adds_twice _ _ _ _ _ c.default_word.ensures.adds c.default_code.ensures.adds)

pub returns-in_err-code-clause-full : goal.returns-in_err-code-clause-full
returns-in_err-code-clause-full c e = let most = c.default_word.ensures.adds.most in let full = c.default_code.ensures.full (handed_on _ _ _ _ c.in_err-code.was c.from_residual-in_err-code.ensures.1 e) in omega (arith, most, full)

pub returns-clause-adds : goal.returns-clause-adds
returns-clause-adds c = adds_fewer _ _ _ _ (omega arith) (adds_twice _ _ _ _ _ (adds_twice _ _ _ _ _ c.default_word.ensures.adds c.default_code.ensures.adds) c.owed_answer.ensures.adds)

pub returns-clause-full : goal.returns-clause-full
returns-clause-full c e = let most = c.default_word.ensures.adds.most in let most2 = c.default_code.ensures.adds.most in let full = c.owed_answer.ensures.full e in omega (arith, most, most2, full)

pub owed_answer-requires-clause-none : goal.owed_answer-requires-clause-none
owed_answer-requires-clause-none c = record { valid = net_lasts _ _ _ 1 (extends_twice _ _ _ c.default_word.ensures.adds.grows.extends c.default_code.ensures.adds.grows.extends) c.requires.held.owes; word = net_lasts _ _ _ _ c.default_code.ensures.adds.grows.extends c.in_ok-word.ensures.net; code = c.in_ok-code.ensures.net }

pub returns-clause-nets : goal.returns-clause-nets
returns-clause-nets c = c.owed_answer.ensures.nets
