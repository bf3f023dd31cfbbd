use Rattle.std.proofs.Common.{◌≡◌, ℕ, ◌==◌, List, if◌then◌else◌, sym, ap, ◌∙◌, arith, length, subst}
use Rattle.std.specs.Int.{bit_at}
use Rattle.netlist.specs.Runs.{Always}
use Rattle.net_parts.specs.Laws.{if_ok, adds_fewer, adds_twice, grows_once, adds_none, extends_twice}
use Rattle.net_parts.specs.Groups.{values_of}
use Rattle.net_parts.specs.Refusing.{handed_on}
use Rattle.command_nets.specs.Groups.{answer_lasts}
use Rattle.mm_route.specs.declared.back.BackNets.{BackNets}
use Rattle.mm_route.specs.Backward.{picked, answers_in, answer_group, AreBackNets}
use Rattle.mm_route.proofs.Levels.{bit_is}
use Rattle.mm_route.proofs.back.+pick_answer.Goals as goal

pub returns-in_ok-here-in-Some-clause-value : goal.returns-in_ok-here-in-Some-clause-value
returns-in_ok-here-in-Some-clause-value t c =
    let is = c.in-Some.ensures.cases.0 in
    let bits = c.args.bits in
    if_ok c.choose_answer.result _ (λ made. Always c.choose_answer.new.builder (λ cycle. values_of cycle (answer_group made) ≡ picked c.args.k (cycle.net bits.number) (answers_in cycle c.args.backs.now) (values_of cycle (answer_group c.args.none.now))))
    (λ made value cycle v3. (
    let v2 = c.choose_answer.ensures.adds.grows.extends.valuations cycle v3 in
    let v1 = c.slice.ensures.extends.valuations cycle v2 in
    let one = values_of cycle (answer_group c.in-Some.first.now.answer) in
    value cycle v3
    ∙ ap (λ n. if n == 0 then values_of cycle (answer_group c.in_ok-other-in-Some.other) else one) (bit_is (cycle.net bits.number) c.args.k _ (c.in_ok-here-in-Some.ensures.value cycle v2).1)
    ∙ ap (λ (n : List ℕ). if bit_at (cycle.net bits.number) c.args.k == 0 then n else one) (c.in_ok-other-in-Some.ensures.value cycle v1)
    ∙ ap (λ (backs : List BackNets). picked c.args.k (cycle.net bits.number) (answers_in cycle backs) (values_of cycle (answer_group c.args.none.now))) (sym is)))
    c.choose_answer.ensures.value

pub returns-in_err-other-in-Some-clause-adds : goal.returns-in_err-other-in-Some-clause-adds
returns-in_err-other-in-Some-clause-adds t c = let count = ap (length {A = BackNets}) c.in-Some.ensures.cases.0 in adds_fewer _ _ _ _ (omega (arith, count)) c.pick_answer.ensures.adds

pub returns-in_err-other-in-Some-clause-full : goal.returns-in_err-other-in-Some-clause-full
returns-in_err-other-in-Some-clause-full t c e = let count = ap (length {A = BackNets}) c.in-Some.ensures.cases.0 in let full = c.pick_answer.ensures.full (handed_on _ _ _ _ c.in_err-other-in-Some.was c.from_residual.ensures.1 e) in omega (arith, count, full)

pub returns-in_err-here-in-Some-clause-adds : goal.returns-in_err-here-in-Some-clause-adds
returns-in_err-here-in-Some-clause-adds t c = let count = ap (length {A = BackNets}) c.in-Some.ensures.cases.0 in adds_fewer _ _ _ _ (omega (arith, count)) (adds_twice _ _ _ _ _ c.pick_answer.ensures.adds (grows_once _ _ c.slice.ensures.extends c.slice.ensures.grows))

pub returns-in_err-here-in-Some-clause-full : goal.returns-in_err-here-in-Some-clause-full
returns-in_err-here-in-Some-clause-full t c e = let count = ap (length {A = BackNets}) c.in-Some.ensures.cases.0 in let most = c.pick_answer.ensures.adds.most in let full = c.slice.ensures.full.0 (handed_on _ _ _ _ c.in_err-here-in-Some.was c.from_residual-in_err-here-in-Some.ensures.1 e) in omega (arith, count, most, full)

pub returns-in_ok-here-in-Some-clause-adds : goal.returns-in_ok-here-in-Some-clause-adds
returns-in_ok-here-in-Some-clause-adds t c = let count = ap (length {A = BackNets}) c.in-Some.ensures.cases.0 in adds_fewer _ _ _ _ (omega (arith, count)) (adds_twice _ _ _ _ _ (adds_twice _ _ _ _ _ c.pick_answer.ensures.adds (grows_once _ _ c.slice.ensures.extends c.slice.ensures.grows)) c.choose_answer.ensures.adds)

pub returns-in_ok-here-in-Some-clause-full : goal.returns-in_ok-here-in-Some-clause-full
returns-in_ok-here-in-Some-clause-full t c e = let count = ap (length {A = BackNets}) c.in-Some.ensures.cases.0 in let most = c.pick_answer.ensures.adds.most in let most2 = c.slice.ensures.grows.most in let full = c.choose_answer.ensures.full e in omega (arith, count, most, most2, full)

pub returns-in-None-clause-adds : goal.returns-in-None-clause-adds
returns-in-None-clause-adds t c = adds_fewer _ _ _ _ (omega arith) (adds_none _)

pub returns-in-None-clause-full : goal.returns-in-None-clause-full
returns-in-None-clause-full t c e = cc

pub pick_answer-requires : goal.pick_answer-requires
pick_answer-requires t c =
    let is = c.in-Some.ensures.cases.0 in
    let fewer = ap (length {A = BackNets}) is in
    let d = c.decreases in
    let few = c.requires.few in
    (omega (arith, d, fewer), (c.requires.bits, (omega (arith, few, fewer), ((subst (AreBackNets c.args.builder.now c.args.word_bits) is c.requires.backs).1, c.requires.none))))

pub returns-in-None-clause-nets : goal.returns-in-None-clause-nets
returns-in-None-clause-nets t c = c.requires.none

pub slice-requires-clause-a_is : goal.slice-requires-clause-a_is
slice-requires-clause-a_is t c = c.pick_answer.ensures.adds.grows.extends.nets _ _ c.requires.bits.is_net

pub slice-requires-clause-inside : goal.slice-requires-clause-inside
slice-requires-clause-inside t c = let count = ap (length {A = BackNets}) c.in-Some.ensures.cases.0 in let few = c.requires.few in let width = c.requires.bits.has_width in omega (arith, count, few, width)

pub choose_answer-requires-clause-bit : goal.choose_answer-requires-clause-bit
choose_answer-requires-clause-bit t c = record { is_net = c.in_ok-here-in-Some.ensures.net.0; has_width = c.in_ok-here-in-Some.ensures.net.1 ∙ omega arith }

pub choose_answer-requires-clause-one : goal.choose_answer-requires-clause-one
choose_answer-requires-clause-one t c = answer_lasts _ _ _ _ (extends_twice _ _ _ c.pick_answer.ensures.adds.grows.extends c.slice.ensures.extends) (subst (AreBackNets c.args.builder.now c.args.word_bits) c.in-Some.ensures.cases.0 c.requires.backs).0.1

pub choose_answer-requires-clause-other : goal.choose_answer-requires-clause-other
choose_answer-requires-clause-other t c = answer_lasts _ _ _ _ c.slice.ensures.extends c.in_ok-other-in-Some.ensures.nets

pub returns-in_ok-here-in-Some-clause-nets : goal.returns-in_ok-here-in-Some-clause-nets
returns-in_ok-here-in-Some-clause-nets t c = c.choose_answer.ensures.nets
