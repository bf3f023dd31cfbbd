use Rattle.std.proofs.Common.{sym, ◌∙◌, arith}
use Rattle.net_parts.specs.Laws.{extends_twice, adds_grow, grows_fewer, adds_twice, grows_twice, net_lasts}
use Rattle.net_parts.specs.Refusing.{handed_on}
use Rattle.command_nets.specs.Groups.{answer_lasts}
use Rattle.mm_route.specs.Forward.{router_keeps_last}
use Rattle.mm_route.specs.Backward.{backs_last}
use Rattle.mm_route.proofs.Machine.{nets_are_a_router}
use Rattle.mm_route.proofs.router.finish_router.Goals as goal

pub answer_above-requires-clause-held : goal.answer_above-requires-clause-held
answer_above-requires-clause-held c = router_keeps_last _ _ _ _ _ c.requires.held c.wait_above.ensures.adds.grows.extends (λ n o w. c.wait_above.ensures.adds.grows.waits n w)

pub answer_above-requires-clause-backs : goal.answer_above-requires-clause-backs
answer_above-requires-clause-backs c = backs_last _ _ _ _ c.wait_above.ensures.adds.grows.extends c.requires.backs

pub step_registers-requires-clause-held : goal.step_registers-requires-clause-held
step_registers-requires-clause-held c =
    router_keeps_last _ _ _ _ _ c.requires.held (extends_twice _ _ _ c.wait_above.ensures.adds.grows.extends c.answer_above.ensures.adds.grows.extends) (λ n o w. c.answer_above.ensures.adds.grows.waits n (c.wait_above.ensures.adds.grows.waits n w))

pub returns-clause-made : goal.returns-clause-made
returns-clause-made c =
    let e1 = c.step_registers.ensures.grows.extends in
    let e2 = extends_twice _ _ _ c.answer_above.ensures.adds.grows.extends e1 in
    record {
      waits = λ cycle v. c.in_ok-wait.ensures.value cycle (e2.valuations cycle v);
      answers = λ cycle v. c.in_ok-answer.ensures.value cycle (e1.valuations cycle v);
      steps = c.in_ok-step_registers.ensures.value;
    }

pub returns-clause-machine : goal.returns-clause-machine
returns-clause-machine c entries host command commands f =
    nets_are_a_router c.step_registers.new.builder entries host command commands c.args.held c.args.room_bits c.args.backs.now c.in_ok-wait.wait c.in_ok-answer.answer f (returns-clause-made c)
    (sym c.requires.held.shown.place.has_width ∙ f.nets.place.has_width)

pub returns-clause-no_more_wait : goal.returns-clause-no_more_wait
returns-clause-no_more_wait c n w =
    let h = c.in_ok-step_registers.ensures.no_more_wait n w in
    (c.wait_above.ensures.adds.grows.no_more_wait n (c.answer_above.ensures.adds.grows.no_more_wait n h.0), h.1)

pub returns-in_err-wait-clause-full : goal.returns-in_err-wait-clause-full
returns-in_err-wait-clause-full c e = let full = c.wait_above.ensures.full (handed_on _ _ _ _ c.in_err-wait.was c.from_residual.ensures.1 e) in omega (arith, full)

pub returns-in_err-answer-clause-full : goal.returns-in_err-answer-clause-full
returns-in_err-answer-clause-full c e = let most = c.wait_above.ensures.adds.most in let full = c.answer_above.ensures.full (handed_on _ _ _ _ c.in_err-answer.was c.from_residual-in_err-answer.ensures.1 e) in omega (arith, most, full)

pub returns-in_err-wait-clause-grows : goal.returns-in_err-wait-clause-grows
returns-in_err-wait-clause-grows c = grows_fewer _ _ _ _ (omega arith) (adds_grow _ _ _ c.wait_above.ensures.adds)

pub returns-in_err-answer-clause-grows : goal.returns-in_err-answer-clause-grows
returns-in_err-answer-clause-grows c = grows_fewer _ _ _ _ (omega arith) (adds_grow _ _ _ (adds_twice _ _ _ _ _ c.wait_above.ensures.adds c.answer_above.ensures.adds))

pub returns-in_err-step_registers-clause-grows : goal.returns-in_err-step_registers-clause-grows
returns-in_err-step_registers-clause-grows c = grows_fewer _ _ _ _ (omega arith) (grows_twice _ _ _ _ _ (adds_grow _ _ _ (adds_twice _ _ _ _ _ c.wait_above.ensures.adds c.answer_above.ensures.adds)) c.step_registers.ensures.grows)

pub returns-clause-grows : goal.returns-clause-grows
returns-clause-grows c = grows_fewer _ _ _ _ (omega arith) (grows_twice _ _ _ _ _ (adds_grow _ _ _ (adds_twice _ _ _ _ _ c.wait_above.ensures.adds c.answer_above.ensures.adds)) c.step_registers.ensures.grows)

pub returns-in_err-wait-clause-waits : goal.returns-in_err-wait-clause-waits
returns-in_err-wait-clause-waits c n apart w = c.wait_above.ensures.adds.grows.waits n w

pub returns-in_err-answer-clause-waits : goal.returns-in_err-answer-clause-waits
returns-in_err-answer-clause-waits c n apart w = c.answer_above.ensures.adds.grows.waits n (c.wait_above.ensures.adds.grows.waits n w)

pub returns-in_err-step_registers-clause-waits : goal.returns-in_err-step_registers-clause-waits
returns-in_err-step_registers-clause-waits c n apart w = c.step_registers.ensures.waits n apart (c.answer_above.ensures.adds.grows.waits n (c.wait_above.ensures.adds.grows.waits n w))

pub returns-clause-waits : goal.returns-clause-waits
returns-clause-waits c n apart w = c.step_registers.ensures.waits n apart (c.answer_above.ensures.adds.grows.waits n (c.wait_above.ensures.adds.grows.waits n w))

pub returns-in_err-step_registers-clause-full : goal.returns-in_err-step_registers-clause-full
returns-in_err-step_registers-clause-full c e = let most = c.wait_above.ensures.adds.most in let most2 = c.answer_above.ensures.adds.most in let full = c.step_registers.ensures.full (handed_on _ _ _ _ c.in_err-step_registers.was c.from_residual-in_err-step_registers.ensures.1 e) in omega (arith, most, most2, full)

pub returns-clause-full : goal.returns-clause-full
returns-clause-full c e = cc

pub step_registers-requires-clause-wait : goal.step_registers-requires-clause-wait
step_registers-requires-clause-wait c = net_lasts _ _ _ 1 c.answer_above.ensures.adds.grows.extends c.in_ok-wait.ensures.net

pub step_registers-requires-clause-valid : goal.step_registers-requires-clause-valid
step_registers-requires-clause-valid c = c.in_ok-answer.ensures.nets.valid

pub returns-clause-wait : goal.returns-clause-wait
returns-clause-wait c = net_lasts _ _ _ 1 (extends_twice _ _ _ c.answer_above.ensures.adds.grows.extends c.step_registers.ensures.grows.extends) c.in_ok-wait.ensures.net

pub returns-clause-answer : goal.returns-clause-answer
returns-clause-answer c = answer_lasts _ _ _ _ c.step_registers.ensures.grows.extends c.in_ok-answer.ensures.nets
