use Rattle.std.proofs.Common.{inl, inr, ◌∙◌, arith}
use Rattle.netlist.specs.Runs.{cycle_of}
use Rattle.net_parts.specs.Laws.{net_lasts}
use Rattle.net_parts.specs.Laws.{extends_twice, adds_grow, grows_twice, grows_fewer}
use Rattle.command_nets.specs.Groups.{command_lasts, answer_lasts, waiting_lasts}
use Rattle.net_parts.specs.Refusing.{handed_on}
use Rattle.link_core.proofs.stage.PipeStageLink.emit_answer.Goals as goal

pub set_next_command-requires-clause-registers : goal.set_next_command-requires-clause-registers
set_next_command-requires-clause-registers c = command_lasts _ _ _ c.next_places.ensures.adds.grows.extends c.requires.kept.first

pub set_next_command-requires-clause-wait : goal.set_next_command-requires-clause-wait
set_next_command-requires-clause-wait c = waiting_lasts _ _ _ (λ n o. c.next_places.ensures.adds.grows.waits n) c.requires.kept.first_waits

pub set_next_command-requires-2-clause-registers : goal.set_next_command-requires-2-clause-registers
set_next_command-requires-2-clause-registers c = command_lasts _ _ _ (extends_twice _ _ _ c.next_places.ensures.adds.grows.extends c.set_next_command.ensures.grows.extends) c.requires.kept.second

pub set_next_command-requires-2-clause-wait : goal.set_next_command-requires-2-clause-wait
set_next_command-requires-2-clause-wait c =
    waiting_lasts _ _ _
    (λ n o w. c.set_next_command.ensures.still_wait n (λ p. c.requires.kept.apart n p o) (c.next_places.ensures.adds.grows.waits n w))
    c.requires.kept.second_waits

pub set_next_command-requires-2-clause-next : goal.set_next_command-requires-2-clause-next
set_next_command-requires-2-clause-next c = command_lasts _ _ _ c.set_next_command.ensures.grows.extends c.in_ok-next.ensures.second_nets

pub delay_answer-requires : goal.delay_answer-requires
delay_answer-requires c =
    answer_lasts _ _ _ _ (extends_twice _ _ _ c.next_places.ensures.adds.grows.extends (extends_twice _ _ _ c.set_next_command.ensures.grows.extends c.set_next_command-2.ensures.grows.extends)) c.requires.answer

pub returns-in_err-back-clause-grows : goal.returns-in_err-back-clause-grows
returns-in_err-back-clause-grows c =
    grows_fewer _ _ _ _ (omega arith) (grows_twice _ _ _ _ _ (grows_twice _ _ _ _ _ (grows_twice _ _ _ _ _ (adds_grow _ _ _ c.next_places.ensures.adds) c.set_next_command.ensures.grows) c.set_next_command-2.ensures.grows) c.delay_answer.ensures.grows)

pub returns-clause-grows : goal.returns-clause-grows
returns-clause-grows c =
    grows_fewer _ _ _ _ (omega arith) (grows_twice _ _ _ _ _ (grows_twice _ _ _ _ _ (grows_twice _ _ _ _ _ (adds_grow _ _ _ c.next_places.ensures.adds) c.set_next_command.ensures.grows) c.set_next_command-2.ensures.grows) c.delay_answer.ensures.grows)

pub returns-in_err-back-clause-waits : goal.returns-in_err-back-clause-waits
returns-in_err-back-clause-waits c n apart w =
    c.delay_answer.ensures.still_wait n (c.set_next_command-2.ensures.still_wait n (λ p. apart (inr p)) (c.set_next_command.ensures.still_wait n (λ p. apart (inl p)) (c.next_places.ensures.adds.grows.waits n w)))

pub returns-clause-waits : goal.returns-clause-waits
returns-clause-waits c n apart w =
    c.delay_answer.ensures.still_wait n (c.set_next_command-2.ensures.still_wait n (λ p. apart (inr p)) (c.set_next_command.ensures.still_wait n (λ p. apart (inl p)) (c.next_places.ensures.adds.grows.waits n w)))

pub returns-clause-wait : goal.returns-clause-wait
returns-clause-wait c =
    net_lasts _ _ _ _ (extends_twice _ _ _ c.set_next_command.ensures.grows.extends (extends_twice _ _ _ c.set_next_command-2.ensures.grows.extends c.delay_answer.ensures.grows.extends)) c.in_ok-next.ensures.full_net

pub returns-clause-made : goal.returns-clause-made
returns-clause-made c =
    let last = c.delay_answer.ensures.grows.extends in
    let behind = extends_twice _ _ _ c.set_next_command-2.ensures.grows.extends last in
    let more = extends_twice _ _ _ c.set_next_command.ensures.grows.extends behind in
    record {
      waits = λ cycle v. c.in_ok-next.ensures.is_full cycle (more.valuations cycle v);
      first_moves = λ run cycles r n lt.
          c.set_next_command.ensures.value run cycles (behind.runs run cycles r) n lt
          ∙ c.in_ok-next.ensures.first_next (cycle_of run n) ((more.runs run cycles r).valuations n (omega arith));
      second_moves = λ run cycles r n lt.
          c.set_next_command-2.ensures.value run cycles (last.runs run cycles r) n lt
          ∙ c.in_ok-next.ensures.second_next (cycle_of run n) ((more.runs run cycles r).valuations n (omega arith));
      delayed = c.in_ok-back.ensures.value;
    }

pub returns-clause-no_more_wait : goal.returns-clause-no_more_wait
returns-clause-no_more_wait c n w =
    let three = c.in_ok-back.ensures.no_more_wait n w in
    let two = c.set_next_command-2.ensures.no_more_wait n three in
    let one = c.set_next_command.ensures.no_more_wait n two.0 in
    (c.next_places.ensures.adds.grows.no_more_wait n one.0, λ o. elim o [ inl p ↦ one.1 p | inr p ↦ two.1 p ])

pub next_places-requires-clause-from : goal.next_places-requires-clause-from
next_places-requires-clause-from c = c.requires.kept.from

pub next_places-requires-clause-first : goal.next_places-requires-clause-first
next_places-requires-clause-first c = c.requires.kept.first

pub next_places-requires-clause-second : goal.next_places-requires-clause-second
next_places-requires-clause-second c = c.requires.kept.second

pub next_places-requires-clause-first_widths : goal.next_places-requires-clause-first_widths
next_places-requires-clause-first_widths c = c.requires.kept.first_widths

pub next_places-requires-clause-second_widths : goal.next_places-requires-clause-second_widths
next_places-requires-clause-second_widths c = c.requires.kept.second_widths

pub next_places-requires-clause-wait : goal.next_places-requires-clause-wait
next_places-requires-clause-wait c = c.requires.wait

pub set_next_command-requires-clause-next : goal.set_next_command-requires-clause-next
set_next_command-requires-clause-next c = c.in_ok-next.ensures.first_nets

pub set_next_command-requires-clause-widths : goal.set_next_command-requires-clause-widths
set_next_command-requires-clause-widths c = c.in_ok-next.ensures.first_same

pub set_next_command-requires-2-clause-widths : goal.set_next_command-requires-2-clause-widths
set_next_command-requires-2-clause-widths c = c.in_ok-next.ensures.second_same

pub returns-in_err-next-clause-grows : goal.returns-in_err-next-clause-grows
returns-in_err-next-clause-grows c = grows_fewer _ _ _ _ (omega arith) (adds_grow _ _ _ c.next_places.ensures.adds)

pub returns-in_err-next-clause-waits : goal.returns-in_err-next-clause-waits
returns-in_err-next-clause-waits c n apart w = c.next_places.ensures.adds.grows.waits n w

pub returns-in_err-next-clause-full : goal.returns-in_err-next-clause-full
returns-in_err-next-clause-full c e = let full = c.next_places.ensures.full (handed_on _ _ _ _ c.in_err-next.was c.from_residual.ensures.1 e) in omega (arith, full)

pub returns-in_err-back-clause-full : goal.returns-in_err-back-clause-full
returns-in_err-back-clause-full c e =
    let most0 = c.next_places.ensures.adds.most in
    let most1 = c.set_next_command.ensures.grows.most in
    let most2 = c.set_next_command-2.ensures.grows.most in
    let full = c.delay_answer.ensures.full (handed_on _ _ _ _ c.in_err-back.was c.from_residual-in_err-back.ensures.1 e) in
    omega (arith, most0, most1, most2, full)

pub returns-clause-full : goal.returns-clause-full
returns-clause-full c e = cc

pub returns-clause-answer : goal.returns-clause-answer
returns-clause-answer c = c.in_ok-back.ensures.answer
