use Rattle.std.proofs.Common.{◌<◌, ◌*◌, ◌^◌, List, ap, sym, subst, refl, ◌∙◌, arith}
use Rattle.netlist.specs.Nets.{NetValue}
use Rattle.net_parts.specs.Laws.{grows_twice, grows_fewer, adds_twice, adds_grow, extends_twice, net_lasts, width_fits}
use Rattle.net_parts.specs.Refusing.{handed_on}
use Rattle.net_parts.specs.Groups.{AreNets, AreWaiting, InGroup, TakeAllNext, group_widths}
use Rattle.command_nets.specs.Nets.{AreAnswerNets}
use Rattle.command_nets.specs.Groups.{command_lasts, answer_lasts}
use Rattle.mm_split.specs.Registers.{group_of, register_nets_last, registers_last, nets_of_registers, widths_same}
use Rattle.mm_split.specs.Told.{part_lasts}
use Rattle.mm_split.specs.Comings.{coming_lasts, taken_lasts}
use Rattle.mm_split.proofs.split.SplitLink.emit_answer.Goals as goal

pub take-requires-clause-from : goal.take-requires-clause-from
take-requires-clause-from c = c.requires.kept.from

pub take-requires-clause-part : goal.take-requires-clause-part
take-requires-clause-part c = c.requires.kept.part

pub take-requires-clause-wait : goal.take-requires-clause-wait
take-requires-clause-wait c = c.requires.wait

pub come-requires-clause-sizes : goal.come-requires-clause-sizes
come-requires-clause-sizes c = c.requires.kept.sizes.are

pub come-requires-clause-registers : goal.come-requires-clause-registers
come-requires-clause-registers c = register_nets_last _ _ _ _ c.take.ensures.adds.grows.extends c.requires.kept.registers.nets

pub come-requires-clause-answer : goal.come-requires-clause-answer
come-requires-clause-answer c = subst (AreAnswerNets c.take.new.builder c.args.answer) (c.requires.words ∙ ap (λ n. n * 8) (sym c.requires.kept.sizes.narrow)) (answer_lasts _ _ _ _ c.take.ensures.adds.grows.extends c.requires.answer)

pub both-requires-clause-a : goal.both-requires-clause-a
both-requires-clause-a c = net_lasts _ _ _ _ (extends_twice _ _ _ c.take.ensures.adds.grows.extends c.come.ensures.adds.grows.extends) c.requires.answer.valid

pub both-requires-clause-b : goal.both-requires-clause-b
both-requires-clause-b c = c.in_ok-coming.ensures.nets.completes

pub next_registers-requires-clause-sizes : goal.next_registers-requires-clause-sizes
next_registers-requires-clause-sizes c = c.requires.kept.sizes.are

pub next_registers-requires-clause-registers : goal.next_registers-requires-clause-registers
next_registers-requires-clause-registers c = register_nets_last _ _ _ _ (extends_twice _ _ _ c.take.ensures.adds.grows.extends (extends_twice _ _ _ c.come.ensures.adds.grows.extends c.both.ensures.adds.grows.extends)) c.requires.kept.registers.nets

pub next_registers-requires-clause-from : goal.next_registers-requires-clause-from
next_registers-requires-clause-from c = command_lasts _ _ _ (extends_twice _ _ _ c.take.ensures.adds.grows.extends (extends_twice _ _ _ c.come.ensures.adds.grows.extends c.both.ensures.adds.grows.extends)) c.requires.kept.from

pub next_registers-requires-clause-part : goal.next_registers-requires-clause-part
next_registers-requires-clause-part c = part_lasts _ _ _ _ (extends_twice _ _ _ c.take.ensures.adds.grows.extends (extends_twice _ _ _ c.come.ensures.adds.grows.extends c.both.ensures.adds.grows.extends)) c.requires.kept.part

pub next_registers-requires-clause-taken : goal.next_registers-requires-clause-taken
next_registers-requires-clause-taken c = taken_lasts _ _ _ (extends_twice _ _ _ c.come.ensures.adds.grows.extends c.both.ensures.adds.grows.extends) c.in_ok-taken.ensures.nets

pub next_registers-requires-clause-coming : goal.next_registers-requires-clause-coming
next_registers-requires-clause-coming c = coming_lasts _ _ _ _ c.both.ensures.adds.grows.extends c.in_ok-coming.ensures.nets

pub next_registers-requires-clause-arrives : goal.next_registers-requires-clause-arrives
next_registers-requires-clause-arrives c = net_lasts _ _ _ _ (extends_twice _ _ _ c.take.ensures.adds.grows.extends (extends_twice _ _ _ c.come.ensures.adds.grows.extends c.both.ensures.adds.grows.extends)) c.requires.answer.valid

pub next_registers-requires-clause-valid : goal.next_registers-requires-clause-valid
next_registers-requires-clause-valid c = c.in_ok-valid.ensures.net

pub returns-in_err-taken-clause-grows : goal.returns-in_err-taken-clause-grows
returns-in_err-taken-clause-grows c = grows_fewer _ _ _ _ (omega arith) (adds_grow _ _ _ c.take.ensures.adds)

pub returns-in_err-taken-clause-waits : goal.returns-in_err-taken-clause-waits
returns-in_err-taken-clause-waits c n apart w = (c.take.ensures.adds.grows.waits n w)

pub returns-in_err-taken-clause-full : goal.returns-in_err-taken-clause-full
returns-in_err-taken-clause-full c e =
    let full = c.take.ensures.full (handed_on _ _ _ _ c.in_err-taken.was c.from_residual.ensures.1 e) in
    omega (arith, full)

pub returns-in_err-coming-clause-grows : goal.returns-in_err-coming-clause-grows
returns-in_err-coming-clause-grows c = grows_fewer _ _ _ _ (omega arith) (adds_grow _ _ _ (adds_twice _ _ _ _ _ c.take.ensures.adds c.come.ensures.adds))

pub returns-in_err-coming-clause-waits : goal.returns-in_err-coming-clause-waits
returns-in_err-coming-clause-waits c n apart w = (c.come.ensures.adds.grows.waits n (c.take.ensures.adds.grows.waits n w))

pub returns-in_err-coming-clause-full : goal.returns-in_err-coming-clause-full
returns-in_err-coming-clause-full c e =
    let most0 = c.take.ensures.adds.most in
    let full = c.come.ensures.full (handed_on _ _ _ _ c.in_err-coming.was c.from_residual-in_err-coming.ensures.1 e) in
    omega (arith, most0, full)

pub returns-in_err-valid-clause-grows : goal.returns-in_err-valid-clause-grows
returns-in_err-valid-clause-grows c = grows_fewer _ _ _ _ (omega arith) (adds_grow _ _ _ (adds_twice _ _ _ _ _ (adds_twice _ _ _ _ _ c.take.ensures.adds c.come.ensures.adds) c.both.ensures.adds))

pub returns-in_err-valid-clause-waits : goal.returns-in_err-valid-clause-waits
returns-in_err-valid-clause-waits c n apart w = (c.both.ensures.adds.grows.waits n (c.come.ensures.adds.grows.waits n (c.take.ensures.adds.grows.waits n w)))

pub returns-in_err-valid-clause-full : goal.returns-in_err-valid-clause-full
returns-in_err-valid-clause-full c e =
    let most0 = c.take.ensures.adds.most in
    let most1 = c.come.ensures.adds.most in
    let full = c.both.ensures.full (handed_on _ _ _ _ c.in_err-valid.was c.from_residual-in_err-valid.ensures.1 e) in
    omega (arith, most0, most1, full)

pub returns-in_err-next-clause-grows : goal.returns-in_err-next-clause-grows
returns-in_err-next-clause-grows c = grows_fewer _ _ _ _ (omega arith) (adds_grow _ _ _ (adds_twice _ _ _ _ _ (adds_twice _ _ _ _ _ (adds_twice _ _ _ _ _ c.take.ensures.adds c.come.ensures.adds) c.both.ensures.adds) c.next_registers.ensures.adds))

pub returns-in_err-next-clause-waits : goal.returns-in_err-next-clause-waits
returns-in_err-next-clause-waits c n apart w = (c.next_registers.ensures.adds.grows.waits n (c.both.ensures.adds.grows.waits n (c.come.ensures.adds.grows.waits n (c.take.ensures.adds.grows.waits n w))))

pub returns-in_err-next-clause-full : goal.returns-in_err-next-clause-full
returns-in_err-next-clause-full c e =
    let most0 = c.take.ensures.adds.most in
    let most1 = c.come.ensures.adds.most in
    let most2 = c.both.ensures.adds.most in
    let full = c.next_registers.ensures.full (handed_on _ _ _ _ c.in_err-next.was c.from_residual-in_err-next.ensures.1 e) in
    omega (arith, most0, most1, most2, full)

pub returns-clause-grows : goal.returns-clause-grows
returns-clause-grows c = grows_fewer _ _ _ _ (omega arith) (grows_twice _ _ _ _ _ (adds_grow _ _ _ (adds_twice _ _ _ _ _ (adds_twice _ _ _ _ _ (adds_twice _ _ _ _ _ c.take.ensures.adds c.come.ensures.adds) c.both.ensures.adds) c.next_registers.ensures.adds)) c.set_all_next.ensures.grows)

pub returns-clause-waits : goal.returns-clause-waits
returns-clause-waits c n apart w = c.set_all_next.ensures.still_wait n (λ o. apart (subst (λ (g : List NetValue). InGroup g n) c.group-held.ensures o)) (c.next_registers.ensures.adds.grows.waits n (c.both.ensures.adds.grows.waits n (c.come.ensures.adds.grows.waits n (c.take.ensures.adds.grows.waits n w))))

pub returns-clause-full : goal.returns-clause-full
returns-clause-full c e = cc

pub returns-clause-wait : goal.returns-clause-wait
returns-clause-wait c = net_lasts _ _ _ _ (extends_twice _ _ _ c.come.ensures.adds.grows.extends (extends_twice _ _ _ c.both.ensures.adds.grows.extends (extends_twice _ _ _ c.next_registers.ensures.adds.grows.extends c.set_all_next.ensures.grows.extends))) c.in_ok-taken.ensures.nets.waits

pub returns-clause-answer : goal.returns-clause-answer
returns-clause-answer c =
    let word = net_lasts _ _ _ _ (extends_twice _ _ _ c.both.ensures.adds.grows.extends (extends_twice _ _ _ c.next_registers.ensures.adds.grows.extends c.set_all_next.ensures.grows.extends)) c.in_ok-coming.ensures.nets.word in
    record {
      valid = net_lasts _ _ _ _ (extends_twice _ _ _ c.next_registers.ensures.adds.grows.extends c.set_all_next.ensures.grows.extends) c.in_ok-valid.ensures.net;
      word = record { is_net = word.is_net; has_width = word.has_width ∙ ap (λ n. n * 8) c.requires.kept.sizes.wide };
      code = net_lasts _ _ _ _ (extends_twice _ _ _ c.both.ensures.adds.grows.extends (extends_twice _ _ _ c.next_registers.ensures.adds.grows.extends c.set_all_next.ensures.grows.extends)) c.in_ok-coming.ensures.nets.code;
    }

pub returns-clause-no_more_wait : goal.returns-clause-no_more_wait
returns-clause-no_more_wait c n w =
    let last = c.set_all_next.ensures.no_more_wait n w in
    (c.take.ensures.adds.grows.no_more_wait n (c.come.ensures.adds.grows.no_more_wait n (c.both.ensures.adds.grows.no_more_wait n (c.next_registers.ensures.adds.grows.no_more_wait n last.0))), λ o. last.1 (subst (λ (g : List NetValue). InGroup g n) (sym c.group-held.ensures) o))

pub returns-clause-made : goal.returns-clause-made
returns-clause-made c = record {
  taken = c.in_ok-taken.taken;
  coming = c.in_ok-coming.coming;
  next = c.in_ok-next.next;
  fits = λ cycle v. subst (λ n. cycle.net c.args.answer.word.number < 2 ^ n) (c.requires.words ∙ ap (λ n. n * 8) (sym c.requires.kept.sizes.narrow)) (width_fits _ _ _ c.requires.answer.word cycle ((extends_twice _ _ _ c.take.ensures.adds.grows.extends (extends_twice _ _ _ c.come.ensures.adds.grows.extends (extends_twice _ _ _ c.both.ensures.adds.grows.extends (extends_twice _ _ _ c.next_registers.ensures.adds.grows.extends c.set_all_next.ensures.grows.extends)))).valuations cycle v));
  below = λ cycle v. c.in_ok-taken.ensures.below cycle ((extends_twice _ _ _ c.come.ensures.adds.grows.extends (extends_twice _ _ _ c.both.ensures.adds.grows.extends (extends_twice _ _ _ c.next_registers.ensures.adds.grows.extends c.set_all_next.ensures.grows.extends))).valuations cycle v);
  above = λ cycle v. c.in_ok-taken.ensures.above cycle ((extends_twice _ _ _ c.come.ensures.adds.grows.extends (extends_twice _ _ _ c.both.ensures.adds.grows.extends (extends_twice _ _ _ c.next_registers.ensures.adds.grows.extends c.set_all_next.ensures.grows.extends))).valuations cycle v);
  waits = λ cycle v. c.in_ok-taken.ensures.waits cycle ((extends_twice _ _ _ c.come.ensures.adds.grows.extends (extends_twice _ _ _ c.both.ensures.adds.grows.extends (extends_twice _ _ _ c.next_registers.ensures.adds.grows.extends c.set_all_next.ensures.grows.extends))).valuations cycle v);
  tells = λ cycle v. c.in_ok-coming.ensures.value cycle ((extends_twice _ _ _ c.both.ensures.adds.grows.extends (extends_twice _ _ _ c.next_registers.ensures.adds.grows.extends c.set_all_next.ensures.grows.extends)).valuations cycle v);
  valid = λ cycle v. c.in_ok-valid.ensures.value cycle ((extends_twice _ _ _ c.next_registers.ensures.adds.grows.extends c.set_all_next.ensures.grows.extends).valuations cycle v);
  word_is = refl;
  code_is = refl;
  nexts = λ cycle v. c.in_ok-next.ensures.value cycle (c.set_all_next.ensures.grows.extends.valuations cycle v);
  moves = subst (λ (g : List NetValue). TakeAllNext c.set_all_next.new.builder g (group_of c.in_ok-next.next)) c.group-held.ensures (subst (λ (g : List NetValue). TakeAllNext c.set_all_next.new.builder c.group-held.result g) c.group-after.ensures c.set_all_next.ensures.value);
}

pub set_all_next-requires : goal.set_all_next-requires
set_all_next-requires c = (omega arith, (subst (AreNets c.next_registers.new.builder) (sym c.group-held.ensures) (nets_of_registers _ _ _ (register_nets_last _ _ _ _ (extends_twice _ _ _ c.take.ensures.adds.grows.extends (extends_twice _ _ _ c.come.ensures.adds.grows.extends (extends_twice _ _ _ c.both.ensures.adds.grows.extends c.next_registers.ensures.adds.grows.extends))) c.requires.kept.registers.nets)), (subst (AreWaiting c.next_registers.new.builder) (sym c.group-held.ensures) (registers_last _ _ _ _ (extends_twice _ _ _ c.take.ensures.adds.grows.extends (extends_twice _ _ _ c.come.ensures.adds.grows.extends (extends_twice _ _ _ c.both.ensures.adds.grows.extends c.next_registers.ensures.adds.grows.extends))) (λ n o w. (c.next_registers.ensures.adds.grows.waits n (c.both.ensures.adds.grows.waits n (c.come.ensures.adds.grows.waits n (c.take.ensures.adds.grows.waits n w))))) c.requires.kept.registers).wait, (subst (AreNets c.next_registers.new.builder) (sym c.group-after.ensures) (nets_of_registers _ _ _ c.in_ok-next.ensures.nets), ap group_widths c.group-held.ensures ∙ widths_same _ _ _ _ _ c.requires.kept.registers.nets c.in_ok-next.ensures.nets ∙ sym (ap group_widths c.group-after.ensures)))))
