use Rattle.std.proofs.Common.{refl, ap, ◌∙◌, arith, sym}
use Rattle.histories.specs.History.{is_raised}
use Rattle.netlist.specs.Runs.{cycle_of}
use Rattle.net_parts.specs.Refusing.{handed_on}
use Rattle.net_parts.specs.Laws.{adds_grow, grows_fewer, adds_twice, grows_twice, net_lasts, extends_twice}
use Rattle.command_nets.specs.Groups.{command_lasts, answer_lasts}
use Rattle.mm_route.proofs.wire.finish_wire.Goals as goal

pub returns-clause-made : goal.returns-clause-made
returns-clause-made c =
    let late = c.take_next.ensures.grows.extends in
    record {
      back = c.args.back.now;
      only = refl;
      wait_is = refl;
      word = refl;
      code = refl;
      valid = λ cycle v. c.in_ok-valid.ensures.value cycle (c.next_owing.ensures.adds.grows.extends.valuations cycle (late.valuations cycle v));
      next = λ run cycles r n lt. ap is_raised (c.take_next.ensures.value run cycles r n lt) ∙ c.in_ok-next.ensures.value (cycle_of run n) ((late.runs run cycles r).valuations n (omega arith));
    }

pub returns-clause-no_more_wait : goal.returns-clause-no_more_wait
returns-clause-no_more_wait c n w =
    let set = c.take_next.ensures.no_more_wait n w in
    (c.owed_word.ensures.adds.grows.no_more_wait n (c.next_owing.ensures.adds.grows.no_more_wait n set.0), set.1)

pub returns-in_err-valid-clause-full : goal.returns-in_err-valid-clause-full
returns-in_err-valid-clause-full c e = let full = c.owed_word.ensures.full (handed_on _ _ _ _ c.in_err-valid.was c.from_residual.ensures.1 e) in omega (arith, full)

pub returns-in_err-next-clause-full : goal.returns-in_err-next-clause-full
returns-in_err-next-clause-full c e = let most = c.owed_word.ensures.adds.most in let full = c.next_owing.ensures.full (handed_on _ _ _ _ c.in_err-next.was c.from_residual-in_err-next.ensures.1 e) in omega (arith, most, full)

pub returns-clause-full : goal.returns-clause-full
returns-clause-full c e = cc

pub returns-in_err-valid-clause-grows : goal.returns-in_err-valid-clause-grows
returns-in_err-valid-clause-grows c = grows_fewer _ _ _ _ (omega arith) (adds_grow _ _ _ c.owed_word.ensures.adds)

pub returns-in_err-next-clause-grows : goal.returns-in_err-next-clause-grows
returns-in_err-next-clause-grows c = grows_fewer _ _ _ _ (omega arith) (adds_grow _ _ _ (adds_twice _ _ _ _ _ c.owed_word.ensures.adds c.next_owing.ensures.adds))

pub returns-clause-grows : goal.returns-clause-grows
returns-clause-grows c = grows_fewer _ _ _ _ (omega arith) (grows_twice _ _ _ _ _ (adds_grow _ _ _ (adds_twice _ _ _ _ _ c.owed_word.ensures.adds c.next_owing.ensures.adds)) c.take_next.ensures.grows)

pub returns-in_err-valid-clause-waits : goal.returns-in_err-valid-clause-waits
returns-in_err-valid-clause-waits c n apart w = c.owed_word.ensures.adds.grows.waits n w

pub returns-in_err-next-clause-waits : goal.returns-in_err-next-clause-waits
returns-in_err-next-clause-waits c n apart w = c.next_owing.ensures.adds.grows.waits n (c.owed_word.ensures.adds.grows.waits n w)

pub returns-clause-waits : goal.returns-clause-waits
returns-clause-waits c n apart w = c.take_next.ensures.still_wait n apart (c.next_owing.ensures.adds.grows.waits n (c.owed_word.ensures.adds.grows.waits n w))

pub owed_word-requires-clause-owing : goal.owed_word-requires-clause-owing
owed_word-requires-clause-owing c = c.requires.wire.owing

pub owed_word-requires-clause-valid : goal.owed_word-requires-clause-valid
owed_word-requires-clause-valid c = c.requires.answer.valid

pub next_owing-requires-clause-owing : goal.next_owing-requires-clause-owing
next_owing-requires-clause-owing c = net_lasts _ _ _ 1 c.owed_word.ensures.adds.grows.extends c.requires.wire.owing

pub next_owing-requires-clause-command : goal.next_owing-requires-clause-command
next_owing-requires-clause-command c = command_lasts _ _ _ c.owed_word.ensures.adds.grows.extends c.requires.wire.command

pub next_owing-requires-clause-wait : goal.next_owing-requires-clause-wait
next_owing-requires-clause-wait c = net_lasts _ _ _ 1 c.owed_word.ensures.adds.grows.extends c.requires.wait

pub take_next-requires-clause-register : goal.take_next-requires-clause-register
take_next-requires-clause-register c = (extends_twice _ _ _ c.owed_word.ensures.adds.grows.extends c.next_owing.ensures.adds.grows.extends).nets _ _ c.requires.wire.owing.is_net

pub take_next-requires-clause-waits : goal.take_next-requires-clause-waits
take_next-requires-clause-waits c = c.next_owing.ensures.adds.grows.waits _ (c.owed_word.ensures.adds.grows.waits _ c.requires.wire.waits)

pub take_next-requires-clause-next : goal.take_next-requires-clause-next
take_next-requires-clause-next c = c.in_ok-next.ensures.net.is_net

pub take_next-requires-clause-widths : goal.take_next-requires-clause-widths
take_next-requires-clause-widths c = c.requires.wire.owing.has_width ∙ sym c.in_ok-next.ensures.net.has_width

pub returns-clause-wait : goal.returns-clause-wait
returns-clause-wait c = net_lasts _ _ _ 1 (extends_twice _ _ _ c.owed_word.ensures.adds.grows.extends (extends_twice _ _ _ c.next_owing.ensures.adds.grows.extends c.take_next.ensures.grows.extends)) c.requires.wait

pub returns-clause-answer : goal.returns-clause-answer
returns-clause-answer c =
    let old = answer_lasts _ _ _ _ (extends_twice _ _ _ c.owed_word.ensures.adds.grows.extends (extends_twice _ _ _ c.next_owing.ensures.adds.grows.extends c.take_next.ensures.grows.extends)) c.requires.answer in
    record { valid = net_lasts _ _ _ 1 (extends_twice _ _ _ c.next_owing.ensures.adds.grows.extends c.take_next.ensures.grows.extends) c.in_ok-valid.ensures.net; word = old.word; code = old.code }
