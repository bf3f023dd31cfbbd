use Rattle.std.proofs.Common.{◌^◌, ◌<◌, refl, subst, ◌∙◌, arith, inl, inr}
use Rattle.net_parts.specs.Laws.{valued_fits, net_lasts, extends_twice, adds_grow, grows_fewer, grows_twice}
use Rattle.stage_core.specs.Groups.{shown_in}
use Rattle.stage_core.specs.Lasting.{beat_lasts, registers_last}
use Rattle.stage_core.specs.BeatLaws.{widths_turned, widths_twice, numbered_here}
use Rattle.st_format.proofs.WidenLemmas.{filled_shown}
use Rattle.stage_core.specs.Refusing.{handed_on}
use Rattle.st_format.proofs.widen.WidenStage.emit_forward.Goals as goal

pub join_beat-requires-clause-from : goal.join_beat-requires-clause-from
join_beat-requires-clause-from c = beat_lasts _ _ _ (extends_twice _ _ _ c.gather_none.ensures.adds.grows.extends c.reg_beat.ensures.grows.extends) c.requires.from

pub gather_more-requires-clause-held : goal.gather_more-requires-clause-held
gather_more-requires-clause-held c = beat_lasts _ _ _ c.join_beat.ensures.adds.grows.extends c.in_ok-held.ensures.beat

pub gather_more-requires-clause-none : goal.gather_more-requires-clause-none
gather_more-requires-clause-none c = beat_lasts _ _ _ (extends_twice _ _ _ c.reg_beat.ensures.grows.extends c.join_beat.ensures.adds.grows.extends) c.in_ok-none.ensures.none

pub gather_more-requires-clause-coming : goal.gather_more-requires-clause-coming
gather_more-requires-clause-coming c = net_lasts _ _ _ _ (extends_twice _ _ _ c.gather_none.ensures.adds.grows.extends (extends_twice _ _ _ c.reg_beat.ensures.grows.extends c.join_beat.ensures.adds.grows.extends)) c.requires.from.valid

pub returns-clause-beat : goal.returns-clause-beat
returns-clause-beat c = beat_lasts _ _ _ c.gather_more.ensures.adds.grows.extends c.in_ok-to.ensures.beat

pub returns-clause-kept : goal.returns-clause-kept
returns-clause-kept c =
    let same = widths_turned _ _ c.in_ok-held.ensures.widths in
    record {
      held = beat_lasts _ _ _ (extends_twice _ _ _ c.join_beat.ensures.adds.grows.extends c.gather_more.ensures.adds.grows.extends) c.in_ok-held.ensures.beat;
      none = beat_lasts _ _ _ (extends_twice _ _ _ c.reg_beat.ensures.grows.extends (extends_twice _ _ _ c.join_beat.ensures.adds.grows.extends c.gather_more.ensures.adds.grows.extends)) c.in_ok-none.ensures.none;
      none_widths = same;
      filled = c.in_ok-filled.ensures.filled;
      filled_widths = widths_twice _ _ _ c.in_ok-filled.ensures.widths same;
      registers = registers_last _ _ _ _ (λ n o w. c.gather_more.ensures.adds.grows.waits n (c.join_beat.ensures.adds.grows.waits n w)) (record { numbers = numbered_here _ _ c.in_ok-held.ensures.registers.numbers; wait = c.in_ok-held.ensures.registers.wait });
      coming = net_lasts _ _ _ _ (extends_twice _ _ _ c.gather_none.ensures.adds.grows.extends (extends_twice _ _ _ c.reg_beat.ensures.grows.extends (extends_twice _ _ _ c.join_beat.ensures.adds.grows.extends c.gather_more.ensures.adds.grows.extends))) c.requires.from.valid;
      full = net_lasts _ _ _ _ c.gather_more.ensures.adds.grows.extends c.in_ok-to.ensures.beat.valid;
    }

pub returns-clause-owned : goal.returns-clause-owned
returns-clause-owned c n o =
    let at = c.in_ok-held.ensures.registers.numbers.valid in
    let count = c.in_ok-held.ensures.count in
    let before = c.gather_none.ensures.adds.grows.extends.count in
    let one = c.join_beat.ensures.adds.grows.extends.count in
    let two = c.gather_more.ensures.adds.grows.extends.count in
    let from = o.from in
    let below = o.below in
    (omega (arith, at, before, from), omega (arith, at, count, one, two, below))

pub returns-clause-own_wait : goal.returns-clause-own_wait
returns-clause-own_wait c n o = c.gather_more.ensures.adds.grows.waits n (c.join_beat.ensures.adds.grows.waits n (c.in_ok-held.ensures.registers.wait n o))

pub returns-clause-made : goal.returns-clause-made
returns-clause-made c =
    let later = (extends_twice _ _ _ c.join_beat.ensures.adds.grows.extends c.gather_more.ensures.adds.grows.extends) in
    let whole = (extends_twice _ _ _ c.gather_none.ensures.adds.grows.extends (extends_twice _ _ _ c.reg_beat.ensures.grows.extends (extends_twice _ _ _ c.join_beat.ensures.adds.grows.extends c.gather_more.ensures.adds.grows.extends))) in
    record {
      coming_is = refl;
      full_is = refl;
      numbers = numbered_here _ _ c.in_ok-held.ensures.registers.numbers;
      starts = λ run cycles r. c.in_ok-held.ensures.starts run cycles (later.runs run cycles r);
      word_fits = λ cycle v. subst (λ w. cycle.net c.args.from.word.number < 2 ^ w) c.requires.widths.0 (valued_fits _ cycle (whole.valuations cycle v) _ _ c.requires.from.word);
      held_fits = λ cycle v. subst (λ w. cycle.net c.in_ok-held.held.word.number < 2 ^ w) (c.in_ok-held.ensures.widths.word ∙ c.in_ok-none.ensures.word) (valued_fits _ cycle (later.valuations cycle v) _ _ c.in_ok-held.ensures.beat.word);
      shows = λ cycle v. c.in_ok-to.ensures.value cycle (c.gather_more.ensures.adds.grows.extends.valuations cycle v);
      fills = λ cycle v4. (
          let v3 = c.gather_more.ensures.adds.grows.extends.valuations cycle v4 in
          let v2 = c.join_beat.ensures.adds.grows.extends.valuations cycle v3 in
          let v1 = c.reg_beat.ensures.grows.extends.valuations cycle v2 in
          let v0 = c.gather_none.ensures.adds.grows.extends.valuations cycle v1 in
          let none = c.in_ok-none.ensures.value cycle v1 in
          let joined = c.in_ok-to.ensures.value cycle v3 in
          c.in_ok-filled.ensures.value cycle v4 ∙ filled_shown c.args.self.now (shown_in cycle c.in_ok-held.held) (shown_in cycle c.args.from) (shown_in cycle c.in_ok-to.to) (shown_in cycle c.in_ok-none.none) joined none);
      empties = λ cycle v. c.in_ok-none.ensures.value cycle ((extends_twice _ _ _ c.reg_beat.ensures.grows.extends (extends_twice _ _ _ c.join_beat.ensures.adds.grows.extends c.gather_more.ensures.adds.grows.extends)).valuations cycle v);
    }

pub returns-in_err-none-clause-grows : goal.returns-in_err-none-clause-grows
returns-in_err-none-clause-grows c = grows_fewer _ _ _ _ (omega arith) (adds_grow _ _ _ c.gather_none.ensures.adds)

pub returns-in_err-held-clause-grows : goal.returns-in_err-held-clause-grows
returns-in_err-held-clause-grows c = grows_fewer _ _ _ _ (omega arith) (grows_twice _ _ _ _ _ (adds_grow _ _ _ c.gather_none.ensures.adds) c.reg_beat.ensures.grows)

pub returns-in_err-to-clause-grows : goal.returns-in_err-to-clause-grows
returns-in_err-to-clause-grows c = grows_fewer _ _ _ _ (omega arith) (grows_twice _ _ _ _ _ (grows_twice _ _ _ _ _ (adds_grow _ _ _ c.gather_none.ensures.adds) c.reg_beat.ensures.grows) (adds_grow _ _ _ c.join_beat.ensures.adds))

pub returns-in_err-filled-clause-grows : goal.returns-in_err-filled-clause-grows
returns-in_err-filled-clause-grows c = grows_fewer _ _ _ _ (omega arith) (grows_twice _ _ _ _ _ (grows_twice _ _ _ _ _ (grows_twice _ _ _ _ _ (adds_grow _ _ _ c.gather_none.ensures.adds) c.reg_beat.ensures.grows) (adds_grow _ _ _ c.join_beat.ensures.adds)) (adds_grow _ _ _ c.gather_more.ensures.adds))

pub returns-clause-grows : goal.returns-clause-grows
returns-clause-grows c = grows_fewer _ _ _ _ (omega arith) (grows_twice _ _ _ _ _ (grows_twice _ _ _ _ _ (grows_twice _ _ _ _ _ (adds_grow _ _ _ c.gather_none.ensures.adds) c.reg_beat.ensures.grows) (adds_grow _ _ _ c.join_beat.ensures.adds)) (adds_grow _ _ _ c.gather_more.ensures.adds))

pub returns-in_err-none-clause-waits : goal.returns-in_err-none-clause-waits
returns-in_err-none-clause-waits c n w = c.gather_none.ensures.adds.grows.waits n w

pub returns-in_err-held-clause-waits : goal.returns-in_err-held-clause-waits
returns-in_err-held-clause-waits c n w = c.reg_beat.ensures.still_wait n (c.gather_none.ensures.adds.grows.waits n w)

pub returns-in_err-to-clause-waits : goal.returns-in_err-to-clause-waits
returns-in_err-to-clause-waits c n w = c.join_beat.ensures.adds.grows.waits n (c.reg_beat.ensures.still_wait n (c.gather_none.ensures.adds.grows.waits n w))

pub returns-in_err-filled-clause-waits : goal.returns-in_err-filled-clause-waits
returns-in_err-filled-clause-waits c n w = c.gather_more.ensures.adds.grows.waits n (c.join_beat.ensures.adds.grows.waits n (c.reg_beat.ensures.still_wait n (c.gather_none.ensures.adds.grows.waits n w)))

pub returns-clause-waits : goal.returns-clause-waits
returns-clause-waits c n w = c.gather_more.ensures.adds.grows.waits n (c.join_beat.ensures.adds.grows.waits n (c.reg_beat.ensures.still_wait n (c.gather_none.ensures.adds.grows.waits n w)))

pub returns-clause-newly : goal.returns-clause-newly
returns-clause-newly c n w = elim (c.in_ok-held.ensures.newly n (c.join_beat.ensures.adds.grows.no_more_wait n (c.gather_more.ensures.adds.grows.no_more_wait n w))) [ inl before ↦ inl (c.gather_none.ensures.adds.grows.no_more_wait n before) | inr own ↦ inr own ]

pub returns-in_err-none-clause-full : goal.returns-in_err-none-clause-full
returns-in_err-none-clause-full c room e = let full = c.gather_none.ensures.full (handed_on _ _ _ _ c.in_err-none.was c.from_residual.ensures.1 e) in omega (arith, full)

pub returns-in_err-held-clause-full : goal.returns-in_err-held-clause-full
returns-in_err-held-clause-full c room e = let most0 = c.gather_none.ensures.adds.most in let full = c.reg_beat.ensures.full (handed_on _ _ _ _ c.in_err-held.was c.from_residual-in_err-held.ensures.1 e) in omega (arith, most0, full)

pub returns-in_err-to-clause-full : goal.returns-in_err-to-clause-full
returns-in_err-to-clause-full c room e = let most0 = c.gather_none.ensures.adds.most in let most1 = c.reg_beat.ensures.grows.most in let full = c.join_beat.ensures.full (handed_on _ _ _ _ c.in_err-to.was c.from_residual-in_err-to.ensures.1 e) in omega (arith, most0, most1, full)

pub returns-in_err-filled-clause-full : goal.returns-in_err-filled-clause-full
returns-in_err-filled-clause-full c room e = let most0 = c.gather_none.ensures.adds.most in let most1 = c.reg_beat.ensures.grows.most in let most2 = c.join_beat.ensures.adds.most in let full = c.gather_more.ensures.full (handed_on _ _ _ _ c.in_err-filled.was c.from_residual-in_err-filled.ensures.1 e) in omega (arith, most0, most1, most2, full)

pub returns-clause-full : goal.returns-clause-full
returns-clause-full c room e = cc
