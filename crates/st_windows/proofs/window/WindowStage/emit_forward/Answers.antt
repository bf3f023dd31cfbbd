use Rattle.std.proofs.Common.{◌^◌, ◌<◌, inl, inr, refl, subst, arith}
use Rattle.net_parts.specs.Laws.{net_lasts, extends_twice, grows_twice, grows_fewer, adds_grow, valued_fits}
use Rattle.net_parts.specs.Refusing.{handed_on}
use Rattle.stage_core.specs.Lasting.{beat_lasts, registers_last}
use Rattle.stage_core.specs.BeatLaws.{numbered_here}
use Rattle.st_windows.proofs.RowWidths.{widths_as, rows_same, given_widths}
use Rattle.st_windows.proofs.window.WindowStage.emit_forward.Goals as goal

pub window_rows-requires-clause-held : goal.window_rows-requires-clause-held
window_rows-requires-clause-held c = c.in_ok-held.ensures.beat

pub window_rows-requires-clause-from : goal.window_rows-requires-clause-from
window_rows-requires-clause-from c = beat_lasts _ _ _ (extends_twice _ _ _ c.like_held.ensures.adds.grows.extends c.reg_beat.ensures.grows.extends) c.requires.from

pub window_rows-requires-clause-held_widths : goal.window_rows-requires-clause-held_widths
window_rows-requires-clause-held_widths c = (widths_as _ _ _ _ _ c.in_ok-held.ensures.widths c.in_ok-like.ensures.widths)

pub window_rows-requires-clause-comes : goal.window_rows-requires-clause-comes
window_rows-requires-clause-comes c = record { word = c.requires.widths.0 }

pub returns-clause-beat : goal.returns-clause-beat
returns-clause-beat c = c.in_ok-rows.ensures.to

pub returns-clause-widths : goal.returns-clause-widths
returns-clause-widths c = given_widths _ _ _ _ c.in_ok-rows.ensures.to_widths

pub returns-clause-kept : goal.returns-clause-kept
returns-clause-kept c =
    record {
      held = beat_lasts _ _ _ c.window_rows.ensures.adds.grows.extends c.in_ok-held.ensures.beat;
      rest = c.in_ok-rows.ensures.rest;
      rest_widths = rows_same _ _ _ _ _ _ _ c.in_ok-rows.ensures.rest c.in_ok-held.ensures.beat c.in_ok-rows.ensures.rest_widths (widths_as _ _ _ _ _ c.in_ok-held.ensures.widths c.in_ok-like.ensures.widths);
      gathered = c.in_ok-rows.ensures.gathered;
      gathered_widths = rows_same _ _ _ _ _ _ _ c.in_ok-rows.ensures.gathered c.in_ok-held.ensures.beat c.in_ok-rows.ensures.gathered_widths (widths_as _ _ _ _ _ c.in_ok-held.ensures.widths c.in_ok-like.ensures.widths);
      registers = registers_last _ _ _ _ (λ n o w. c.window_rows.ensures.adds.grows.waits n w) (record { numbers = numbered_here _ _ c.in_ok-held.ensures.registers.numbers; wait = c.in_ok-held.ensures.registers.wait });
      alone = c.in_ok-rows.ensures.alone;
      coming = net_lasts _ _ _ _ (extends_twice _ _ _ c.like_held.ensures.adds.grows.extends (extends_twice _ _ _ c.reg_beat.ensures.grows.extends c.window_rows.ensures.adds.grows.extends)) c.requires.from.valid;
      full = c.in_ok-rows.ensures.to.valid;
    }

pub returns-clause-owned : goal.returns-clause-owned
returns-clause-owned c n o =
    let at = c.in_ok-held.ensures.registers.numbers.valid in
    let count = c.in_ok-held.ensures.count in
    let before = c.like_held.ensures.adds.grows.extends.count in
    let one = c.window_rows.ensures.adds.grows.extends.count in
    let from = o.from in
    let below = o.below in
    (omega (arith, at, before, from), omega (arith, at, count, one, below))

pub returns-clause-own_wait : goal.returns-clause-own_wait
returns-clause-own_wait c n o = c.window_rows.ensures.adds.grows.waits n (c.in_ok-held.ensures.registers.wait n o)

pub returns-clause-made : goal.returns-clause-made
returns-clause-made c =
    record {
      coming_is = refl;
      full_is = refl;
      numbers = numbered_here _ _ c.in_ok-held.ensures.registers.numbers;
      starts = λ run cycles r. c.in_ok-held.ensures.starts run cycles (c.window_rows.ensures.adds.grows.extends.runs run cycles r);
      count_fits = λ cycle v. subst (λ w. cycle.net c.in_ok-held.held.empty.number < 2 ^ w) ((widths_as _ _ _ _ _ c.in_ok-held.ensures.widths c.in_ok-like.ensures.widths).empty) (valued_fits _ cycle v _ _ (beat_lasts _ _ _ c.window_rows.ensures.adds.grows.extends c.in_ok-held.ensures.beat).empty);
      alone_is = c.in_ok-rows.ensures.is_alone;
      shows = c.in_ok-rows.ensures.shows;
      leaves = c.in_ok-rows.ensures.leaves;
      gathers = c.in_ok-rows.ensures.gathers;
    }

pub returns-in_err-like-clause-grows : goal.returns-in_err-like-clause-grows
returns-in_err-like-clause-grows c = grows_fewer _ _ _ _ (omega arith) (adds_grow _ _ _ c.like_held.ensures.adds)

pub returns-in_err-held-clause-grows : goal.returns-in_err-held-clause-grows
returns-in_err-held-clause-grows c = grows_fewer _ _ _ _ (omega arith) (grows_twice _ _ _ _ _ (adds_grow _ _ _ c.like_held.ensures.adds) c.reg_beat.ensures.grows)

pub returns-in_err-rows-clause-grows : goal.returns-in_err-rows-clause-grows
returns-in_err-rows-clause-grows c = grows_fewer _ _ _ _ (omega arith) (grows_twice _ _ _ _ _ (grows_twice _ _ _ _ _ (adds_grow _ _ _ c.like_held.ensures.adds) c.reg_beat.ensures.grows) (adds_grow _ _ _ c.window_rows.ensures.adds))

pub returns-clause-grows : goal.returns-clause-grows
returns-clause-grows c = grows_fewer _ _ _ _ (omega arith) (grows_twice _ _ _ _ _ (grows_twice _ _ _ _ _ (adds_grow _ _ _ c.like_held.ensures.adds) c.reg_beat.ensures.grows) (adds_grow _ _ _ c.window_rows.ensures.adds))

pub returns-in_err-like-clause-full : goal.returns-in_err-like-clause-full
returns-in_err-like-clause-full c room e = let full = c.like_held.ensures.full (handed_on _ _ _ _ c.in_err-like.was c.from_residual.ensures.1 e) in omega (arith, full)

pub returns-in_err-held-clause-full : goal.returns-in_err-held-clause-full
returns-in_err-held-clause-full c room e = let most0 = c.like_held.ensures.adds.most in let full = c.reg_beat.ensures.full (handed_on _ _ _ _ c.in_err-held.was c.from_residual-in_err-held.ensures.1 e) in omega (arith, most0, full)

pub returns-in_err-rows-clause-full : goal.returns-in_err-rows-clause-full
returns-in_err-rows-clause-full c room e = let most0 = c.like_held.ensures.adds.most in let most1 = c.reg_beat.ensures.grows.most in let full = c.window_rows.ensures.full (handed_on _ _ _ _ c.in_err-rows.was c.from_residual-in_err-rows.ensures.1 e) in omega (arith, most0, most1, full)

pub returns-clause-full : goal.returns-clause-full
returns-clause-full c room e = cc

pub returns-in_err-like-clause-waits : goal.returns-in_err-like-clause-waits
returns-in_err-like-clause-waits c n w = c.like_held.ensures.adds.grows.waits n w

pub returns-in_err-held-clause-waits : goal.returns-in_err-held-clause-waits
returns-in_err-held-clause-waits c n w = c.reg_beat.ensures.still_wait n (c.like_held.ensures.adds.grows.waits n w)

pub returns-in_err-rows-clause-waits : goal.returns-in_err-rows-clause-waits
returns-in_err-rows-clause-waits c n w = c.window_rows.ensures.adds.grows.waits n (c.reg_beat.ensures.still_wait n (c.like_held.ensures.adds.grows.waits n w))

pub returns-clause-waits : goal.returns-clause-waits
returns-clause-waits c n w = c.window_rows.ensures.adds.grows.waits n (c.reg_beat.ensures.still_wait n (c.like_held.ensures.adds.grows.waits n w))

pub returns-clause-newly : goal.returns-clause-newly
returns-clause-newly c n w = elim (c.in_ok-held.ensures.newly n (c.window_rows.ensures.adds.grows.no_more_wait n w)) [ inl before ↦ inl (c.like_held.ensures.adds.grows.no_more_wait n before) | inr own ↦ inr own ]
