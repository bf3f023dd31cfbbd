use Rattle.std.proofs.Common.{refl, ap, ◌∙◌, arith}
use Rattle.stage_core.specs.Lasting.{beat_lasts, registers_last}
use Rattle.st_format.specs.NarrowNets.{shown_piece, shown_rest}
use Rattle.st_format.proofs.NarrowLemmas.{rest_widths}
use Rattle.net_parts.specs.Laws.{adds_grow, grows_fewer, grows_twice}
use Rattle.stage_core.specs.Refusing.{handed_on}
use Rattle.st_format.proofs.narrow.NarrowStage.emit_forward.Goals as goal

pub returns-clause-kept : goal.returns-clause-kept
returns-clause-kept c = record {
  held = beat_lasts _ _ _ c.cut_beat.ensures.adds.grows.extends c.in_ok-current.ensures.held;
  rest = c.in_ok-part.ensures.rest;
  widths = rest_widths _ _ _ _ _ _ c.in_ok-part.ensures.rest c.in_ok-current.ensures.held c.in_ok-part.ensures.widths c.in_ok-current.ensures.widths;
  registers = registers_last _ _ _ _ (λ n o. c.cut_beat.ensures.adds.grows.waits n) c.in_ok-current.ensures.registers;
  shown = c.in_ok-part.ensures.part.valid;
}

pub returns-clause-owned : goal.returns-clause-owned
returns-clause-owned c n o =
    let made = c.in_ok-current.ensures.owned n o in
    let more = c.cut_beat.ensures.adds.grows.extends.count in
    (made.0, omega (arith, made.1, more))

pub returns-clause-made : goal.returns-clause-made
returns-clause-made c = record {
  shown_is = refl;
  numbers = c.in_ok-current.ensures.registers.numbers;
  starts = λ run cycles r. c.in_ok-current.ensures.starts run cycles (c.cut_beat.ensures.adds.grows.extends.runs run cycles r);
  shows = λ cycle v. c.in_ok-part.ensures.shows cycle v ∙ ap (shown_piece c.args.self.now.sizes) (c.in_ok-current.ensures.value cycle (c.cut_beat.ensures.adds.grows.extends.valuations cycle v));
  rests = λ cycle v. c.in_ok-part.ensures.rests cycle v ∙ ap (shown_rest c.args.self.now.sizes) (c.in_ok-current.ensures.value cycle (c.cut_beat.ensures.adds.grows.extends.valuations cycle v));
}

pub returns-clause-own_wait : goal.returns-clause-own_wait
returns-clause-own_wait c n o = c.cut_beat.ensures.adds.grows.waits n (c.in_ok-current.ensures.registers.wait n o)

pub cut_beat-requires-clause-beat : goal.cut_beat-requires-clause-beat
cut_beat-requires-clause-beat c = c.in_ok-current.ensures.beat

pub cut_beat-requires-clause-word : goal.cut_beat-requires-clause-word
cut_beat-requires-clause-word c = c.in_ok-current.ensures.counted.word ∙ c.requires.widths.0

pub cut_beat-requires-clause-empty : goal.cut_beat-requires-clause-empty
cut_beat-requires-clause-empty c = c.in_ok-current.ensures.counted.empty

pub returns-in_err-current-clause-grows : goal.returns-in_err-current-clause-grows
returns-in_err-current-clause-grows c = grows_fewer _ _ _ _ (omega arith) c.show_current.ensures.grows

pub returns-in_err-part-clause-grows : goal.returns-in_err-part-clause-grows
returns-in_err-part-clause-grows c = grows_fewer _ _ _ _ (omega arith) (grows_twice _ _ _ _ _ c.show_current.ensures.grows (adds_grow _ _ _ c.cut_beat.ensures.adds))

pub returns-clause-grows : goal.returns-clause-grows
returns-clause-grows c = grows_fewer _ _ _ _ (omega arith) (grows_twice _ _ _ _ _ c.show_current.ensures.grows (adds_grow _ _ _ c.cut_beat.ensures.adds))

pub returns-in_err-part-clause-waits : goal.returns-in_err-part-clause-waits
returns-in_err-part-clause-waits c n w = c.cut_beat.ensures.adds.grows.waits n (c.show_current.ensures.still_wait n w)

pub returns-clause-waits : goal.returns-clause-waits
returns-clause-waits c n w = c.cut_beat.ensures.adds.grows.waits n (c.show_current.ensures.still_wait n w)

pub returns-clause-newly : goal.returns-clause-newly
returns-clause-newly c n w = c.in_ok-current.ensures.newly n (c.cut_beat.ensures.adds.grows.no_more_wait n w)

pub returns-in_err-current-clause-full : goal.returns-in_err-current-clause-full
returns-in_err-current-clause-full c room e = let full = c.show_current.ensures.full (handed_on _ _ _ _ c.in_err-current.was c.from_residual.ensures.1 e) in omega (arith, full)

pub returns-in_err-part-clause-full : goal.returns-in_err-part-clause-full
returns-in_err-part-clause-full c room e = let most0 = c.show_current.ensures.grows.most in let full = c.cut_beat.ensures.full (handed_on _ _ _ _ c.in_err-part.was c.from_residual-in_err-part.ensures.1 e) in omega (arith, most0, full)

pub returns-clause-full : goal.returns-clause-full
returns-clause-full c room e = cc
