use Rattle.std.proofs.Common.{◌+◌, ◌%◌, ◌^◌, refl, sym, ap, ◌∙◌, arith}
use Rattle.net_parts.specs.Laws.{net_lasts, extends_twice, adds_fewer, adds_twice, grows_once}
use Rattle.stage_core.specs.Lasting.{beat_lasts}
use Rattle.stage_core.specs.BeatLaws.{shown_same}
use Rattle.stage_core.specs.Refusing.{handed_on}
use Rattle.st_format.proofs.widen.gather_more.Goals as goal

pub returns-clause-filled : goal.returns-clause-filled
returns-clause-filled c =
    let later = (extends_twice _ _ _ c.constant.ensures.adds.grows.extends c.add.ensures.extends) in
    let more = extends_twice _ _ _ c.hold_word.ensures.adds.grows.extends later in
    let joined = beat_lasts _ _ _ more c.requires.joined in
    let none = beat_lasts _ _ _ more c.requires.none in
    record { valid = net_lasts _ _ _ _ more c.requires.coming; word = later.nets _ _ c.in_ok-word.ensures.net.is_net; channel = none.channel; error = joined.error; first = joined.first; last = none.last; empty = c.in_ok-empty.ensures.net.0 }

pub returns-clause-widths : goal.returns-clause-widths
returns-clause-widths c = record {
  valid = c.requires.coming.has_width ∙ sym c.requires.none.valid.has_width;
  word = c.in_ok-word.ensures.net.has_width ∙ sym c.requires.none_word;
  channel = refl;
  error = sym c.requires.none_error;
  first = c.requires.joined.first.has_width ∙ sym c.requires.none.first.has_width;
  last = refl;
  empty = c.in_ok-empty.ensures.net.1 ∙ (c.requires.held_empty ∙ sym c.requires.none_empty);
}

pub returns-clause-value : goal.returns-clause-value
returns-clause-value c cycle v3 =
    let v2 = c.add.ensures.extends.valuations cycle v3 in
    let v1 = c.constant.ensures.adds.grows.extends.valuations cycle v2 in
    let empty = (c.in_ok-empty.ensures.value cycle v3).1 ∙ ap (λ w. (cycle.net c.args.held.now.empty.number + cycle.net c.in_ok-symbols.symbols.number) % 2 ^ w) c.requires.held_empty ∙ ap (λ n. (cycle.net c.args.held.now.empty.number + n) % 2 ^ c.args.stage.now.sizes.count) (c.in_ok-symbols.ensures.value cycle v2) in
    shown_same _ _ refl (c.in_ok-word.ensures.value cycle v1) refl refl refl refl empty

pub add-requires-clause-a_is : goal.add-requires-clause-a_is
add-requires-clause-a_is c = (extends_twice _ _ _ c.hold_word.ensures.adds.grows.extends c.constant.ensures.adds.grows.extends).nets _ _ c.requires.held.empty

pub add-requires-clause-b_is : goal.add-requires-clause-b_is
add-requires-clause-b_is c = c.in_ok-symbols.ensures.net.is_net

pub returns-in_err-word-clause-adds : goal.returns-in_err-word-clause-adds
returns-in_err-word-clause-adds c = adds_fewer _ _ _ _ (omega arith) c.hold_word.ensures.adds

pub returns-in_err-symbols-clause-adds : goal.returns-in_err-symbols-clause-adds
returns-in_err-symbols-clause-adds c = adds_fewer _ _ _ _ (omega arith) (adds_twice _ _ _ _ _ c.hold_word.ensures.adds c.constant.ensures.adds)

pub returns-in_err-empty-clause-adds : goal.returns-in_err-empty-clause-adds
returns-in_err-empty-clause-adds c = adds_fewer _ _ _ _ (omega arith) (adds_twice _ _ _ _ _ (adds_twice _ _ _ _ _ c.hold_word.ensures.adds c.constant.ensures.adds) (grows_once _ _ c.add.ensures.extends c.add.ensures.grows))

pub returns-clause-adds : goal.returns-clause-adds
returns-clause-adds c = adds_fewer _ _ _ _ (omega arith) (adds_twice _ _ _ _ _ (adds_twice _ _ _ _ _ c.hold_word.ensures.adds c.constant.ensures.adds) (grows_once _ _ c.add.ensures.extends c.add.ensures.grows))

pub returns-in_err-word-clause-full : goal.returns-in_err-word-clause-full
returns-in_err-word-clause-full c e = let full = c.hold_word.ensures.full (handed_on _ _ _ _ c.in_err-word.was c.from_residual.ensures.1 e) in omega (arith, full)

pub returns-in_err-symbols-clause-full : goal.returns-in_err-symbols-clause-full
returns-in_err-symbols-clause-full c e = let most0 = c.hold_word.ensures.adds.most in let full = c.constant.ensures.full (handed_on _ _ _ _ c.in_err-symbols.was c.from_residual-in_err-symbols.ensures.1 e) in omega (arith, most0, full)

pub returns-in_err-empty-clause-full : goal.returns-in_err-empty-clause-full
returns-in_err-empty-clause-full c e = let most0 = c.hold_word.ensures.adds.most in let most1 = c.constant.ensures.adds.most in let full = c.add.ensures.full.0 (handed_on _ _ _ _ c.in_err-empty.was c.from_residual-in_err-empty.ensures.1 e) in omega (arith, most0, most1, full)

pub returns-clause-full : goal.returns-clause-full
returns-clause-full c e = cc
