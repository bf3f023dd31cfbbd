use Rattle.std.proofs.Common.{◌+◌, ◌%◌, ◌^◌, sym, subst, ap, ◌∙◌, arith}
use Rattle.stage_core.specs.Beats.{AreBeatNets}
use Rattle.stage_core.specs.declared.beat.BeatNets.{BeatNets}
use Rattle.stage_core.specs.Groups.{shown_in}
use Rattle.stage_core.specs.Lasting.{beat_lasts}
use Rattle.net_parts.specs.Laws.{net_lasts, extends_twice, grows_once, adds_twice, adds_fewer, bit_fits}
use Rattle.st_format.proofs.NarrowLemmas.{rest_shown}
use Rattle.stage_core.specs.Refusing.{handed_on}
use Rattle.st_format.proofs.narrow.leave_rest.Goals as goal

pub returns-clause-rest : goal.returns-clause-rest
returns-clause-rest c =
    let more = (extends_twice _ _ _ c.rest_word.ensures.adds.grows.extends (extends_twice _ _ _ c.constant.ensures.adds.grows.extends (extends_twice _ _ _ c.constant-2.ensures.adds.grows.extends c.add.ensures.extends))) in
    let base = subst (AreBeatNets c.add.new.self) (sym c.copied.ensures) (beat_lasts _ _ _ more c.requires.beat) in
    record { valid = net_lasts _ _ _ _ more c.requires.more; word = (extends_twice _ _ _ c.constant.ensures.adds.grows.extends (extends_twice _ _ _ c.constant-2.ensures.adds.grows.extends c.add.ensures.extends)).nets _ _ c.in_ok-word.ensures.net.is_net; channel = base.channel; error = base.error; first = net_lasts _ _ _ _ (extends_twice _ _ _ c.constant-2.ensures.adds.grows.extends c.add.ensures.extends) c.in_ok-first.ensures.net; last = base.last; empty = c.in_ok-empty.ensures.net.0 }

pub returns-clause-widths : goal.returns-clause-widths
returns-clause-widths c =
    let same = c.copied.ensures in
    record {
      word = c.in_ok-word.ensures.net.has_width;
      channel = ap (λ (n : BeatNets). n.channel.width) same;
      error = ap (λ (n : BeatNets). n.error.width) same;
      empty = c.in_ok-empty.ensures.net.1;
    }

pub returns-clause-value : goal.returns-clause-value
returns-clause-value c cycle v4 =
    let v3 = c.add.ensures.extends.valuations cycle v4 in
    let v2 = c.constant-2.ensures.adds.grows.extends.valuations cycle v3 in
    let v1 = c.constant.ensures.adds.grows.extends.valuations cycle v2 in
    let v0 = c.rest_word.ensures.adds.grows.extends.valuations cycle v1 in
    rest_shown c.args.sizes.now (shown_in cycle c.copied.result) (shown_in cycle c.args.beat.now) (cycle.net c.args.more.number) _ _ _ (ap (shown_in cycle) c.copied.ensures) (bit_fits _ _ c.requires.more cycle v0) (c.requires.follows cycle v0)
    (c.in_ok-word.ensures.value cycle v1) (c.in_ok-first.ensures.value cycle v2)
    ((c.in_ok-empty.ensures.value cycle v4).1 ∙ ap (λ w. (cycle.net c.args.beat.now.empty.number + cycle.net c.in_ok-gone.gone.number) % 2 ^ w) c.requires.empty ∙ ap (λ n. (cycle.net c.args.beat.now.empty.number + n) % 2 ^ c.args.sizes.now.count) (c.in_ok-gone.ensures.value cycle v3))

pub returns-clause-adds : goal.returns-clause-adds
returns-clause-adds c = adds_fewer _ _ _ _ (omega arith) (adds_twice _ _ _ _ _ (adds_twice _ _ _ _ _ (adds_twice _ _ _ _ _ c.rest_word.ensures.adds c.constant.ensures.adds) c.constant-2.ensures.adds) (grows_once _ _ c.add.ensures.extends c.add.ensures.grows))

pub add-requires-clause-a_is : goal.add-requires-clause-a_is
add-requires-clause-a_is c = (extends_twice _ _ _ c.rest_word.ensures.adds.grows.extends (extends_twice _ _ _ c.constant.ensures.adds.grows.extends c.constant-2.ensures.adds.grows.extends)).nets _ _ c.requires.beat.empty

pub add-requires-clause-b_is : goal.add-requires-clause-b_is
add-requires-clause-b_is c = c.in_ok-gone.ensures.net.is_net

pub add-requires-clause-widths : goal.add-requires-clause-widths
add-requires-clause-widths c = c.requires.empty ∙ sym c.in_ok-gone.ensures.net.has_width

pub returns-in_err-word-clause-adds : goal.returns-in_err-word-clause-adds
returns-in_err-word-clause-adds c = adds_fewer _ _ _ _ (omega arith) c.rest_word.ensures.adds

pub returns-in_err-first-clause-adds : goal.returns-in_err-first-clause-adds
returns-in_err-first-clause-adds c = adds_fewer _ _ _ _ (omega arith) (adds_twice _ _ _ _ _ c.rest_word.ensures.adds c.constant.ensures.adds)

pub returns-in_err-gone-clause-adds : goal.returns-in_err-gone-clause-adds
returns-in_err-gone-clause-adds c = adds_fewer _ _ _ _ (omega arith) (adds_twice _ _ _ _ _ (adds_twice _ _ _ _ _ c.rest_word.ensures.adds c.constant.ensures.adds) c.constant-2.ensures.adds)

pub returns-in_err-empty-clause-adds : goal.returns-in_err-empty-clause-adds
returns-in_err-empty-clause-adds c = adds_fewer _ _ _ _ (omega arith) (adds_twice _ _ _ _ _ (adds_twice _ _ _ _ _ (adds_twice _ _ _ _ _ c.rest_word.ensures.adds c.constant.ensures.adds) c.constant-2.ensures.adds) (grows_once _ _ c.add.ensures.extends c.add.ensures.grows))

pub returns-in_err-word-clause-full : goal.returns-in_err-word-clause-full
returns-in_err-word-clause-full c e = let full = c.rest_word.ensures.full (handed_on _ _ _ _ c.in_err-word.was c.from_residual.ensures.1 e) in omega (arith, full)

pub returns-in_err-first-clause-full : goal.returns-in_err-first-clause-full
returns-in_err-first-clause-full c e = let most0 = c.rest_word.ensures.adds.most in let full = c.constant.ensures.full (handed_on _ _ _ _ c.in_err-first.was c.from_residual-in_err-first.ensures.1 e) in omega (arith, most0, full)

pub returns-in_err-gone-clause-full : goal.returns-in_err-gone-clause-full
returns-in_err-gone-clause-full c e = let most0 = c.rest_word.ensures.adds.most in let most1 = c.constant.ensures.adds.most in let full = c.constant-2.ensures.full (handed_on _ _ _ _ c.in_err-gone.was c.from_residual-in_err-gone.ensures.1 e) in omega (arith, most0, most1, full)

pub returns-in_err-empty-clause-full : goal.returns-in_err-empty-clause-full
returns-in_err-empty-clause-full c e = let most0 = c.rest_word.ensures.adds.most in let most1 = c.constant.ensures.adds.most in let most2 = c.constant-2.ensures.adds.most in let full = c.add.ensures.full.0 (handed_on _ _ _ _ c.in_err-empty.was c.from_residual-in_err-empty.ensures.1 e) in omega (arith, most0, most1, most2, full)

pub returns-clause-full : goal.returns-clause-full
returns-clause-full c e = cc
