use Rattle.std.proofs.Common.{◌==◌, ◌&&◌, sym, subst, ap, ◌∙◌, arith}
use Rattle.std.proofs.lemmas.Result.{IfOk-from_err}
use Rattle.stage_core.specs.declared.beat.BeatNets.{BeatNets}
use Rattle.stage_core.specs.Beats.{AreBeatNets}
use Rattle.stage_core.specs.Groups.{shown_in}
use Rattle.net_parts.specs.Laws.{net_lasts, extends_twice, grows_once, adds_twice, adds_fewer, bit_fits}
use Rattle.stage_core.specs.Lasting.{beat_lasts}
use Rattle.net_parts.specs.Bits.{high_and, chosen_high}
use Rattle.st_format.proofs.WidenLemmas.{joined_shown}
use Rattle.stage_core.specs.Refusing.{handed_on}
use Rattle.st_format.proofs.widen.join_beat.Goals as goal

pub or-requires-clause-a_is : goal.or-requires-clause-a_is
or-requires-clause-a_is c = (extends_twice _ _ _ c.join_word.ensures.adds.grows.extends (extends_twice _ _ _ c.join_empty.ensures.adds.grows.extends (extends_twice _ _ _ c.fills_up.ensures.adds.grows.extends c.and.ensures.extends))).nets _ _ c.requires.held.error

pub or-requires-clause-b_is : goal.or-requires-clause-b_is
or-requires-clause-b_is c = (extends_twice _ _ _ c.join_word.ensures.adds.grows.extends (extends_twice _ _ _ c.join_empty.ensures.adds.grows.extends (extends_twice _ _ _ c.fills_up.ensures.adds.grows.extends c.and.ensures.extends))).nets _ _ c.requires.from.error

pub mux-requires-clause-s_is : goal.mux-requires-clause-s_is
mux-requires-clause-s_is c = (extends_twice _ _ _ c.join_word.ensures.adds.grows.extends (extends_twice _ _ _ c.join_empty.ensures.adds.grows.extends (extends_twice _ _ _ c.fills_up.ensures.adds.grows.extends (extends_twice _ _ _ c.and.ensures.extends c.or.ensures.extends)))).nets _ _ c.requires.held.valid.is_net

pub mux-requires-clause-a_is : goal.mux-requires-clause-a_is
mux-requires-clause-a_is c = (extends_twice _ _ _ c.join_word.ensures.adds.grows.extends (extends_twice _ _ _ c.join_empty.ensures.adds.grows.extends (extends_twice _ _ _ c.fills_up.ensures.adds.grows.extends (extends_twice _ _ _ c.and.ensures.extends c.or.ensures.extends)))).nets _ _ c.requires.held.first.is_net

pub mux-requires-clause-b_is : goal.mux-requires-clause-b_is
mux-requires-clause-b_is c = (extends_twice _ _ _ c.join_word.ensures.adds.grows.extends (extends_twice _ _ _ c.join_empty.ensures.adds.grows.extends (extends_twice _ _ _ c.fills_up.ensures.adds.grows.extends (extends_twice _ _ _ c.and.ensures.extends c.or.ensures.extends)))).nets _ _ c.requires.from.first.is_net

pub returns-clause-beat : goal.returns-clause-beat
returns-clause-beat c =
    let more = (extends_twice _ _ _ c.join_word.ensures.adds.grows.extends (extends_twice _ _ _ c.join_empty.ensures.adds.grows.extends (extends_twice _ _ _ c.fills_up.ensures.adds.grows.extends (extends_twice _ _ _ c.and.ensures.extends (extends_twice _ _ _ c.or.ensures.extends c.mux.ensures.extends))))) in
    let base = subst (AreBeatNets c.mux.new.self) (sym c.copied.ensures) (beat_lasts _ _ _ more c.requires.from) in
    record {
      valid = net_lasts _ _ _ _ (extends_twice _ _ _ c.or.ensures.extends c.mux.ensures.extends) (record { is_net = c.in_ok-valid.ensures.net.0; has_width = c.in_ok-valid.ensures.net.1 ∙ c.requires.from.valid.has_width });
      word = (extends_twice _ _ _ c.join_empty.ensures.adds.grows.extends (extends_twice _ _ _ c.fills_up.ensures.adds.grows.extends (extends_twice _ _ _ c.and.ensures.extends (extends_twice _ _ _ c.or.ensures.extends c.mux.ensures.extends)))).nets _ _ c.in_ok-word.ensures.net.is_net;
      channel = base.channel;
      error = c.mux.ensures.extends.nets _ _ c.in_ok-error.ensures.net.0;
      first = record { is_net = c.in_ok-first.ensures.net.0; has_width = c.in_ok-first.ensures.net.1 ∙ c.requires.held.first.has_width };
      last = base.last;
      empty = (extends_twice _ _ _ c.fills_up.ensures.adds.grows.extends (extends_twice _ _ _ c.and.ensures.extends (extends_twice _ _ _ c.or.ensures.extends c.mux.ensures.extends))).nets _ _ c.in_ok-empty.ensures.net.is_net;
    }

pub returns-clause-value : goal.returns-clause-value
returns-clause-value c cycle v6 =
    let v5 = c.mux.ensures.extends.valuations cycle v6 in
    let v4 = c.or.ensures.extends.valuations cycle v5 in
    let v3 = c.and.ensures.extends.valuations cycle v4 in
    let v2 = c.fills_up.ensures.adds.grows.extends.valuations cycle v3 in
    let v1 = c.join_empty.ensures.adds.grows.extends.valuations cycle v2 in
    let v0 = c.join_word.ensures.adds.grows.extends.valuations cycle v1 in
    let full = c.in_ok-full.ensures.value cycle v3 in
    let gated = high_and (cycle.net c.args.from.now.valid.number) (cycle.net c.in_ok-full.full.number) (cycle.net c.in_ok-valid.valid.number) (bit_fits _ _ c.requires.from.valid cycle v0) (bit_fits _ _ c.in_ok-full.ensures.net cycle v3) (c.in_ok-valid.ensures.value cycle v4).1 in
    joined_shown c.args.stage.now (shown_in cycle c.copied.result) (shown_in cycle c.args.held.now) (shown_in cycle c.args.from.now) _ _ _ _ _ (ap (shown_in cycle) c.copied.ensures)
    (bit_fits _ _ (record { is_net = c.in_ok-valid.ensures.net.0; has_width = c.in_ok-valid.ensures.net.1 ∙ c.requires.from.valid.has_width }) cycle v4)
    (gated ∙ ap (λ t. (cycle.net c.args.from.now.valid.number == 1) && t) full) (c.in_ok-word.ensures.value cycle v1) (c.in_ok-error.ensures.value cycle v5).1
    ((c.in_ok-first.ensures.value cycle v6).1 ∙ chosen_high (cycle.net c.args.held.now.valid.number) _ _ (bit_fits _ _ c.requires.held.valid cycle v0)) (c.in_ok-empty.ensures.value cycle v2)

pub returns-in_err-error-clause-adds : goal.returns-in_err-error-clause-adds
returns-in_err-error-clause-adds c = adds_fewer _ _ _ _ (omega arith) (adds_twice _ _ _ _ _ (adds_twice _ _ _ _ _ (adds_twice _ _ _ _ _ (adds_twice _ _ _ _ _ c.join_word.ensures.adds c.join_empty.ensures.adds) c.fills_up.ensures.adds) (grows_once _ _ c.and.ensures.extends c.and.ensures.grows)) (grows_once _ _ c.or.ensures.extends c.or.ensures.grows))

pub returns-in_err-first-clause-adds : goal.returns-in_err-first-clause-adds
returns-in_err-first-clause-adds c = adds_fewer _ _ _ _ (omega arith) (adds_twice _ _ _ _ _ (adds_twice _ _ _ _ _ (adds_twice _ _ _ _ _ (adds_twice _ _ _ _ _ (adds_twice _ _ _ _ _ c.join_word.ensures.adds c.join_empty.ensures.adds) c.fills_up.ensures.adds) (grows_once _ _ c.and.ensures.extends c.and.ensures.grows)) (grows_once _ _ c.or.ensures.extends c.or.ensures.grows)) (grows_once _ _ c.mux.ensures.extends c.mux.ensures.grows))

pub returns-clause-adds : goal.returns-clause-adds
returns-clause-adds c = adds_fewer _ _ _ _ (omega arith) (adds_twice _ _ _ _ _ (adds_twice _ _ _ _ _ (adds_twice _ _ _ _ _ (adds_twice _ _ _ _ _ (adds_twice _ _ _ _ _ c.join_word.ensures.adds c.join_empty.ensures.adds) c.fills_up.ensures.adds) (grows_once _ _ c.and.ensures.extends c.and.ensures.grows)) (grows_once _ _ c.or.ensures.extends c.or.ensures.grows)) (grows_once _ _ c.mux.ensures.extends c.mux.ensures.grows))

pub fills_up-requires-clause-last : goal.fills_up-requires-clause-last
fills_up-requires-clause-last c = net_lasts _ _ _ _ (extends_twice _ _ _ c.join_word.ensures.adds.grows.extends c.join_empty.ensures.adds.grows.extends) c.requires.from.last

pub and-requires-clause-a_is : goal.and-requires-clause-a_is
and-requires-clause-a_is c = (extends_twice _ _ _ c.join_word.ensures.adds.grows.extends (extends_twice _ _ _ c.join_empty.ensures.adds.grows.extends c.fills_up.ensures.adds.grows.extends)).nets _ _ c.requires.from.valid.is_net

pub and-requires-clause-b_is : goal.and-requires-clause-b_is
and-requires-clause-b_is c = c.in_ok-full.ensures.net.is_net

pub and-requires-clause-widths : goal.and-requires-clause-widths
and-requires-clause-widths c = c.requires.from.valid.has_width ∙ sym c.in_ok-full.ensures.net.has_width

pub returns-in_err-word-clause-adds : goal.returns-in_err-word-clause-adds
returns-in_err-word-clause-adds c = adds_fewer _ _ _ _ (omega arith) c.join_word.ensures.adds

pub returns-in_err-empty-clause-adds : goal.returns-in_err-empty-clause-adds
returns-in_err-empty-clause-adds c = adds_fewer _ _ _ _ (omega arith) (adds_twice _ _ _ _ _ c.join_word.ensures.adds c.join_empty.ensures.adds)

pub returns-in_err-full-clause-adds : goal.returns-in_err-full-clause-adds
returns-in_err-full-clause-adds c = adds_fewer _ _ _ _ (omega arith) (adds_twice _ _ _ _ _ (adds_twice _ _ _ _ _ c.join_word.ensures.adds c.join_empty.ensures.adds) c.fills_up.ensures.adds)

pub returns-in_err-valid-clause-adds : goal.returns-in_err-valid-clause-adds
returns-in_err-valid-clause-adds c = adds_fewer _ _ _ _ (omega arith) (adds_twice _ _ _ _ _ (adds_twice _ _ _ _ _ (adds_twice _ _ _ _ _ c.join_word.ensures.adds c.join_empty.ensures.adds) c.fills_up.ensures.adds) (grows_once _ _ c.and.ensures.extends c.and.ensures.grows))

pub returns-in_err-word-clause-full : goal.returns-in_err-word-clause-full
returns-in_err-word-clause-full c e = let full = c.join_word.ensures.full (handed_on _ _ _ _ c.in_err-word.was c.from_residual.ensures.1 e) in omega (arith, full)

pub returns-in_err-empty-clause-full : goal.returns-in_err-empty-clause-full
returns-in_err-empty-clause-full c e = let most0 = c.join_word.ensures.adds.most in let full = c.join_empty.ensures.full (handed_on _ _ _ _ c.in_err-empty.was c.from_residual-in_err-empty.ensures.1 e) in omega (arith, most0, full)

pub returns-in_err-full-clause-full : goal.returns-in_err-full-clause-full
returns-in_err-full-clause-full c e = let most0 = c.join_word.ensures.adds.most in let most1 = c.join_empty.ensures.adds.most in let full = c.fills_up.ensures.full (handed_on _ _ _ _ c.in_err-full.was c.from_residual-in_err-full.ensures.1 e) in omega (arith, most0, most1, full)

pub returns-in_err-valid-clause-full : goal.returns-in_err-valid-clause-full
returns-in_err-valid-clause-full c e = let most0 = c.join_word.ensures.adds.most in let most1 = c.join_empty.ensures.adds.most in let most2 = c.fills_up.ensures.adds.most in let full = c.and.ensures.full.0 (handed_on _ _ _ _ c.in_err-valid.was c.from_residual-in_err-valid.ensures.1 e) in omega (arith, most0, most1, most2, full)

pub returns-in_err-error-clause-full : goal.returns-in_err-error-clause-full
returns-in_err-error-clause-full c e = let most0 = c.join_word.ensures.adds.most in let most1 = c.join_empty.ensures.adds.most in let most2 = c.fills_up.ensures.adds.most in let most3 = c.and.ensures.grows.most in let full = c.or.ensures.full.0 (handed_on _ _ _ _ c.in_err-error.was c.from_residual-in_err-error.ensures.1 e) in omega (arith, most0, most1, most2, most3, full)

pub returns-in_err-first-clause-full : goal.returns-in_err-first-clause-full
returns-in_err-first-clause-full c e = let most0 = c.join_word.ensures.adds.most in let most1 = c.join_empty.ensures.adds.most in let most2 = c.fills_up.ensures.adds.most in let most3 = c.and.ensures.grows.most in let most4 = c.or.ensures.grows.most in let full = c.mux.ensures.full.0 (handed_on _ _ _ _ c.in_err-first.was c.from_residual-in_err-first.ensures.1 e) in omega (arith, most0, most1, most2, most3, most4, full)

pub returns-clause-full : goal.returns-clause-full
returns-clause-full c e = cc

pub returns-in_err-word-clause-beat : goal.returns-in_err-word-clause-beat
returns-in_err-word-clause-beat c = IfOk-from_err _ _ c.from_residual.ensures.0

pub returns-in_err-word-clause-word : goal.returns-in_err-word-clause-word
returns-in_err-word-clause-word c = IfOk-from_err _ _ c.from_residual.ensures.0

pub returns-in_err-word-clause-channel : goal.returns-in_err-word-clause-channel
returns-in_err-word-clause-channel c = IfOk-from_err _ _ c.from_residual.ensures.0

pub returns-in_err-word-clause-error : goal.returns-in_err-word-clause-error
returns-in_err-word-clause-error c = IfOk-from_err _ _ c.from_residual.ensures.0

pub returns-in_err-word-clause-empty : goal.returns-in_err-word-clause-empty
returns-in_err-word-clause-empty c = IfOk-from_err _ _ c.from_residual.ensures.0

pub returns-in_err-word-clause-value : goal.returns-in_err-word-clause-value
returns-in_err-word-clause-value c = IfOk-from_err _ _ c.from_residual.ensures.0

pub returns-in_err-empty-clause-beat : goal.returns-in_err-empty-clause-beat
returns-in_err-empty-clause-beat c = IfOk-from_err _ _ c.from_residual-in_err-empty.ensures.0

pub returns-in_err-empty-clause-word : goal.returns-in_err-empty-clause-word
returns-in_err-empty-clause-word c = IfOk-from_err _ _ c.from_residual-in_err-empty.ensures.0

pub returns-in_err-empty-clause-channel : goal.returns-in_err-empty-clause-channel
returns-in_err-empty-clause-channel c = IfOk-from_err _ _ c.from_residual-in_err-empty.ensures.0

pub returns-in_err-empty-clause-error : goal.returns-in_err-empty-clause-error
returns-in_err-empty-clause-error c = IfOk-from_err _ _ c.from_residual-in_err-empty.ensures.0

pub returns-in_err-empty-clause-empty : goal.returns-in_err-empty-clause-empty
returns-in_err-empty-clause-empty c = IfOk-from_err _ _ c.from_residual-in_err-empty.ensures.0

pub returns-in_err-empty-clause-value : goal.returns-in_err-empty-clause-value
returns-in_err-empty-clause-value c = IfOk-from_err _ _ c.from_residual-in_err-empty.ensures.0

pub returns-in_err-full-clause-beat : goal.returns-in_err-full-clause-beat
returns-in_err-full-clause-beat c = IfOk-from_err _ _ c.from_residual-in_err-full.ensures.0

pub returns-in_err-full-clause-word : goal.returns-in_err-full-clause-word
returns-in_err-full-clause-word c = IfOk-from_err _ _ c.from_residual-in_err-full.ensures.0

pub returns-in_err-full-clause-channel : goal.returns-in_err-full-clause-channel
returns-in_err-full-clause-channel c = IfOk-from_err _ _ c.from_residual-in_err-full.ensures.0

pub returns-in_err-full-clause-error : goal.returns-in_err-full-clause-error
returns-in_err-full-clause-error c = IfOk-from_err _ _ c.from_residual-in_err-full.ensures.0

pub returns-in_err-full-clause-empty : goal.returns-in_err-full-clause-empty
returns-in_err-full-clause-empty c = IfOk-from_err _ _ c.from_residual-in_err-full.ensures.0

pub returns-in_err-full-clause-value : goal.returns-in_err-full-clause-value
returns-in_err-full-clause-value c = IfOk-from_err _ _ c.from_residual-in_err-full.ensures.0

pub returns-in_err-valid-clause-beat : goal.returns-in_err-valid-clause-beat
returns-in_err-valid-clause-beat c = IfOk-from_err _ _ c.from_residual-in_err-valid.ensures.0

pub returns-in_err-valid-clause-word : goal.returns-in_err-valid-clause-word
returns-in_err-valid-clause-word c = IfOk-from_err _ _ c.from_residual-in_err-valid.ensures.0

pub returns-in_err-valid-clause-channel : goal.returns-in_err-valid-clause-channel
returns-in_err-valid-clause-channel c = IfOk-from_err _ _ c.from_residual-in_err-valid.ensures.0

pub returns-in_err-valid-clause-error : goal.returns-in_err-valid-clause-error
returns-in_err-valid-clause-error c = IfOk-from_err _ _ c.from_residual-in_err-valid.ensures.0

pub returns-in_err-valid-clause-empty : goal.returns-in_err-valid-clause-empty
returns-in_err-valid-clause-empty c = IfOk-from_err _ _ c.from_residual-in_err-valid.ensures.0

pub returns-in_err-valid-clause-value : goal.returns-in_err-valid-clause-value
returns-in_err-valid-clause-value c = IfOk-from_err _ _ c.from_residual-in_err-valid.ensures.0

pub returns-in_err-error-clause-beat : goal.returns-in_err-error-clause-beat
returns-in_err-error-clause-beat c = IfOk-from_err _ _ c.from_residual-in_err-error.ensures.0

pub returns-in_err-error-clause-word : goal.returns-in_err-error-clause-word
returns-in_err-error-clause-word c = IfOk-from_err _ _ c.from_residual-in_err-error.ensures.0

pub returns-in_err-error-clause-channel : goal.returns-in_err-error-clause-channel
returns-in_err-error-clause-channel c = IfOk-from_err _ _ c.from_residual-in_err-error.ensures.0

pub returns-in_err-error-clause-error : goal.returns-in_err-error-clause-error
returns-in_err-error-clause-error c = IfOk-from_err _ _ c.from_residual-in_err-error.ensures.0

pub returns-in_err-error-clause-empty : goal.returns-in_err-error-clause-empty
returns-in_err-error-clause-empty c = IfOk-from_err _ _ c.from_residual-in_err-error.ensures.0

pub returns-in_err-error-clause-value : goal.returns-in_err-error-clause-value
returns-in_err-error-clause-value c = IfOk-from_err _ _ c.from_residual-in_err-error.ensures.0

pub returns-in_err-first-clause-beat : goal.returns-in_err-first-clause-beat
returns-in_err-first-clause-beat c = IfOk-from_err _ _ c.from_residual-in_err-first.ensures.0

pub returns-in_err-first-clause-word : goal.returns-in_err-first-clause-word
returns-in_err-first-clause-word c = IfOk-from_err _ _ c.from_residual-in_err-first.ensures.0

pub returns-in_err-first-clause-channel : goal.returns-in_err-first-clause-channel
returns-in_err-first-clause-channel c = IfOk-from_err _ _ c.from_residual-in_err-first.ensures.0

pub returns-in_err-first-clause-error : goal.returns-in_err-first-clause-error
returns-in_err-first-clause-error c = IfOk-from_err _ _ c.from_residual-in_err-first.ensures.0

pub returns-in_err-first-clause-empty : goal.returns-in_err-first-clause-empty
returns-in_err-first-clause-empty c = IfOk-from_err _ _ c.from_residual-in_err-first.ensures.0

pub returns-in_err-first-clause-value : goal.returns-in_err-first-clause-value
returns-in_err-first-clause-value c = IfOk-from_err _ _ c.from_residual-in_err-first.ensures.0

pub join_word-requires-clause-held : goal.join_word-requires-clause-held
join_word-requires-clause-held c = record { is_net = c.requires.held.word; has_width = c.requires.held_word }

pub join_word-requires-clause-coming : goal.join_word-requires-clause-coming
join_word-requires-clause-coming c = record { is_net = c.requires.from.word; has_width = c.requires.from_word }

pub join_word-requires-clause-gathered : goal.join_word-requires-clause-gathered
join_word-requires-clause-gathered c = record { is_net = c.requires.held.empty; has_width = c.requires.held_empty }

pub join_empty-requires-clause-gathered : goal.join_empty-requires-clause-gathered
join_empty-requires-clause-gathered c = net_lasts _ _ _ _ c.join_word.ensures.adds.grows.extends (record { is_net = c.requires.held.empty; has_width = c.requires.held_empty })

pub join_empty-requires-clause-empty : goal.join_empty-requires-clause-empty
join_empty-requires-clause-empty c = c.join_word.ensures.adds.grows.extends.nets _ _ c.requires.from.empty

pub fills_up-requires-clause-gathered : goal.fills_up-requires-clause-gathered
fills_up-requires-clause-gathered c = net_lasts _ _ _ _ (extends_twice _ _ _ c.join_word.ensures.adds.grows.extends c.join_empty.ensures.adds.grows.extends) (record { is_net = c.requires.held.empty; has_width = c.requires.held_empty })

pub or-requires-clause-widths : goal.or-requires-clause-widths
or-requires-clause-widths c = c.requires.held_error

pub mux-requires-clause-one_bit : goal.mux-requires-clause-one_bit
mux-requires-clause-one_bit c = c.requires.held.valid.has_width

pub mux-requires-clause-widths : goal.mux-requires-clause-widths
mux-requires-clause-widths c = c.requires.held.first.has_width ∙ sym c.requires.from.first.has_width

pub returns-clause-word : goal.returns-clause-word
returns-clause-word c = c.in_ok-word.ensures.net.has_width

pub returns-clause-channel : goal.returns-clause-channel
returns-clause-channel c = ap (λ (b : BeatNets). b.channel.width) c.copied.ensures

pub returns-clause-error : goal.returns-clause-error
returns-clause-error c = c.in_ok-error.ensures.net.1 ∙ c.requires.held_error

pub returns-clause-empty : goal.returns-clause-empty
returns-clause-empty c = c.in_ok-empty.ensures.net.has_width
