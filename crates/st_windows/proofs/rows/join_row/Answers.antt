use Rattle.std.proofs.Common.{◌-◌, ◌==◌, ◌&&◌, ◌||◌, ◌∙◌, nat_lt, sym, subst, ap, arith}
use Rattle.net_parts.specs.Laws.{net_lasts, extends_twice, grows_once, adds_twice, adds_fewer, bit_fits}
use Rattle.net_parts.specs.Bits.{high_and}
use Rattle.net_parts.specs.Refusing.{handed_on}
use Rattle.stage_core.specs.Beats.{AreBeatNets}
use Rattle.stage_core.specs.Groups.{shown_in}
use Rattle.stage_core.specs.declared.beat.BeatNets.{BeatNets}
use Rattle.stage_core.specs.Lasting.{beat_lasts}
use Rattle.st_windows.proofs.CountNets.{joined_shown}
use Rattle.st_windows.proofs.rows.join_row.Goals as goal

pub returns-clause-row : goal.returns-clause-row
returns-clause-row c =
    let base = subst (AreBeatNets c.mux.new.self) (sym c.copied.ensures) (beat_lasts _ _ _ (extends_twice _ _ _ c.count_joined.ensures.adds.grows.extends (extends_twice _ _ _ c.makes_beat.ensures.adds.grows.extends (extends_twice _ _ _ c.and.ensures.extends (extends_twice _ _ _ c.or.ensures.extends (extends_twice _ _ _ c.constant.ensures.adds.grows.extends (extends_twice _ _ _ c.eq.ensures.extends c.mux.ensures.extends)))))) c.requires.from) in
    record {
      valid = net_lasts _ _ _ _ (extends_twice _ _ _ c.or.ensures.extends (extends_twice _ _ _ c.constant.ensures.adds.grows.extends (extends_twice _ _ _ c.eq.ensures.extends c.mux.ensures.extends))) (record { is_net = c.in_ok-valid.ensures.net.0; has_width = c.in_ok-valid.ensures.net.1 ∙ c.requires.from.valid.has_width });
      word = (extends_twice _ _ _ c.count_joined.ensures.adds.grows.extends (extends_twice _ _ _ c.makes_beat.ensures.adds.grows.extends (extends_twice _ _ _ c.and.ensures.extends (extends_twice _ _ _ c.or.ensures.extends (extends_twice _ _ _ c.constant.ensures.adds.grows.extends (extends_twice _ _ _ c.eq.ensures.extends c.mux.ensures.extends)))))).nets _ _ c.requires.word.is_net;
      channel = base.channel;
      error = (extends_twice _ _ _ c.constant.ensures.adds.grows.extends (extends_twice _ _ _ c.eq.ensures.extends c.mux.ensures.extends)).nets _ _ c.in_ok-error.ensures.net.0;
      first = record { is_net = c.in_ok-first.ensures.net.0; has_width = c.in_ok-first.ensures.net.1 ∙ c.requires.from.first.has_width };
      last = base.last;
      empty = (extends_twice _ _ _ c.makes_beat.ensures.adds.grows.extends (extends_twice _ _ _ c.and.ensures.extends (extends_twice _ _ _ c.or.ensures.extends (extends_twice _ _ _ c.constant.ensures.adds.grows.extends (extends_twice _ _ _ c.eq.ensures.extends c.mux.ensures.extends))))).nets _ _ c.in_ok-count.ensures.net.is_net;
    }

pub returns-clause-widths : goal.returns-clause-widths
returns-clause-widths c =
    record {
      word = c.requires.word.has_width;
      channel = ap (λ (n : BeatNets). n.channel.width) c.copied.ensures;
      error = c.in_ok-error.ensures.net.1 ∙ c.requires.held_widths.error;
      empty = c.in_ok-count.ensures.net.has_width;
    }

pub returns-clause-value : goal.returns-clause-value
returns-clause-value c cycle v7 =
    let v6 = c.mux.ensures.extends.valuations cycle v7 in
    let v5 = c.eq.ensures.extends.valuations cycle v6 in
    let v4 = c.constant.ensures.adds.grows.extends.valuations cycle v5 in
    let v3 = c.or.ensures.extends.valuations cycle v4 in
    let v2 = c.and.ensures.extends.valuations cycle v3 in
    let v1 = c.makes_beat.ensures.adds.grows.extends.valuations cycle v2 in
    let v0 = c.count_joined.ensures.adds.grows.extends.valuations cycle v1 in
    let gated = high_and (cycle.net c.args.from.now.valid.number) (cycle.net c.in_ok-whole.whole.number) (cycle.net c.in_ok-valid.valid.number) (bit_fits _ _ c.requires.from.valid cycle v0) (bit_fits _ _ c.in_ok-whole.ensures.net cycle v2) (c.in_ok-valid.ensures.value cycle v3).1 in
    let counted = c.in_ok-count.ensures.value cycle v1 in
    joined_shown c.args.sizes.now (shown_in cycle c.copied.result) (shown_in cycle c.args.held.now) (shown_in cycle c.args.from.now) _ _ _ _ _ _ _ (ap (shown_in cycle) c.copied.ensures) (bit_fits _ _ (record { is_net = c.in_ok-valid.ensures.net.0; has_width = c.in_ok-valid.ensures.net.1 ∙ c.requires.from.valid.has_width }) cycle v3)
    (gated ∙ ap (λ t. (cycle.net c.args.from.now.valid.number == 1) && t) (c.in_ok-whole.ensures.value cycle v2 ∙ ap (λ n. nat_lt (c.args.sizes.now.into - 1) n || (cycle.net c.args.from.now.last.number == 1)) counted))
    (c.in_ok-error.ensures.value cycle v4).1 (c.in_ok-none.ensures.value cycle v5) (c.in_ok-starts.ensures.value cycle v6).1 (c.in_ok-first.ensures.value cycle v7).1 counted

pub returns-in_err-count-clause-adds : goal.returns-in_err-count-clause-adds
returns-in_err-count-clause-adds c = adds_fewer _ _ _ _ (omega arith) c.count_joined.ensures.adds

pub returns-in_err-whole-clause-adds : goal.returns-in_err-whole-clause-adds
returns-in_err-whole-clause-adds c = adds_fewer _ _ _ _ (omega arith) (adds_twice _ _ _ _ _ c.count_joined.ensures.adds c.makes_beat.ensures.adds)

pub returns-in_err-valid-clause-adds : goal.returns-in_err-valid-clause-adds
returns-in_err-valid-clause-adds c = adds_fewer _ _ _ _ (omega arith) (adds_twice _ _ _ _ _ (adds_twice _ _ _ _ _ c.count_joined.ensures.adds c.makes_beat.ensures.adds) (grows_once _ _ c.and.ensures.extends c.and.ensures.grows))

pub returns-in_err-error-clause-adds : goal.returns-in_err-error-clause-adds
returns-in_err-error-clause-adds c = adds_fewer _ _ _ _ (omega arith) (adds_twice _ _ _ _ _ (adds_twice _ _ _ _ _ (adds_twice _ _ _ _ _ c.count_joined.ensures.adds c.makes_beat.ensures.adds) (grows_once _ _ c.and.ensures.extends c.and.ensures.grows)) (grows_once _ _ c.or.ensures.extends c.or.ensures.grows))

pub returns-in_err-none-clause-adds : goal.returns-in_err-none-clause-adds
returns-in_err-none-clause-adds c = adds_fewer _ _ _ _ (omega arith) (adds_twice _ _ _ _ _ (adds_twice _ _ _ _ _ (adds_twice _ _ _ _ _ (adds_twice _ _ _ _ _ c.count_joined.ensures.adds c.makes_beat.ensures.adds) (grows_once _ _ c.and.ensures.extends c.and.ensures.grows)) (grows_once _ _ c.or.ensures.extends c.or.ensures.grows)) c.constant.ensures.adds)

pub returns-in_err-starts-clause-adds : goal.returns-in_err-starts-clause-adds
returns-in_err-starts-clause-adds c = adds_fewer _ _ _ _ (omega arith) (adds_twice _ _ _ _ _ (adds_twice _ _ _ _ _ (adds_twice _ _ _ _ _ (adds_twice _ _ _ _ _ (adds_twice _ _ _ _ _ c.count_joined.ensures.adds c.makes_beat.ensures.adds) (grows_once _ _ c.and.ensures.extends c.and.ensures.grows)) (grows_once _ _ c.or.ensures.extends c.or.ensures.grows)) c.constant.ensures.adds) (grows_once _ _ c.eq.ensures.extends c.eq.ensures.grows))

pub returns-in_err-first-clause-adds : goal.returns-in_err-first-clause-adds
returns-in_err-first-clause-adds c = adds_fewer _ _ _ _ (omega arith) (adds_twice _ _ _ _ _ (adds_twice _ _ _ _ _ (adds_twice _ _ _ _ _ (adds_twice _ _ _ _ _ (adds_twice _ _ _ _ _ (adds_twice _ _ _ _ _ c.count_joined.ensures.adds c.makes_beat.ensures.adds) (grows_once _ _ c.and.ensures.extends c.and.ensures.grows)) (grows_once _ _ c.or.ensures.extends c.or.ensures.grows)) c.constant.ensures.adds) (grows_once _ _ c.eq.ensures.extends c.eq.ensures.grows)) (grows_once _ _ c.mux.ensures.extends c.mux.ensures.grows))

pub returns-clause-adds : goal.returns-clause-adds
returns-clause-adds c = adds_fewer _ _ _ _ (omega arith) (adds_twice _ _ _ _ _ (adds_twice _ _ _ _ _ (adds_twice _ _ _ _ _ (adds_twice _ _ _ _ _ (adds_twice _ _ _ _ _ (adds_twice _ _ _ _ _ c.count_joined.ensures.adds c.makes_beat.ensures.adds) (grows_once _ _ c.and.ensures.extends c.and.ensures.grows)) (grows_once _ _ c.or.ensures.extends c.or.ensures.grows)) c.constant.ensures.adds) (grows_once _ _ c.eq.ensures.extends c.eq.ensures.grows)) (grows_once _ _ c.mux.ensures.extends c.mux.ensures.grows))

pub returns-in_err-count-clause-full : goal.returns-in_err-count-clause-full
returns-in_err-count-clause-full c e = let full = c.count_joined.ensures.full (handed_on _ _ _ _ c.in_err-count.was c.from_residual.ensures.1 e) in omega (arith, full)

pub returns-in_err-whole-clause-full : goal.returns-in_err-whole-clause-full
returns-in_err-whole-clause-full c e = let most0 = c.count_joined.ensures.adds.most in let full = c.makes_beat.ensures.full (handed_on _ _ _ _ c.in_err-whole.was c.from_residual-in_err-whole.ensures.1 e) in omega (arith, most0, full)

pub returns-in_err-valid-clause-full : goal.returns-in_err-valid-clause-full
returns-in_err-valid-clause-full c e = let most0 = c.count_joined.ensures.adds.most in let most1 = c.makes_beat.ensures.adds.most in let full = c.and.ensures.full.0 (handed_on _ _ _ _ c.in_err-valid.was c.from_residual-in_err-valid.ensures.1 e) in omega (arith, most0, most1, full)

pub returns-in_err-error-clause-full : goal.returns-in_err-error-clause-full
returns-in_err-error-clause-full c e = let most0 = c.count_joined.ensures.adds.most in let most1 = c.makes_beat.ensures.adds.most in let most2 = c.and.ensures.grows.most in let full = c.or.ensures.full.0 (handed_on _ _ _ _ c.in_err-error.was c.from_residual-in_err-error.ensures.1 e) in omega (arith, most0, most1, most2, full)

pub returns-in_err-none-clause-full : goal.returns-in_err-none-clause-full
returns-in_err-none-clause-full c e = let most0 = c.count_joined.ensures.adds.most in let most1 = c.makes_beat.ensures.adds.most in let most2 = c.and.ensures.grows.most in let most3 = c.or.ensures.grows.most in let full = c.constant.ensures.full (handed_on _ _ _ _ c.in_err-none.was c.from_residual-in_err-none.ensures.1 e) in omega (arith, most0, most1, most2, most3, full)

pub returns-in_err-starts-clause-full : goal.returns-in_err-starts-clause-full
returns-in_err-starts-clause-full c e = let most0 = c.count_joined.ensures.adds.most in let most1 = c.makes_beat.ensures.adds.most in let most2 = c.and.ensures.grows.most in let most3 = c.or.ensures.grows.most in let most4 = c.constant.ensures.adds.most in let full = c.eq.ensures.full.0 (handed_on _ _ _ _ c.in_err-starts.was c.from_residual-in_err-starts.ensures.1 e) in omega (arith, most0, most1, most2, most3, most4, full)

pub returns-in_err-first-clause-full : goal.returns-in_err-first-clause-full
returns-in_err-first-clause-full c e = let most0 = c.count_joined.ensures.adds.most in let most1 = c.makes_beat.ensures.adds.most in let most2 = c.and.ensures.grows.most in let most3 = c.or.ensures.grows.most in let most4 = c.constant.ensures.adds.most in let most5 = c.eq.ensures.grows.most in let full = c.mux.ensures.full.0 (handed_on _ _ _ _ c.in_err-first.was c.from_residual-in_err-first.ensures.1 e) in omega (arith, most0, most1, most2, most3, most4, most5, full)

pub returns-clause-full : goal.returns-clause-full
returns-clause-full c e = cc

pub count_joined-requires-clause-held : goal.count_joined-requires-clause-held
count_joined-requires-clause-held c = record { is_net = c.requires.held.empty; has_width = c.requires.held_widths.empty }

pub makes_beat-requires-clause-last : goal.makes_beat-requires-clause-last
makes_beat-requires-clause-last c = net_lasts _ _ _ _ c.count_joined.ensures.adds.grows.extends c.requires.from.last

pub and-requires-clause-a_is : goal.and-requires-clause-a_is
and-requires-clause-a_is c = (extends_twice _ _ _ c.count_joined.ensures.adds.grows.extends c.makes_beat.ensures.adds.grows.extends).nets _ _ c.requires.from.valid.is_net

pub and-requires-clause-b_is : goal.and-requires-clause-b_is
and-requires-clause-b_is c = c.in_ok-whole.ensures.net.is_net

pub and-requires-clause-widths : goal.and-requires-clause-widths
and-requires-clause-widths c = c.requires.from.valid.has_width ∙ sym c.in_ok-whole.ensures.net.has_width

pub or-requires-clause-a_is : goal.or-requires-clause-a_is
or-requires-clause-a_is c = (extends_twice _ _ _ c.count_joined.ensures.adds.grows.extends (extends_twice _ _ _ c.makes_beat.ensures.adds.grows.extends c.and.ensures.extends)).nets _ _ c.requires.held.error

pub or-requires-clause-b_is : goal.or-requires-clause-b_is
or-requires-clause-b_is c = (extends_twice _ _ _ c.count_joined.ensures.adds.grows.extends (extends_twice _ _ _ c.makes_beat.ensures.adds.grows.extends c.and.ensures.extends)).nets _ _ c.requires.from.error

pub or-requires-clause-widths : goal.or-requires-clause-widths
or-requires-clause-widths c = c.requires.held_widths.error

pub eq-requires-clause-a_is : goal.eq-requires-clause-a_is
eq-requires-clause-a_is c = (extends_twice _ _ _ c.count_joined.ensures.adds.grows.extends (extends_twice _ _ _ c.makes_beat.ensures.adds.grows.extends (extends_twice _ _ _ c.and.ensures.extends (extends_twice _ _ _ c.or.ensures.extends c.constant.ensures.adds.grows.extends)))).nets _ _ c.requires.held.empty

pub eq-requires-clause-b_is : goal.eq-requires-clause-b_is
eq-requires-clause-b_is c = c.in_ok-none.ensures.net.is_net

pub eq-requires-clause-widths : goal.eq-requires-clause-widths
eq-requires-clause-widths c = c.requires.held_widths.empty ∙ sym c.in_ok-none.ensures.net.has_width

pub mux-requires-clause-s_is : goal.mux-requires-clause-s_is
mux-requires-clause-s_is c = c.in_ok-starts.ensures.net.0

pub mux-requires-clause-a_is : goal.mux-requires-clause-a_is
mux-requires-clause-a_is c = (extends_twice _ _ _ c.count_joined.ensures.adds.grows.extends (extends_twice _ _ _ c.makes_beat.ensures.adds.grows.extends (extends_twice _ _ _ c.and.ensures.extends (extends_twice _ _ _ c.or.ensures.extends (extends_twice _ _ _ c.constant.ensures.adds.grows.extends c.eq.ensures.extends))))).nets _ _ c.requires.from.first.is_net

pub mux-requires-clause-b_is : goal.mux-requires-clause-b_is
mux-requires-clause-b_is c = (extends_twice _ _ _ c.count_joined.ensures.adds.grows.extends (extends_twice _ _ _ c.makes_beat.ensures.adds.grows.extends (extends_twice _ _ _ c.and.ensures.extends (extends_twice _ _ _ c.or.ensures.extends (extends_twice _ _ _ c.constant.ensures.adds.grows.extends c.eq.ensures.extends))))).nets _ _ c.requires.held.first.is_net

pub mux-requires-clause-widths : goal.mux-requires-clause-widths
mux-requires-clause-widths c = c.requires.from.first.has_width ∙ sym c.requires.held.first.has_width
