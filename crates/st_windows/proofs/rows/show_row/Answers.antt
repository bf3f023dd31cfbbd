use Rattle.std.proofs.Common.{◌∙◌, sym, subst, ap, arith}
use Rattle.net_parts.specs.Laws.{net_lasts, extends_twice, grows_once, adds_twice, adds_fewer}
use Rattle.net_parts.specs.Refusing.{handed_on}
use Rattle.stage_core.specs.Beats.{AreBeatNets}
use Rattle.stage_core.specs.Groups.{shown_in}
use Rattle.stage_core.specs.declared.beat.BeatNets.{BeatNets}
use Rattle.stage_core.specs.Lasting.{beat_lasts}
use Rattle.st_windows.proofs.CountNets.{front_shown}
use Rattle.st_windows.proofs.rows.show_row.Goals as goal

pub returns-clause-beat : goal.returns-clause-beat
returns-clause-beat c =
    let base = subst (AreBeatNets c.sub.new.self) (sym c.copied.ensures) (beat_lasts _ _ _ (extends_twice _ _ _ c.level.ensures.adds.grows.extends (extends_twice _ _ _ c.mux.ensures.extends (extends_twice _ _ _ c.constant.ensures.adds.grows.extends c.sub.ensures.extends))) c.requires.row) in
    record {
      valid = base.valid;
      word = base.word;
      channel = base.channel;
      error = base.error;
      first = base.first;
      last = net_lasts _ _ _ _ (extends_twice _ _ _ c.constant.ensures.adds.grows.extends c.sub.ensures.extends) (record { is_net = c.in_ok-last.ensures.net.0; has_width = c.in_ok-last.ensures.net.1 ∙ c.in_ok-low.ensures.net.has_width });
      empty = c.in_ok-empty.ensures.net.0;
    }

pub returns-clause-widths : goal.returns-clause-widths
returns-clause-widths c =
    let same = c.copied.ensures in
    record {
      valid = ap (λ (n : BeatNets). n.valid.width) same;
      word = ap (λ (n : BeatNets). n.word.width) same;
      channel = ap (λ (n : BeatNets). n.channel.width) same;
      error = ap (λ (n : BeatNets). n.error.width) same;
      first = ap (λ (n : BeatNets). n.first.width) same;
      last = c.in_ok-last.ensures.net.1 ∙ c.in_ok-low.ensures.net.has_width ∙ sym c.requires.row.last.has_width;
      empty = c.in_ok-empty.ensures.net.1 ∙ c.in_ok-size.ensures.net.has_width ∙ sym c.requires.empty;
    }

pub returns-clause-value : goal.returns-clause-value
returns-clause-value c cycle v4 =
    let v3 = c.sub.ensures.extends.valuations cycle v4 in
    let v2 = c.constant.ensures.adds.grows.extends.valuations cycle v3 in
    let v1 = c.mux.ensures.extends.valuations cycle v2 in
    let v0 = c.level.ensures.adds.grows.extends.valuations cycle v1 in
    front_shown c.args.sizes.now (shown_in cycle c.copied.result) (shown_in cycle c.args.row.now) (cycle.net c.args.more.number) _ _ _ _ _ (ap (shown_in cycle) c.copied.ensures) (c.requires.is_more cycle v0) (c.in_ok-low.ensures.value cycle v1) (c.in_ok-last.ensures.value cycle v2).1 c.in_ok-size.ensures.net.has_width (c.in_ok-size.ensures.value cycle v3) (c.in_ok-empty.ensures.value cycle v4).1

pub returns-in_err-low-clause-adds : goal.returns-in_err-low-clause-adds
returns-in_err-low-clause-adds c = adds_fewer _ _ _ _ (omega arith) c.level.ensures.adds

pub returns-in_err-last-clause-adds : goal.returns-in_err-last-clause-adds
returns-in_err-last-clause-adds c = adds_fewer _ _ _ _ (omega arith) (adds_twice _ _ _ _ _ c.level.ensures.adds (grows_once _ _ c.mux.ensures.extends c.mux.ensures.grows))

pub returns-in_err-size-clause-adds : goal.returns-in_err-size-clause-adds
returns-in_err-size-clause-adds c = adds_fewer _ _ _ _ (omega arith) (adds_twice _ _ _ _ _ (adds_twice _ _ _ _ _ c.level.ensures.adds (grows_once _ _ c.mux.ensures.extends c.mux.ensures.grows)) c.constant.ensures.adds)

pub returns-in_err-empty-clause-adds : goal.returns-in_err-empty-clause-adds
returns-in_err-empty-clause-adds c = adds_fewer _ _ _ _ (omega arith) (adds_twice _ _ _ _ _ (adds_twice _ _ _ _ _ (adds_twice _ _ _ _ _ c.level.ensures.adds (grows_once _ _ c.mux.ensures.extends c.mux.ensures.grows)) c.constant.ensures.adds) (grows_once _ _ c.sub.ensures.extends c.sub.ensures.grows))

pub returns-clause-adds : goal.returns-clause-adds
returns-clause-adds c = adds_fewer _ _ _ _ (omega arith) (adds_twice _ _ _ _ _ (adds_twice _ _ _ _ _ (adds_twice _ _ _ _ _ c.level.ensures.adds (grows_once _ _ c.mux.ensures.extends c.mux.ensures.grows)) c.constant.ensures.adds) (grows_once _ _ c.sub.ensures.extends c.sub.ensures.grows))

pub returns-in_err-low-clause-full : goal.returns-in_err-low-clause-full
returns-in_err-low-clause-full c e = let full = c.level.ensures.full (handed_on _ _ _ _ c.in_err-low.was c.from_residual.ensures.1 e) in omega (arith, full)

pub returns-in_err-last-clause-full : goal.returns-in_err-last-clause-full
returns-in_err-last-clause-full c e = let most0 = c.level.ensures.adds.most in let full = c.mux.ensures.full.0 (handed_on _ _ _ _ c.in_err-last.was c.from_residual-in_err-last.ensures.1 e) in omega (arith, most0, full)

pub returns-in_err-size-clause-full : goal.returns-in_err-size-clause-full
returns-in_err-size-clause-full c e = let most0 = c.level.ensures.adds.most in let most1 = c.mux.ensures.grows.most in let full = c.constant.ensures.full (handed_on _ _ _ _ c.in_err-size.was c.from_residual-in_err-size.ensures.1 e) in omega (arith, most0, most1, full)

pub returns-in_err-empty-clause-full : goal.returns-in_err-empty-clause-full
returns-in_err-empty-clause-full c e = let most0 = c.level.ensures.adds.most in let most1 = c.mux.ensures.grows.most in let most2 = c.constant.ensures.adds.most in let full = c.sub.ensures.full.0 (handed_on _ _ _ _ c.in_err-empty.was c.from_residual-in_err-empty.ensures.1 e) in omega (arith, most0, most1, most2, full)

pub returns-clause-full : goal.returns-clause-full
returns-clause-full c e = cc

pub mux-requires-clause-s_is : goal.mux-requires-clause-s_is
mux-requires-clause-s_is c = c.level.ensures.adds.grows.extends.nets _ _ c.requires.more.is_net

pub mux-requires-clause-a_is : goal.mux-requires-clause-a_is
mux-requires-clause-a_is c = c.in_ok-low.ensures.net.is_net

pub mux-requires-clause-b_is : goal.mux-requires-clause-b_is
mux-requires-clause-b_is c = c.level.ensures.adds.grows.extends.nets _ _ c.requires.row.last.is_net

pub mux-requires-clause-widths : goal.mux-requires-clause-widths
mux-requires-clause-widths c = c.in_ok-low.ensures.net.has_width ∙ sym c.requires.row.last.has_width

pub sub-requires-clause-a_is : goal.sub-requires-clause-a_is
sub-requires-clause-a_is c = c.in_ok-size.ensures.net.is_net

pub sub-requires-clause-b_is : goal.sub-requires-clause-b_is
sub-requires-clause-b_is c = (extends_twice _ _ _ c.level.ensures.adds.grows.extends (extends_twice _ _ _ c.mux.ensures.extends c.constant.ensures.adds.grows.extends)).nets _ _ c.requires.row.empty

pub sub-requires-clause-widths : goal.sub-requires-clause-widths
sub-requires-clause-widths c = c.in_ok-size.ensures.net.has_width ∙ sym c.requires.empty
