use Rattle.std.proofs.Common.{◌∙◌, sym, subst, ap, arith}
use Rattle.net_parts.specs.Laws.{net_lasts, extends_twice, grows_once, adds_twice, adds_fewer}
use Rattle.net_parts.specs.Refusing.{handed_on}
use Rattle.stage_core.specs.Beats.{AreBeatNets}
use Rattle.stage_core.specs.Groups.{shown_in}
use Rattle.stage_core.specs.declared.beat.BeatNets.{BeatNets}
use Rattle.stage_core.specs.Lasting.{beat_lasts}
use Rattle.st_windows.proofs.CountNets.{left_shown}
use Rattle.st_windows.proofs.rows.drop_front.Goals as goal

pub returns-clause-rest : goal.returns-clause-rest
returns-clause-rest c =
    let base = subst (AreBeatNets c.mux-3.new.self) (sym c.copied.ensures) (beat_lasts _ _ _ (extends_twice _ _ _ c.level.ensures.adds.grows.extends (extends_twice _ _ _ c.constant.ensures.adds.grows.extends (extends_twice _ _ _ c.constant-2.ensures.adds.grows.extends (extends_twice _ _ _ c.constant-3.ensures.adds.grows.extends (extends_twice _ _ _ c.sub.ensures.extends (extends_twice _ _ _ c.mux.ensures.extends (extends_twice _ _ _ c.mux-2.ensures.extends c.mux-3.ensures.extends))))))) c.requires.row) in
    let low = net_lasts _ _ _ _ (extends_twice _ _ _ c.constant.ensures.adds.grows.extends (extends_twice _ _ _ c.constant-2.ensures.adds.grows.extends (extends_twice _ _ _ c.constant-3.ensures.adds.grows.extends (extends_twice _ _ _ c.sub.ensures.extends (extends_twice _ _ _ c.mux.ensures.extends (extends_twice _ _ _ c.mux-2.ensures.extends c.mux-3.ensures.extends)))))) c.in_ok-low.ensures.net in
    record {
      valid = low;
      word = (extends_twice _ _ _ c.level.ensures.adds.grows.extends (extends_twice _ _ _ c.constant.ensures.adds.grows.extends (extends_twice _ _ _ c.constant-2.ensures.adds.grows.extends (extends_twice _ _ _ c.constant-3.ensures.adds.grows.extends (extends_twice _ _ _ c.sub.ensures.extends (extends_twice _ _ _ c.mux.ensures.extends (extends_twice _ _ _ c.mux-2.ensures.extends c.mux-3.ensures.extends))))))).nets _ _ c.requires.word.is_net;
      channel = base.channel;
      error = c.mux-3.ensures.extends.nets _ _ c.in_ok-error.ensures.net.0;
      first = low;
      last = record { is_net = c.in_ok-last.ensures.net.0; has_width = c.in_ok-last.ensures.net.1 ∙ c.requires.row.last.has_width };
      empty = (extends_twice _ _ _ c.mux-2.ensures.extends c.mux-3.ensures.extends).nets _ _ c.in_ok-empty.ensures.net.0;
    }

pub returns-clause-widths : goal.returns-clause-widths
returns-clause-widths c =
    record {
      word = c.requires.word.has_width;
      channel = ap (λ (n : BeatNets). n.channel.width) c.copied.ensures;
      error = c.in_ok-error.ensures.net.1 ∙ c.requires.error.has_width;
      empty = c.in_ok-empty.ensures.net.1 ∙ c.in_ok-left.ensures.net.1 ∙ c.requires.empty;
    }

pub returns-clause-value : goal.returns-clause-value
returns-clause-value c cycle v8 =
    let v7 = c.mux-3.ensures.extends.valuations cycle v8 in
    let v6 = c.mux-2.ensures.extends.valuations cycle v7 in
    let v5 = c.mux.ensures.extends.valuations cycle v6 in
    let v4 = c.sub.ensures.extends.valuations cycle v5 in
    let v3 = c.constant-3.ensures.adds.grows.extends.valuations cycle v4 in
    let v2 = c.constant-2.ensures.adds.grows.extends.valuations cycle v3 in
    let v1 = c.constant.ensures.adds.grows.extends.valuations cycle v2 in
    let v0 = c.level.ensures.adds.grows.extends.valuations cycle v1 in
    left_shown c.args.sizes.now (shown_in cycle c.copied.result) (shown_in cycle c.args.row.now) (cycle.net c.args.more.number) (cycle.net c.in_ok-low.low.number) (cycle.net c.args.word.number) (cycle.net c.args.error.number) _ _ _ _ _ _ _ _ (ap (shown_in cycle) c.copied.ensures) (c.requires.is_more cycle v0)
    (c.in_ok-low.ensures.value cycle v1) (c.in_ok-quiet.ensures.value cycle v2) (c.in_ok-none.ensures.value cycle v3) (c.in_ok-size.ensures.value cycle v4) c.requires.empty (c.in_ok-left.ensures.value cycle v5).1
    (c.in_ok-empty.ensures.value cycle v6).1 (c.in_ok-error.ensures.value cycle v7).1 (c.in_ok-last.ensures.value cycle v8).1

pub returns-in_err-low-clause-adds : goal.returns-in_err-low-clause-adds
returns-in_err-low-clause-adds c = adds_fewer _ _ _ _ (omega arith) c.level.ensures.adds

pub returns-in_err-quiet-clause-adds : goal.returns-in_err-quiet-clause-adds
returns-in_err-quiet-clause-adds c = adds_fewer _ _ _ _ (omega arith) (adds_twice _ _ _ _ _ c.level.ensures.adds c.constant.ensures.adds)

pub returns-in_err-none-clause-adds : goal.returns-in_err-none-clause-adds
returns-in_err-none-clause-adds c = adds_fewer _ _ _ _ (omega arith) (adds_twice _ _ _ _ _ (adds_twice _ _ _ _ _ c.level.ensures.adds c.constant.ensures.adds) c.constant-2.ensures.adds)

pub returns-in_err-size-clause-adds : goal.returns-in_err-size-clause-adds
returns-in_err-size-clause-adds c = adds_fewer _ _ _ _ (omega arith) (adds_twice _ _ _ _ _ (adds_twice _ _ _ _ _ (adds_twice _ _ _ _ _ c.level.ensures.adds c.constant.ensures.adds) c.constant-2.ensures.adds) c.constant-3.ensures.adds)

pub returns-in_err-left-clause-adds : goal.returns-in_err-left-clause-adds
returns-in_err-left-clause-adds c = adds_fewer _ _ _ _ (omega arith) (adds_twice _ _ _ _ _ (adds_twice _ _ _ _ _ (adds_twice _ _ _ _ _ (adds_twice _ _ _ _ _ c.level.ensures.adds c.constant.ensures.adds) c.constant-2.ensures.adds) c.constant-3.ensures.adds) (grows_once _ _ c.sub.ensures.extends c.sub.ensures.grows))

pub returns-in_err-empty-clause-adds : goal.returns-in_err-empty-clause-adds
returns-in_err-empty-clause-adds c = adds_fewer _ _ _ _ (omega arith) (adds_twice _ _ _ _ _ (adds_twice _ _ _ _ _ (adds_twice _ _ _ _ _ (adds_twice _ _ _ _ _ (adds_twice _ _ _ _ _ c.level.ensures.adds c.constant.ensures.adds) c.constant-2.ensures.adds) c.constant-3.ensures.adds) (grows_once _ _ c.sub.ensures.extends c.sub.ensures.grows)) (grows_once _ _ c.mux.ensures.extends c.mux.ensures.grows))

pub returns-in_err-error-clause-adds : goal.returns-in_err-error-clause-adds
returns-in_err-error-clause-adds c = adds_fewer _ _ _ _ (omega arith) (adds_twice _ _ _ _ _ (adds_twice _ _ _ _ _ (adds_twice _ _ _ _ _ (adds_twice _ _ _ _ _ (adds_twice _ _ _ _ _ (adds_twice _ _ _ _ _ c.level.ensures.adds c.constant.ensures.adds) c.constant-2.ensures.adds) c.constant-3.ensures.adds) (grows_once _ _ c.sub.ensures.extends c.sub.ensures.grows)) (grows_once _ _ c.mux.ensures.extends c.mux.ensures.grows)) (grows_once _ _ c.mux-2.ensures.extends c.mux-2.ensures.grows))

pub returns-in_err-last-clause-adds : goal.returns-in_err-last-clause-adds
returns-in_err-last-clause-adds c = adds_fewer _ _ _ _ (omega arith) (adds_twice _ _ _ _ _ (adds_twice _ _ _ _ _ (adds_twice _ _ _ _ _ (adds_twice _ _ _ _ _ (adds_twice _ _ _ _ _ (adds_twice _ _ _ _ _ (adds_twice _ _ _ _ _ c.level.ensures.adds c.constant.ensures.adds) c.constant-2.ensures.adds) c.constant-3.ensures.adds) (grows_once _ _ c.sub.ensures.extends c.sub.ensures.grows)) (grows_once _ _ c.mux.ensures.extends c.mux.ensures.grows)) (grows_once _ _ c.mux-2.ensures.extends c.mux-2.ensures.grows)) (grows_once _ _ c.mux-3.ensures.extends c.mux-3.ensures.grows))

pub returns-clause-adds : goal.returns-clause-adds
returns-clause-adds c = adds_fewer _ _ _ _ (omega arith) (adds_twice _ _ _ _ _ (adds_twice _ _ _ _ _ (adds_twice _ _ _ _ _ (adds_twice _ _ _ _ _ (adds_twice _ _ _ _ _ (adds_twice _ _ _ _ _ (adds_twice _ _ _ _ _ c.level.ensures.adds c.constant.ensures.adds) c.constant-2.ensures.adds) c.constant-3.ensures.adds) (grows_once _ _ c.sub.ensures.extends c.sub.ensures.grows)) (grows_once _ _ c.mux.ensures.extends c.mux.ensures.grows)) (grows_once _ _ c.mux-2.ensures.extends c.mux-2.ensures.grows)) (grows_once _ _ c.mux-3.ensures.extends c.mux-3.ensures.grows))

pub returns-in_err-low-clause-full : goal.returns-in_err-low-clause-full
returns-in_err-low-clause-full c e = let full = c.level.ensures.full (handed_on _ _ _ _ c.in_err-low.was c.from_residual.ensures.1 e) in omega (arith, full)

pub returns-in_err-quiet-clause-full : goal.returns-in_err-quiet-clause-full
returns-in_err-quiet-clause-full c e = let most0 = c.level.ensures.adds.most in let full = c.constant.ensures.full (handed_on _ _ _ _ c.in_err-quiet.was c.from_residual-in_err-quiet.ensures.1 e) in omega (arith, most0, full)

pub returns-in_err-none-clause-full : goal.returns-in_err-none-clause-full
returns-in_err-none-clause-full c e = let most0 = c.level.ensures.adds.most in let most1 = c.constant.ensures.adds.most in let full = c.constant-2.ensures.full (handed_on _ _ _ _ c.in_err-none.was c.from_residual-in_err-none.ensures.1 e) in omega (arith, most0, most1, full)

pub returns-in_err-size-clause-full : goal.returns-in_err-size-clause-full
returns-in_err-size-clause-full c e = let most0 = c.level.ensures.adds.most in let most1 = c.constant.ensures.adds.most in let most2 = c.constant-2.ensures.adds.most in let full = c.constant-3.ensures.full (handed_on _ _ _ _ c.in_err-size.was c.from_residual-in_err-size.ensures.1 e) in omega (arith, most0, most1, most2, full)

pub returns-in_err-left-clause-full : goal.returns-in_err-left-clause-full
returns-in_err-left-clause-full c e = let most0 = c.level.ensures.adds.most in let most1 = c.constant.ensures.adds.most in let most2 = c.constant-2.ensures.adds.most in let most3 = c.constant-3.ensures.adds.most in let full = c.sub.ensures.full.0 (handed_on _ _ _ _ c.in_err-left.was c.from_residual-in_err-left.ensures.1 e) in omega (arith, most0, most1, most2, most3, full)

pub returns-in_err-empty-clause-full : goal.returns-in_err-empty-clause-full
returns-in_err-empty-clause-full c e = let most0 = c.level.ensures.adds.most in let most1 = c.constant.ensures.adds.most in let most2 = c.constant-2.ensures.adds.most in let most3 = c.constant-3.ensures.adds.most in let most4 = c.sub.ensures.grows.most in let full = c.mux.ensures.full.0 (handed_on _ _ _ _ c.in_err-empty.was c.from_residual-in_err-empty.ensures.1 e) in omega (arith, most0, most1, most2, most3, most4, full)

pub returns-in_err-error-clause-full : goal.returns-in_err-error-clause-full
returns-in_err-error-clause-full c e = let most0 = c.level.ensures.adds.most in let most1 = c.constant.ensures.adds.most in let most2 = c.constant-2.ensures.adds.most in let most3 = c.constant-3.ensures.adds.most in let most4 = c.sub.ensures.grows.most in let most5 = c.mux.ensures.grows.most in let full = c.mux-2.ensures.full.0 (handed_on _ _ _ _ c.in_err-error.was c.from_residual-in_err-error.ensures.1 e) in omega (arith, most0, most1, most2, most3, most4, most5, full)

pub returns-in_err-last-clause-full : goal.returns-in_err-last-clause-full
returns-in_err-last-clause-full c e = let most0 = c.level.ensures.adds.most in let most1 = c.constant.ensures.adds.most in let most2 = c.constant-2.ensures.adds.most in let most3 = c.constant-3.ensures.adds.most in let most4 = c.sub.ensures.grows.most in let most5 = c.mux.ensures.grows.most in let most6 = c.mux-2.ensures.grows.most in let full = c.mux-3.ensures.full.0 (handed_on _ _ _ _ c.in_err-last.was c.from_residual-in_err-last.ensures.1 e) in omega (arith, most0, most1, most2, most3, most4, most5, most6, full)

pub returns-clause-full : goal.returns-clause-full
returns-clause-full c e = cc

pub sub-requires-clause-a_is : goal.sub-requires-clause-a_is
sub-requires-clause-a_is c = (extends_twice _ _ _ c.level.ensures.adds.grows.extends (extends_twice _ _ _ c.constant.ensures.adds.grows.extends (extends_twice _ _ _ c.constant-2.ensures.adds.grows.extends c.constant-3.ensures.adds.grows.extends))).nets _ _ c.requires.row.empty

pub sub-requires-clause-b_is : goal.sub-requires-clause-b_is
sub-requires-clause-b_is c = c.in_ok-size.ensures.net.is_net

pub sub-requires-clause-widths : goal.sub-requires-clause-widths
sub-requires-clause-widths c = c.requires.empty ∙ sym c.in_ok-size.ensures.net.has_width

pub mux-requires-clause-s_is : goal.mux-requires-clause-s_is
mux-requires-clause-s_is c = (extends_twice _ _ _ c.level.ensures.adds.grows.extends (extends_twice _ _ _ c.constant.ensures.adds.grows.extends (extends_twice _ _ _ c.constant-2.ensures.adds.grows.extends (extends_twice _ _ _ c.constant-3.ensures.adds.grows.extends c.sub.ensures.extends)))).nets _ _ c.requires.more.is_net

pub mux-requires-clause-a_is : goal.mux-requires-clause-a_is
mux-requires-clause-a_is c = c.in_ok-left.ensures.net.0

pub mux-requires-clause-b_is : goal.mux-requires-clause-b_is
mux-requires-clause-b_is c = (extends_twice _ _ _ c.constant-3.ensures.adds.grows.extends c.sub.ensures.extends).nets _ _ c.in_ok-none.ensures.net.is_net

pub mux-requires-clause-widths : goal.mux-requires-clause-widths
mux-requires-clause-widths c = c.in_ok-left.ensures.net.1 ∙ c.requires.empty ∙ sym c.in_ok-none.ensures.net.has_width

pub mux-requires-2-clause-s_is : goal.mux-requires-2-clause-s_is
mux-requires-2-clause-s_is c = (extends_twice _ _ _ c.level.ensures.adds.grows.extends (extends_twice _ _ _ c.constant.ensures.adds.grows.extends (extends_twice _ _ _ c.constant-2.ensures.adds.grows.extends (extends_twice _ _ _ c.constant-3.ensures.adds.grows.extends (extends_twice _ _ _ c.sub.ensures.extends c.mux.ensures.extends))))).nets _ _ c.requires.more.is_net

pub mux-requires-2-clause-a_is : goal.mux-requires-2-clause-a_is
mux-requires-2-clause-a_is c = (extends_twice _ _ _ c.level.ensures.adds.grows.extends (extends_twice _ _ _ c.constant.ensures.adds.grows.extends (extends_twice _ _ _ c.constant-2.ensures.adds.grows.extends (extends_twice _ _ _ c.constant-3.ensures.adds.grows.extends (extends_twice _ _ _ c.sub.ensures.extends c.mux.ensures.extends))))).nets _ _ c.requires.error.is_net

pub mux-requires-2-clause-b_is : goal.mux-requires-2-clause-b_is
mux-requires-2-clause-b_is c = (extends_twice _ _ _ c.constant-2.ensures.adds.grows.extends (extends_twice _ _ _ c.constant-3.ensures.adds.grows.extends (extends_twice _ _ _ c.sub.ensures.extends c.mux.ensures.extends))).nets _ _ c.in_ok-quiet.ensures.net.is_net

pub mux-requires-3-clause-s_is : goal.mux-requires-3-clause-s_is
mux-requires-3-clause-s_is c = (extends_twice _ _ _ c.level.ensures.adds.grows.extends (extends_twice _ _ _ c.constant.ensures.adds.grows.extends (extends_twice _ _ _ c.constant-2.ensures.adds.grows.extends (extends_twice _ _ _ c.constant-3.ensures.adds.grows.extends (extends_twice _ _ _ c.sub.ensures.extends (extends_twice _ _ _ c.mux.ensures.extends c.mux-2.ensures.extends)))))).nets _ _ c.requires.more.is_net

pub mux-requires-3-clause-a_is : goal.mux-requires-3-clause-a_is
mux-requires-3-clause-a_is c = (extends_twice _ _ _ c.level.ensures.adds.grows.extends (extends_twice _ _ _ c.constant.ensures.adds.grows.extends (extends_twice _ _ _ c.constant-2.ensures.adds.grows.extends (extends_twice _ _ _ c.constant-3.ensures.adds.grows.extends (extends_twice _ _ _ c.sub.ensures.extends (extends_twice _ _ _ c.mux.ensures.extends c.mux-2.ensures.extends)))))).nets _ _ c.requires.row.last.is_net

pub mux-requires-3-clause-b_is : goal.mux-requires-3-clause-b_is
mux-requires-3-clause-b_is c = (extends_twice _ _ _ c.constant.ensures.adds.grows.extends (extends_twice _ _ _ c.constant-2.ensures.adds.grows.extends (extends_twice _ _ _ c.constant-3.ensures.adds.grows.extends (extends_twice _ _ _ c.sub.ensures.extends (extends_twice _ _ _ c.mux.ensures.extends c.mux-2.ensures.extends))))).nets _ _ c.in_ok-low.ensures.net.is_net

pub mux-requires-3-clause-widths : goal.mux-requires-3-clause-widths
mux-requires-3-clause-widths c = c.requires.row.last.has_width ∙ sym c.in_ok-low.ensures.net.has_width
