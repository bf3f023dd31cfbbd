-- The widths of the nets around stages, and how many nets these make.
use Rattle.std.proofs.Common.{◌≡◌, ℕ, ◌+◌, ◌*◌, ◌≤◌, Option, Some, None, sym, ap, subst, ◌∙◌, arith}
use Rattle.std.specs.Prelude.{IfSome, unwrap_or, option_map}
use Rattle.st_format.specs.declared.reorder.Reorder.{Reorder}
use Rattle.stream_runs.specs.Ends.{Declared}
use Rattle.stage_core.specs.Beats.{Widths}
use Rattle.st_format.specs.FormatNets.{Stages, OrderTakes, ResizeTakes, front_takes, front_gives, order_forward, order_backward, order_nets}
use Rattle.st_format.specs.ResizeNets.{resize_takes, resize_gives, resize_forward, resize_backward, resize_nets}
use Rattle.st_path.specs.Joining.{CanJoin}
use Rattle.st_path.specs.Between.{with_errors, formed, at_sink, FitSide, GivesNets}
use Rattle.st_path.specs.Parts.{IsTurnBack}

-- around the stages that bring beats to the sink's symbols
pub format_given : (source sink : Declared) (format : Stages) (widths : Widths) (accepts : Type 0) (f b : ℕ) → CanJoin source sink → GivesNets (with_errors source sink) sink 310 accepts widths (f + b)
    → ((w : Widths) → w.word ≡ source.symbol_bits * source.symbols → w.empty ≤ 8 → OrderTakes format.first w)
    → ((w : Widths) → w.word ≡ source.symbol_bits * source.symbols → w.empty ≤ 8 → ResizeTakes format.second w (source.symbol_bits * sink.symbols))
    → order_nets format.first ≤ 1050 → resize_nets format.second ≤ 2200
    → GivesNets (formed source sink) sink 3560
    ((accepts × front_takes format.first.first.stage format.first.second.stage widths)
    × resize_takes format.second (front_gives format.first.first.stage format.first.second.stage widths))
    (resize_gives format.second (front_gives format.first.first.stage format.first.second.stage widths))
    (((f + order_forward format.first) + resize_forward format.second) + ((b + order_backward format.first) + resize_backward format.second))
format_given source sink format widths accepts f b join given orders resizes few_order few_resize =
    let word : widths.word ≡ source.symbol_bits * source.symbols = given.gives.word ∙ omega arith in
    let order = orders widths word given.gives.empty in
    let resize = resizes widths word given.gives.empty in
    let made : f + b ≤ 310 = given.few in
    let first : order_forward format.first + order_backward format.first ≤ 1050 = few_order in
    let second : resize_forward format.second + resize_backward format.second ≤ 2200 = few_resize in
    let same = sym order.gives in
    record {
      takes = ((given.takes, order.takes), subst (λ w. resize_takes format.second w) same resize.takes);
      gives = subst (λ w. FitSide (formed source sink) sink (resize_gives format.second w)) same
          (record {
            word = resize.gives ∙ omega arith;
            channel = resize.channel ∙ given.gives.channel;
            error = λ some. resize.error ∙ given.gives.error some;
            empty = resize.few;
          });
      few = omega (arith, made, first, second);
    }

-- behind the queue: the turn makes as many nets as it does, and the delay five
pub rear_given : (source sink : Declared) (turn : Option Reorder) (widths : Widths) → CanJoin source sink → IsTurnBack source sink turn → FitSide (formed source sink) sink widths
    → GivesNets (at_sink source sink) sink 100 (IfSome turn (λ s. widths.word ≡ s.bits * s.symbols) × Unit {0}) (unwrap_or (option_map (λ s. widths) turn) widths)
    ((unwrap_or (option_map (λ s. 2 * s.symbols) turn) 0 + 3) + (unwrap_or (option_map (λ s. 0) turn) 0 + 2))
rear_given source sink None widths join is fit = record {
  takes = (tt, tt);
  gives = record { word = fit.word ∙ ap (λ n. sink.symbols * n) join.symbol_bits; channel = fit.channel; error = fit.error; empty = fit.empty };
  few = omega arith;
}
rear_given source sink (Some turn) widths join is fit =
    let word : widths.word ≡ sink.symbols * source.symbol_bits = fit.word in
    let size : turn.bits * turn.symbols ≡ source.symbol_bits * sink.symbols = ap (λ n. n * turn.symbols) (is.3 ∙ sym join.symbol_bits) ∙ ap (λ n. source.symbol_bits * n) is.2 in
    record {
      takes = (omega (arith, word, size), tt);
      gives = record { word = fit.word ∙ ap (λ n. sink.symbols * n) join.symbol_bits; channel = fit.channel; error = fit.error; empty = fit.empty };
      few = (let few = join.sink_fits.few in let same = is.2 in omega (arith, few, same));
    }

-- a stage without memories has none, whether it is needed or not
pub no_memories : {S : Type 0} (stage : Option S) → unwrap_or (option_map (λ (s : S). 0) stage) 0 ≤ 0
no_memories None = omega arith
no_memories (Some s) = omega arith
