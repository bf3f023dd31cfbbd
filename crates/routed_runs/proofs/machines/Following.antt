-- Symbols that follow others at once, and the symbols of a beat that is led on.
use Rattle.std.specs.Prelude.{ℕ, ◌≡◌, Bool, ◌==◌, if◌then◌else◌, List, [], ◌∷◌, ◌++◌, map, length}
use Rattle.std.proofs.Common.{refl, sym, ap, ◌∙◌, arith}
use Rattle.std.specs.List.{range_with_len}
use Rattle.std.proofs.lemmas.List.{length-map, map-append}
use Rattle.std.proofs.lemmas.List.Elements.{filter-append}
use Rattle.stream_runs.specs.View.{EndView, Beat, Side, beat_at}
use Rattle.stream_runs.specs.Symbols.{Symbol, symbol_in, symbol_count, symbols_of, shown_count, shown_symbols}
use Rattle.stream_runs.specs.Laws.{prefix_of_same, filter_beat}
use Rattle.routed_runs.specs.Routes.{direct_end, data_and_marks, symbols_on, FollowWithin}
use Rattle.routed_runs.specs.Beats.{with_channel}

abbrev pub plain : List Symbol → List Symbol
plain symbols = map data_and_marks symbols

pub same_length : (xs ys : List Symbol) → plain xs ≡ plain ys → length xs ≡ length ys
same_length xs ys e = sym (length-map xs data_and_marks) ∙ ap length e ∙ length-map ys data_and_marks

pub follow_at_once : (lag : ℕ) (accepted delivered : List Symbol) → plain delivered ≡ plain accepted → FollowWithin lag accepted delivered
follow_at_once lag accepted delivered e =
    let same = same_length delivered accepted e in
    record { in_order = prefix_of_same _ _ e; few = omega (arith, same) }

-- what is added to the symbols on a channel
pub plain_on-append : (channel : ℕ) (xs ys : List Symbol) → plain (symbols_on channel (xs ++ ys)) ≡ plain (symbols_on channel xs) ++ plain (symbols_on channel ys)
plain_on-append channel xs ys = ap plain (filter-append (λ (symbol : Symbol). symbol.channel == channel) xs ys) ∙ map-append data_and_marks (symbols_on channel xs) (symbols_on channel ys)

pub plain-append : (xs ys : List Symbol) → plain (xs ++ ys) ≡ plain xs ++ plain ys
plain-append xs ys = map-append data_and_marks xs ys

-- the symbols of a shown beat are all on its channel
pub beat_on : (channel : ℕ) (side : Side) (view : EndView) (c : ℕ) (b : Bool) → (view.channel c == channel) ≡ b
    → symbols_on channel (shown_symbols side view c) ≡ (if b then shown_symbols side view c else [])
beat_on channel side view c b e = filter_beat (λ k. k == channel) side view c (range_with_len 0 (shown_count side view c)) b e

-- a beat on another channel has the same data and marks
same_symbols : (packets : Bool) (symbols bits one other channel : ℕ) (beat : Beat) (js : List ℕ)
    → plain (map (symbol_in (direct_end packets symbols bits one) (with_channel channel beat)) js) ≡ plain (map (symbol_in (direct_end packets symbols bits other) beat) js)
same_symbols packets symbols bits one other channel beat [] = refl
same_symbols packets symbols bits one other channel beat (j ∷ js) =
    ap (λ (xs : List Symbol). data_and_marks (symbol_in (direct_end packets symbols bits other) beat j) ∷ xs) (same_symbols packets symbols bits one other channel beat js)

pub led_on : (packets : Bool) (symbols bits one other channel : ℕ) (from to : EndView) (c : ℕ) → beat_at to c ≡ with_channel channel (beat_at from c)
    → plain (shown_symbols (direct_end packets symbols bits one) to c) ≡ plain (shown_symbols (direct_end packets symbols bits other) from c)
led_on packets symbols bits one other channel from to c e =
    ap (λ (beat : Beat). plain (symbols_of (direct_end packets symbols bits one) beat)) e
    ∙ same_symbols packets symbols bits one other channel (beat_at from c) (range_with_len 0 (symbol_count (direct_end packets symbols bits other) (beat_at from c)))
