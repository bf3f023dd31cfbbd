-- Laws of what passes an end. No contract reads a proof of theirs; the crates above cite them.
use Rattle.std.specs.Prelude.{ℕ, zero, suc, ◌+◌, ◌-◌, ◌≤◌, ◌<◌, ◌≡◌, Bool, true, false, ◌&&◌, ◌||◌, IsTrue, if◌then◌else◌, nat_lt, List, [], ◌∷◌, ◌++◌, map, filter, fold, length, bit_or}
use Rattle.std.proofs.Common.{refl, ap, ◌∙◌, subst, append-nil, ◌⊎◌, inl, inr, arith}
use Rattle.std.specs.List.{range_with_len}
use Rattle.std.specs.Int.Bits.{or_self, or_zero_l}
use Rattle.std.proofs.lemmas.List.{length-map}
use Rattle.std.proofs.lemmas.List.Elements.{filter-append}
use Rattle.std.proofs.lemmas.List.FromFn.{length-map-range_with_len}
use Rattle.std.proofs.lemmas.Bool.{and_parts, cond-true, cond-false, cases_Bool, cases_lt}
use Rattle.std.proofs.Math.Nat.{le_trans, lt_of_lt_of_le, sub-pos_iff_lt, not-suc-le-zero}
use Rattle.histories.specs.History.{IsPrefix}
use Rattle.histories.specs.Laws.{prefix_filter, prefix_length, before_prefix}
use Rattle.stream_runs.specs.View.{EndView, Side, Beat, is_high, is_transfer}
use Rattle.stream_runs.specs.Source.{IsLegalAt, IsLegalSource}
use Rattle.stream_runs.specs.Symbols.{Symbol, without_error, symbol_in, symbol_count, symbols_of, shown_count, shown_symbol, shown_symbols, symbols_in, transferred_symbols, kept_symbols, joined_error}
use Rattle.stream_runs.specs.Delivery.{DeliversPrefix}
use Rattle.stream_runs.specs.Awake.{Throughout, Sometime}

-- ---- beginnings

pub prefix_of_same : {A : Type 0} (xs ys : List A) → xs ≡ ys → IsPrefix xs ys
prefix_of_same xs ys e = record { rest = []; joins = append-nil xs ∙ e }

-- what transferred before a cycle begins what transferred before a later one
pub symbols_grow : (side : Side) (view : EndView) (b c : ℕ) → b ≤ c
    → IsPrefix (transferred_symbols side view b) (transferred_symbols side view c)
symbols_grow side view b c h = before_prefix (symbols_in side view) b c h

pub kept_grow : (passes : ℕ → Bool) (side : Side) (view : EndView) (b c : ℕ) → b ≤ c
    → IsPrefix (kept_symbols passes side view b) (kept_symbols passes side view c)
kept_grow passes side view b c h = prefix_filter (λ (symbol : Symbol). passes symbol.channel) (symbols_grow side view b c h)

-- a delivery is one up to each earlier cycle
pub shorter_delivery : (passes : ℕ → Bool) (source sink : Side) (from to : EndView) (b c : ℕ) → b ≤ c
    → DeliversPrefix passes source sink from to c → DeliversPrefix passes source sink from to b
shorter_delivery passes source sink from to b c h s =
    record {
      in_order = λ d k. s.in_order d (le_trans k h);
      holds_data = λ d k. s.holds_data d (lt_of_lt_of_le k h);
      errors = λ some d k. s.errors some d (lt_of_lt_of_le k h);
    }

-- ---- the symbols of one beat

-- as many symbols transfer as the beat holds
pub length_in : (side : Side) (view : EndView) (c : ℕ) → IsTrue (is_transfer side.pace view c)
    → length (symbols_in side view c) ≡ shown_count side view c
length_in side view c moves =
    ap length (cond-true (is_transfer side.pace view c) (shown_symbols side view c) [] moves)
    ∙ length-map-range_with_len (shown_symbol side view c) 0 (shown_count side view c)

-- in order, no more are delivered than were kept
pub length_in_order : (xs ys : List Symbol) → IsPrefix (map without_error xs) (map without_error ys)
    → length xs ≤ length ys
length_in_order xs ys p =
    subst (λ n. n ≤ length ys) (length-map xs without_error)
    (subst (λ n. length (map without_error xs) ≤ n) (length-map ys without_error) (prefix_length p))

-- all symbols of a beat are on one channel
pub filter_beat : (passes : ℕ → Bool) (side : Side) (view : EndView) (c : ℕ) (js : List ℕ) (b : Bool)
    → passes (view.channel c) ≡ b
    → filter (λ symbol. passes symbol.channel) (map (shown_symbol side view c) js)
    ≡ (if b then map (shown_symbol side view c) js else [])
filter_beat passes side view c [] true e = refl
filter_beat passes side view c [] false e = refl
filter_beat passes side view c (j ∷ js) true e =
    cond-true (passes (view.channel c)) _ _ e
    ∙ ap (λ xs. shown_symbol side view c j ∷ xs) (filter_beat passes side view c js true e)
filter_beat passes side view c (j ∷ js) false e =
    cond-false (passes (view.channel c)) _ _ e ∙ filter_beat passes side view c js false e

-- what is kept of the beat of a cycle is all of it or none
pub kept_more : (passes : ℕ → Bool) (side : Side) (view : EndView) (c : ℕ)
    → kept_symbols passes side view (suc c)
    ≡ kept_symbols passes side view c
    ++ (if is_transfer side.pace view c && passes (view.channel c) then shown_symbols side view c else [])
kept_more passes side view c =
    filter-append (λ (symbol : Symbol). passes symbol.channel) (transferred_symbols side view c) (symbols_in side view c)
    ∙ ap (λ xs. kept_symbols passes side view c ++ xs) (by_transfer (is_transfer side.pace view c))
  where
    by_transfer : (b : Bool)
        → filter (λ (symbol : Symbol). passes symbol.channel) (if b then shown_symbols side view c else [])
        ≡ (if b && passes (view.channel c) then shown_symbols side view c else [])
    by_transfer true = filter_beat passes side view c (range_with_len 0 (shown_count side view c)) (passes (view.channel c)) refl
    by_transfer false = refl

-- the symbols of a beat bear its error
same_error : (side : Side) (beat : Beat) (js : List ℕ)
    → fold (λ error (symbol : Symbol). bit_or error symbol.error) beat.error (map (symbol_in side beat) js) ≡ beat.error
same_error side beat [] = refl
same_error side beat (j ∷ js) =
    ap (λ e. fold (λ error (symbol : Symbol). bit_or error symbol.error) e (map (symbol_in side beat) js)) (or_self beat.error)
    ∙ same_error side beat js

joined_error_of_some : (side : Side) (beat : Beat) (first n : ℕ) → 0 < n
    → joined_error (map (symbol_in side beat) (range_with_len first n)) ≡ beat.error
joined_error_of_some side beat first zero h = absurd (not-suc-le-zero h)
joined_error_of_some side beat first (suc n) h =
    ap (λ e. fold (λ error (symbol : Symbol). bit_or error symbol.error) e
    (map (symbol_in side beat) (range_with_len (first + 1) n)))
    (or_zero_l beat.error)
    ∙ same_error side beat (range_with_len (first + 1) n)

pub joined_error_of_beat : (side : Side) (beat : Beat) → 0 < symbol_count side beat
    → joined_error (symbols_of side beat) ≡ beat.error
joined_error_of_beat side beat h = joined_error_of_some side beat 0 (symbol_count side beat) h

-- ---- legal sources

-- a beat that a legal source shows holds a symbol
pub shown_holds : (side : Side) (view : EndView) → 0 < side.symbols → (c : ℕ) → IsLegalAt side view c
    → IsTrue (is_high view.valid c) → 0 < shown_count side view c
shown_holds side view positive c legal shown = by_last (is_high view.last c) refl ((legal.formed shown).holds_data)
  where
    by_last : (b : Bool) → is_high view.last c ≡ b → (IsTrue (is_high view.last c) → view.empty c < side.symbols)
        → 0 < (if b then side.symbols - view.empty c else side.symbols)
    by_last true ends h = sub-pos_iff_lt.1 (h ends)
    by_last false goes h = positive

-- and so does each that transfers
pub legal_holds_data : (side : Side) (view : EndView) (count : ℕ) → 0 < side.symbols → IsLegalSource side view count
    → (c : ℕ) → c < count → IsTrue (is_transfer side.pace view c) → 0 < shown_count side view c
legal_holds_data side view count positive legal c h moves =
    shown_holds side view positive c (legal c h)
    (and_parts (is_high view.valid c) (nat_lt 0 side.pace.latency || is_high view.ready c) moves).0

-- ---- windows

-- a test holds in some cycle of a window, or in none
pub some_or_none : (test : ℕ → Bool) (start k : ℕ)
    → Sometime start k (λ c. IsTrue (test c)) ⊎ Throughout start k (λ c. test c ≡ false)
some_or_none test start zero = inr (λ c from to. absurd (omega arith))
some_or_none test start (suc k) = step (some_or_none test start k) (cases_Bool (test (start + k)))
  where
    step : Sometime start k (λ c. IsTrue (test c)) ⊎ Throughout start k (λ c. test c ≡ false)
        → (test (start + k) ≡ true) ⊎ (test (start + k) ≡ false)
        → Sometime start (suc k) (λ c. IsTrue (test c)) ⊎ Throughout start (suc k) (λ c. test c ≡ false)
    step (inl (c, from, to, holds)) g = inl (c, from, omega arith, holds)
    step (inr none) (inl holds) = inl (start + k, omega arith, omega arith, holds)
    step (inr none) (inr fails) = inr (λ c from to. at_end c from to (cases_lt c (start + k)))
      where
        at_end : (c : ℕ) → start ≤ c → c < start + suc k → (c < start + k) ⊎ (start + k ≤ c) → test c ≡ false
        at_end c from to (inl before) = none c from before
        at_end c from to (inr here) = let same : start + k ≡ c = omega arith in subst (λ n. test n ≡ false) same fails
