-- Tests that compute the definitions on a run, each with what follows where it gives true.
use Rattle.std.proofs.Common.{◌≡◌, ◌⊎◌, ℕ, zero, suc, ◌+◌, ◌≤◌, ◌<◌, Bool, true, false, not, ◌&&◌, ◌||◌, ◌==◌, List, [], ◌∷◌, ◌++◌, map, length, refl, ap, sym, ◌∙◌, subst, inl, inr, arith, nat_lt, nat_le}
use Rattle.std.proofs.lemmas.Bool.{cases_lt, and_parts, eqb-true, leb-true, ltb-true, lt-ltb}
use Rattle.histories.specs.History.{IsPrefix}
use Rattle.stream_runs.specs.View.{EndView, Beat, Pace, Side, beat_at, is_high, is_transfer}
use Rattle.stream_runs.specs.Source.{IsHeld, KeepsPace, IsWellFormed, IsLegalSource, IsProperAtSink, may_show, is_open, channel_before}
use Rattle.stream_runs.specs.Symbols.{Symbol, without_error, shown_count, delivered_symbols, kept_symbols, joined_error}
use Rattle.stream_runs.specs.Delivery.{DeliversPrefix, LagsWithin, ShowsDropped, Stream, StreamRun, IsServed, reaches, matched_symbols, stream_lag}

-- ---- truth values

abbrev pub same_bool : Bool → Bool → Bool
same_bool true b = b
same_bool false b = not b

same_bool_true : (a b : Bool) → same_bool a b ≡ true → a ≡ b
same_bool_true true b e = sym e
same_bool_true false true e = absurd (cc)
same_bool_true false false e = refl

-- the second holds where the first does
given : (a b : Bool) → (not a || b) ≡ true → a ≡ true → b ≡ true
given true b e h = e
given false b e h = absurd (cc)

-- the second holds where the first does not
unless : (a b : Bool) → (a || b) ≡ true → a ≡ false → b ≡ true
unless true b e h = absurd (cc)
unless false b e h = e

is_not : (a : Bool) → not a ≡ true → a ≡ false
is_not true e = absurd (cc)
is_not false e = refl

-- the test gives true for each number below this one
abbrev pub each_below : ℕ → (ℕ → Bool) → Bool
each_below zero test = true
each_below (suc n) test = each_below n test && test n

below_true : (n : ℕ) (test : ℕ → Bool) → each_below n test ≡ true → (c : ℕ) → c < n → test c ≡ true
below_true zero test e c h = absurd (omega arith)
below_true (suc n) test e c h = by_place (below_true n test (and_parts (each_below n test) (test n) e).0 c) (cases_lt c n)
  where
    by_place : (c < n → test c ≡ true) → (c < n) ⊎ (n ≤ c) → test c ≡ true
    by_place earlier (inl before) = earlier before
    by_place earlier (inr here) = let same : n ≡ c = omega arith in subst (λ k. test k ≡ true) same (and_parts (each_below n test) (test n) e).1

lt_suc : (c n : ℕ) → c ≤ n → c < suc n
lt_suc c n h = omega arith

-- ---- symbols

abbrev pub same_symbol : Symbol → Symbol → Bool
same_symbol x y = (x.value == y.value) && ((x.channel == y.channel) && (same_bool x.first y.first && (same_bool x.last y.last && (x.error == y.error))))

same_symbol_true : (x y : Symbol) → same_symbol x y ≡ true → x ≡ y
same_symbol_true x y e =
    let p1 = and_parts _ _ e in
    let p2 = and_parts _ _ p1.1 in
    let p3 = and_parts _ _ p2.1 in
    let p4 = and_parts _ _ p3.1 in
    same x.value y.value x.channel y.channel x.first y.first x.last y.last x.error y.error
    (eqb-true _ _ p1.0) (eqb-true _ _ p2.0) (same_bool_true _ _ p3.0) (same_bool_true _ _ p4.0) (eqb-true _ _ p4.1)
  where
    same : (v v' c c' : ℕ) (f f' l l' : Bool) (e e' : ℕ) → v ≡ v' → c ≡ c' → f ≡ f' → l ≡ l' → e ≡ e'
        → ◌≡◌ {A = Symbol} (record { value = v; channel = c; first = f; last = l; error = e }) (record { value = v'; channel = c'; first = f'; last = l'; error = e' })
    same v v' c c' f f' l l' e e' p q r s t = rw (p, q, r, s, t) refl

abbrev pub begins_with : List Symbol → List Symbol → Bool
begins_with [] ys = true
begins_with (x ∷ xs) [] = false
begins_with (x ∷ xs) (y ∷ ys) = same_symbol x y && begins_with xs ys

begins_with_true : (xs ys : List Symbol) → begins_with xs ys ≡ true → IsPrefix xs ys
begins_with_true [] ys e = record { rest = ys; joins = refl }
begins_with_true (x ∷ xs) [] e = absurd (cc)
begins_with_true (x ∷ xs) (y ∷ ys) e =
    let both = and_parts (same_symbol x y) (begins_with xs ys) e in
    let others = begins_with_true xs ys both.1 in
    record { rest = others.rest; joins = ap (λ (z : Symbol). z ∷ (xs ++ others.rest)) (same_symbol_true x y both.0) ∙ ap (λ (zs : List Symbol). y ∷ zs) others.joins }

-- ---- legal sources

abbrev pub same_beat : Beat → Beat → Bool
same_beat x y = (x.word == y.word) && ((x.channel == y.channel) && ((x.error == y.error) && ((x.first == y.first) && ((x.last == y.last) && (x.empty == y.empty)))))

same_beat_true : (x y : Beat) → same_beat x y ≡ true → x ≡ y
same_beat_true x y e =
    let p1 = and_parts _ _ e in
    let p2 = and_parts _ _ p1.1 in
    let p3 = and_parts _ _ p2.1 in
    let p4 = and_parts _ _ p3.1 in
    let p5 = and_parts _ _ p4.1 in
    same x.word y.word x.channel y.channel x.error y.error x.first y.first x.last y.last x.empty y.empty
    (eqb-true _ _ p1.0) (eqb-true _ _ p2.0) (eqb-true _ _ p3.0) (eqb-true _ _ p4.0) (eqb-true _ _ p5.0) (eqb-true _ _ p5.1)
  where
    same : (w w' c c' e e' f f' l l' m m' : ℕ) → w ≡ w' → c ≡ c' → e ≡ e' → f ≡ f' → l ≡ l' → m ≡ m'
        → ◌≡◌ {A = Beat} (record { word = w; channel = c; error = e; first = f; last = l; empty = m }) (record { word = w'; channel = c'; error = e'; first = f'; last = l'; empty = m' })
    same w w' c c' e e' f f' l l' m m' p q r s t u = rw (p, q, r, s, t, u) refl

abbrev pub is_held : Pace → EndView → ℕ → Bool
is_held pace view zero = true
is_held pace view (suc c) =
    not (is_high view.valid c) || (is_transfer pace view c || ((view.valid c == view.valid (suc c)) && same_beat (beat_at view c) (beat_at view (suc c))))

is_held_true : (pace : Pace) (view : EndView) (c : ℕ) → is_held pace view c ≡ true → IsHeld pace view c
is_held_true pace view zero e = tt
is_held_true pace view (suc c) e = λ shown stays.
    let same = and_parts (view.valid c == view.valid (suc c)) _ (unless (is_transfer pace view c) _ (given (is_high view.valid c) _ e shown) stays) in
    record { valid = eqb-true _ _ same.0; beat = same_beat_true _ _ same.1 }

abbrev pub keeps_pace : Pace → EndView → ℕ → Bool
keeps_pace pace view c = (not (is_high view.valid c) || may_show pace view c) && is_held pace view c

keeps_pace_true : (pace : Pace) (view : EndView) (c : ℕ) → keeps_pace pace view c ≡ true → KeepsPace pace view c
keeps_pace_true pace view c e =
    let both = and_parts (not (is_high view.valid c) || may_show pace view c) (is_held pace view c) e in
    record { allowed = given (is_high view.valid c) (may_show pace view c) both.0; held = is_held_true pace view c both.1 }

abbrev pub is_well_formed : Side → Bool → ℕ → Beat → Bool
is_well_formed side opened channel beat =
    (not side.packets || same_bool (beat.first == 1) (not opened))
    && ((side.packets || (not (beat.first == 1) && not (beat.last == 1)))
    && ((not (beat.last == 1) || nat_lt beat.empty side.symbols)
    && (nat_le beat.channel side.max_channel
    && ((not side.packets || (not opened || (beat.channel == channel)))
    && (not (side.error_bits == 0) || (beat.error == 0))))))

is_well_formed_true : (side : Side) (opened : Bool) (channel : ℕ) (beat : Beat) → is_well_formed side opened channel beat ≡ true → IsWellFormed side opened channel beat
is_well_formed_true side opened channel beat e =
    let p1 = and_parts _ _ e in
    let p2 = and_parts _ _ p1.1 in
    let p3 = and_parts _ _ p2.1 in
    let p4 = and_parts _ _ p3.1 in
    let p5 = and_parts _ _ p4.1 in
    record {
      begins = λ has. same_bool_true _ _ (given side.packets _ p1.0 has);
      unmarked = λ none. let both = and_parts (not (beat.first == 1)) (not (beat.last == 1)) (unless side.packets _ p2.0 none) in (is_not _ both.0, is_not _ both.1);
      holds_data = λ ends. ltb-true _ _ (given (beat.last == 1) _ p3.0 ends);
      in_range = leb-true _ _ p4.0;
      one_channel = λ has goes. eqb-true _ _ (given opened _ (given side.packets _ p5.0 has) goes);
      quiet = λ none. eqb-true _ _ (given (side.error_bits == 0) _ p5.1 (is_zero side.error_bits none));
    }
  where
    is_zero : (n : ℕ) → n ≡ 0 → (n == 0) ≡ true
    is_zero n none = ap (λ m. m == 0) none

abbrev pub is_legal : Side → EndView → ℕ → Bool
is_legal side view count =
    each_below count (λ c. keeps_pace side.pace view c && (not (is_high view.valid c) || is_well_formed side (is_open side.pace view c) (channel_before side.pace view c) (beat_at view c)))

pub is_legal_true : (side : Side) (view : EndView) (count : ℕ) → is_legal side view count ≡ true → IsLegalSource side view count
is_legal_true side view count e c h =
    let both = and_parts (keeps_pace side.pace view c) _ (below_true count _ e c h) in
    record { paced = keeps_pace_true side.pace view c both.0; formed = λ shown. is_well_formed_true side _ _ (beat_at view c) (given (is_high view.valid c) _ both.1 shown) }

-- ---- what the sink is given

abbrev pub in_order : (ℕ → Bool) → Side → Side → EndView → EndView → ℕ → Bool
in_order passes source sink from to c = begins_with (map without_error (delivered_symbols sink to c)) (map without_error (kept_symbols passes source from c))

abbrev pub holds_data : Side → EndView → ℕ → Bool
holds_data sink to c = not (is_transfer sink.pace to c) || nat_lt 0 (shown_count sink to c)

abbrev pub has_errors : (ℕ → Bool) → Side → Side → EndView → EndView → ℕ → Bool
has_errors passes source sink from to c = not (is_transfer sink.pace to c) || (to.error c == joined_error (matched_symbols passes source sink from to c))

abbrev pub delivers : (ℕ → Bool) → Side → Side → EndView → EndView → ℕ → Bool
delivers passes source sink from to count =
    each_below (suc count) (in_order passes source sink from to)
    && (each_below count (holds_data sink to) && (not (nat_lt 0 sink.error_bits) || each_below count (has_errors passes source sink from to)))

pub delivers_true : (passes : ℕ → Bool) (source sink : Side) (from to : EndView) (count : ℕ) → delivers passes source sink from to count ≡ true → DeliversPrefix passes source sink from to count
delivers_true passes source sink from to count e =
    let p1 = and_parts (each_below (suc count) (in_order passes source sink from to))
    (each_below count (holds_data sink to) && (not (nat_lt 0 sink.error_bits) || each_below count (has_errors passes source sink from to))) e in
    let p2 = and_parts (each_below count (holds_data sink to)) (not (nat_lt 0 sink.error_bits) || each_below count (has_errors passes source sink from to)) p1.1 in
    record {
      in_order = λ c h. begins_with_true _ _ (below_true (suc count) (in_order passes source sink from to) p1.0 c (lt_suc c count h));
      holds_data = λ c h moves. ltb-true _ _ (given (is_transfer sink.pace to c) _ (below_true count (holds_data sink to) p2.0 c h) moves);
      errors = λ some c h moves.
          eqb-true _ _ (given (is_transfer sink.pace to c) _ (below_true count (has_errors passes source sink from to) (given (nat_lt 0 sink.error_bits) _ p2.1 (lt-ltb 0 sink.error_bits some)) c h) moves);
    }

abbrev pub lags : ℕ → (ℕ → Bool) → Side → Side → EndView → EndView → ℕ → Bool
lags limit passes source sink from to count =
    each_below (suc count) (λ c. nat_le (length (kept_symbols passes source from c)) (length (delivered_symbols sink to c) + limit))

pub lags_true : (limit : ℕ) (passes : ℕ → Bool) (source sink : Side) (from to : EndView) (count : ℕ) → lags limit passes source sink from to count ≡ true → LagsWithin limit passes source sink from to count
lags_true limit passes source sink from to count e c h = leb-true _ _ (below_true (suc count) _ e c (lt_suc c count h))

abbrev pub shows_dropped : Side → Side → EndView → (ℕ → ℕ) → ℕ → Bool
shows_dropped source sink from dropped count =
    each_below count (λ c. same_bool (is_high dropped c) (is_transfer source.pace from c && nat_lt sink.max_channel (from.channel c)))

shows_dropped_true : (source sink : Side) (from : EndView) (dropped : ℕ → ℕ) (count : ℕ) → shows_dropped source sink from dropped count ≡ true → ShowsDropped source sink from dropped count
shows_dropped_true source sink from dropped count e c h = same_bool_true _ _ (below_true count _ e c h)

abbrev pub is_proper : Side → EndView → ℕ → Bool
is_proper side view count = each_below count (λ c. keeps_pace side.pace view c)

is_proper_true : (side : Side) (view : EndView) (count : ℕ) → is_proper side view count ≡ true → IsProperAtSink side view count
is_proper_true side view count e c h = keeps_pace_true side.pace view c (below_true count _ e c h)

abbrev pub is_served : Stream → StreamRun → ℕ → Bool
is_served stream run count =
    delivers (reaches stream.sink) stream.source stream.sink run.source run.sink count
    && (lags (stream_lag stream) (reaches stream.sink) stream.source stream.sink run.source run.sink count
    && (is_proper stream.sink run.sink count && shows_dropped stream.source stream.sink run.source run.dropped count))

pub is_served_true : (stream : Stream) (run : StreamRun) (count : ℕ) → is_served stream run count ≡ true → IsServed stream run count
is_served_true stream run count e =
    let p1 = and_parts (delivers (reaches stream.sink) stream.source stream.sink run.source run.sink count) _ e in
    let p2 = and_parts (lags (stream_lag stream) (reaches stream.sink) stream.source stream.sink run.source run.sink count) _ p1.1 in
    let p3 = and_parts (is_proper stream.sink run.sink count) (shows_dropped stream.source stream.sink run.source run.dropped count) p2.1 in
    record {
      delivers = delivers_true (reaches stream.sink) stream.source stream.sink run.source run.sink count p1.0;
      lags = lags_true (stream_lag stream) (reaches stream.sink) stream.source stream.sink run.source run.sink count p2.0;
      proper = is_proper_true stream.sink run.sink count p3.0;
      drops = shows_dropped_true stream.source stream.sink run.source run.dropped count p3.1;
    }
