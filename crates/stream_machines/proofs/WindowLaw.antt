-- The machine with a window of symbols keeps the law of a stage.
use Rattle.std.proofs.Common.{◌≡◌, ◌⊎◌, ℕ, zero, suc, ◌+◌, ◌-◌, ◌≤◌, ◌<◌, Bool, true, false, cond, not, IsTrue, IsFalse, ◌&&◌, ◌||◌, List, [], ◌∷◌, ◌++◌, map, length, take, drop, fold, refl, ap, sym, ◌∙◌, subst, inl, inr, arith, append_assoc, length-drop, eqb, nat_le}
use Rattle.std.specs.List.{list_any, range_with_len}
use Rattle.std.specs.Int.Bits.{bit_or, or_zero_l, or_self}
use Rattle.std.proofs.lemmas.List.{append-nil, map-append, length-map, take-append-drop, drop-map, take-map}
use Rattle.std.proofs.lemmas.List.FromFn.{length-map-range_with_len}
use Rattle.std.proofs.Math.ListN.{drop_of_length-le}
use Rattle.std.proofs.Math.Seq.{take-append-add, drop-append-add}
use Rattle.std.proofs.lemmas.Bool.{cases_Bool, cases_lt, and_from, and_left, and_right, or_left, or_right, cond-true, cond-false, eq-eqb, eqb-true, both_ways, le-leb, leb-true}
use Rattle.stream_runs.specs.Laws.{shown_holds}
use Rattle.stream_runs.specs.View.{Pace, EndView, Side, Beat, beat_at, is_high, is_transfer}
use Rattle.stream_runs.specs.Symbols.{Symbol, without_error, symbol_in, symbol_count, shown_count, shown_symbols, symbols_in, joined_error}
use Rattle.stream_runs.specs.Source.{IsLegalSource, IsLegalAt, IsHeld, ShowsSame, is_open, channel_before}
use Rattle.stream_machines.specs.Stage.{KeepsStageLaw, inside, is_at_rest, is_idle}
use Rattle.stream_machines.specs.Flow.{IsFlow, PassesOn, ShowsNext, kept_in, kept_shown}
use Rattle.stream_machines.specs.Parts.{plain_run}
use Rattle.stream_machines.specs.Windows.{Row, AreSameRow, is_whole, with_beat, behind_beat, IsFront, next_row, IsWindowRun, window_hold, window_shape}
use Rattle.stream_machines.proofs.Errors.{errors_of, join, joined_is, join-append}
use Rattle.stream_machines.proofs.FlowLaw.{no_rank}
use Rattle.stream_machines.proofs.FlowKeeps.{flow_keeps}
use Rattle.stream_machines.proofs.Direct.{direct_transfer, direct_ready, rests_with, idle_with, ready_frees, kept_in_all, kept_shown_all, or_none}
use Rattle.stream_machines.proofs.Kept.{is_last, list_any-without_error}
use Rattle.stream_machines.proofs.WindowRows.{row_symbols, row_length, same_symbols, row_with_beat, front_symbols, front_some, left_symbols, none_ends}

-- ---- errors

-- each symbol has this error
abbrev AllErr : ℕ → List Symbol → Type 0
AllErr error [] = Unit {0}
AllErr error (symbol ∷ symbols) = (symbol.error ≡ error) × AllErr error symbols

err-drop : (error n : ℕ) (xs : List Symbol) → AllErr error xs → AllErr error (drop n xs)
err-drop error zero xs all = all
err-drop error (suc n) [] all = tt
err-drop error (suc n) (x ∷ xs) all = err-drop error n xs all.1

err-take : (error n : ℕ) (xs : List Symbol) → AllErr error xs → AllErr error (take n xs)
err-take error zero xs all = tt
err-take error (suc n) [] all = tt
err-take error (suc n) (x ∷ xs) all = (all.0, err-take error n xs all.1)

err_beat : (side : Side) (beat : Beat) (js : List ℕ) → AllErr beat.error (map (symbol_in side beat) js)
err_beat side beat [] = tt
err_beat side beat (j ∷ js) = (refl, err_beat side beat js)

joined_on : (error : ℕ) (xs : List Symbol) → AllErr error xs → fold (λ e (symbol : Symbol). bit_or e symbol.error) error xs ≡ error
joined_on error [] all = refl
joined_on error (x ∷ xs) all = ap (λ e. fold (λ e (symbol : Symbol). bit_or e symbol.error) (bit_or error e) xs) all.0 ∙ (ap (λ e. fold (λ e (symbol : Symbol). bit_or e symbol.error) e xs) (or_self error) ∙ joined_on error xs all.1)

joined_alike : (error : ℕ) (xs : List Symbol) → 0 < length xs → AllErr error xs → joined_error xs ≡ error
joined_alike error [] some all = absurd (omega (arith, some))
joined_alike error (x ∷ xs) some all = ap (λ e. fold (λ e (symbol : Symbol). bit_or e symbol.error) (bit_or 0 e) xs) all.0 ∙ (ap (λ e. fold (λ e (symbol : Symbol). bit_or e symbol.error) e xs) (or_zero_l error) ∙ joined_on error xs all.1)

joined-append : (xs ys : List Symbol) → joined_error (xs ++ ys) ≡ bit_or (joined_error xs) (joined_error ys)
joined-append xs ys =
    joined_is (xs ++ ys) ∙ (ap join (map-append (λ (symbol : Symbol). symbol.error) xs ys) ∙ (join-append (errors_of xs) (errors_of ys)
    ∙ (ap (λ n. bit_or n (join (errors_of ys))) (sym (joined_is xs)) ∙ ap (bit_or (joined_error xs)) (sym (joined_is ys)))))

-- ---- lists

-- a list of fewer, and the rest from another one
take_over : {A : Type 0} (n : ℕ) (xs ys : List A) → length xs ≤ n → take n (xs ++ ys) ≡ xs ++ take (n - length xs) ys
take_over n xs ys few = let split : n ≡ length xs + (n - length xs) = omega (arith, few) in ap (λ k. take k (xs ++ ys)) split ∙ take-append-add xs ys (n - length xs)

drop_over : {A : Type 0} (n : ℕ) (xs ys : List A) → length xs ≤ n → drop n (xs ++ ys) ≡ drop (n - length xs) ys
drop_over n xs ys few = let split : n ≡ length xs + (n - length xs) = omega (arith, few) in ap (λ k. drop k (xs ++ ys)) split ∙ drop-append-add xs ys (n - length xs)

take_some : {A : Type 0} (n : ℕ) (xs : List A) → 0 < n → 0 < length xs → 0 < length (take n xs)
take_some zero xs p q = absurd (omega (arith, p))
take_some (suc n) [] p q = absurd (omega (arith, q))
take_some (suc n) (x ∷ xs) p q = omega arith

-- a row of symbols that makes no beat
unwhole : (size : ℕ) (row : Row) → is_whole size row ≡ false → (row.count < size) × (eqb row.last 1 ≡ false)
unwhole size row f = (below (cases_lt row.count size), (or_none (nat_le size row.count) (eqb row.last 1) f).1)
  where
    below : (row.count < size) ⊎ (size ≤ row.count) → row.count < size
    below (inl less) = less
    below (inr more) = absurd (both_ways _ (or_none (nat_le size row.count) (eqb row.last 1) f).0 (le-leb size row.count more))

module _ (passes : ℕ → Bool) (from into : Side) (up down : EndView) (held : ℕ → Row) (run : IsWindowRun from into up down held) (positive : 0 < from.symbols) (positive' : 0 < into.symbols) (direct : from.pace.latency ≡ 0) (pace : into.pace ≡ from.pace)
    (no_channels : IsFalse from.packets → from.max_channel ≡ 0) (all_pass : (channel : ℕ) → channel ≤ from.max_channel → IsTrue (passes channel)) where
  into_direct : into.pace.latency ≡ 0
  into_direct = ap (λ (p : Pace). p.latency) pace ∙ direct

  -- ---- what happens in a cycle

  data Happens (c : ℕ) : Type 0 where
    whole_waits : is_whole into.symbols (held c) ≡ true → is_high down.valid c ≡ true → is_transfer into.pace down c ≡ false → is_transfer from.pace up c ≡ false → Happens c
    whole_goes : is_whole into.symbols (held c) ≡ true → is_high down.valid c ≡ true → is_transfer into.pace down c ≡ true → is_transfer from.pace up c ≡ false → Happens c
    idles : is_whole into.symbols (held c) ≡ false → is_high up.valid c ≡ false → is_high down.valid c ≡ false → is_high up.ready c ≡ true → is_transfer into.pace down c ≡ false → is_transfer from.pace up c ≡ false → Happens c
    joined_waits : is_whole into.symbols (held c) ≡ false → is_high up.valid c ≡ true → is_whole into.symbols (with_beat from (held c) (beat_at up c)) ≡ true → is_high down.valid c ≡ true → is_transfer into.pace down c ≡ false → is_transfer from.pace up c ≡ false → Happens c
    joined_goes : is_whole into.symbols (held c) ≡ false → is_high up.valid c ≡ true → is_whole into.symbols (with_beat from (held c) (beat_at up c)) ≡ true → is_high down.valid c ≡ true → is_transfer into.pace down c ≡ true → is_transfer from.pace up c ≡ true → Happens c
    gathers : is_whole into.symbols (held c) ≡ false → is_high up.valid c ≡ true → is_whole into.symbols (with_beat from (held c) (beat_at up c)) ≡ false → is_high down.valid c ≡ false → is_high up.ready c ≡ true → is_transfer into.pace down c ≡ false → is_transfer from.pace up c ≡ true → Happens c

  module _ (c : ℕ) (legal : IsLegalSource from up (suc c)) where
    goes_is : is_transfer into.pace down c ≡ (is_high down.valid c && is_high down.ready c)
    goes_is = direct_transfer into.pace down c into_direct

    comes_is : is_transfer from.pace up c ≡ (is_high up.valid c && is_high up.ready c)
    comes_is = direct_transfer from.pace up c direct

    happens : Happens c
    happens = by_whole (cases_Bool (is_whole into.symbols (held c)))
      where
        by_whole : (is_whole into.symbols (held c) ≡ true) ⊎ (is_whole into.symbols (held c) ≡ false) → Happens c
        by_whole (inl whole) =
            let valid : is_high down.valid c ≡ true = run.valid c legal ∙ or_left _ _ whole in
            let asks : is_high up.ready c ≡ false = run.asks c legal ∙ and_left (not (is_whole into.symbols (held c))) _ (ap not whole) in
            let comes : is_transfer from.pace up c ≡ false = comes_is ∙ and_right (is_high up.valid c) _ asks in
            by_ready whole valid comes (cases_Bool (is_high down.ready c))
          where
            by_ready : is_whole into.symbols (held c) ≡ true → is_high down.valid c ≡ true → is_transfer from.pace up c ≡ false → (is_high down.ready c ≡ true) ⊎ (is_high down.ready c ≡ false) → Happens c
            by_ready whole valid comes (inl ready) = whole_goes whole valid (goes_is ∙ and_from _ _ valid ready) comes
            by_ready whole valid comes (inr low) = whole_waits whole valid (goes_is ∙ and_right (is_high down.valid c) _ low) comes
        by_whole (inr part) = by_valid part (cases_Bool (is_high up.valid c))
          where
            asks_now : is_whole into.symbols (held c) ≡ false → is_high up.ready c ≡ (not (is_high down.valid c) || is_high down.ready c)
            asks_now part = run.asks c legal ∙ ap (λ b. not b && (not (is_high down.valid c) || is_high down.ready c)) part

            valid_now : is_whole into.symbols (held c) ≡ false → is_high down.valid c ≡ (is_high up.valid c && is_whole into.symbols (with_beat from (held c) (beat_at up c)))
            valid_now part = run.valid c legal ∙ ap (λ b. b || (is_high up.valid c && is_whole into.symbols (with_beat from (held c) (beat_at up c)))) part

            by_valid : is_whole into.symbols (held c) ≡ false → (is_high up.valid c ≡ true) ⊎ (is_high up.valid c ≡ false) → Happens c
            by_valid part (inr low) =
                let none : is_high down.valid c ≡ false = valid_now part ∙ and_left (is_high up.valid c) _ low in
                idles part low none (asks_now part ∙ or_left _ _ (ap not none)) (goes_is ∙ and_left (is_high down.valid c) _ none) (comes_is ∙ and_left (is_high up.valid c) _ low)
            by_valid part (inl shown) = by_joined part shown (cases_Bool (is_whole into.symbols (with_beat from (held c) (beat_at up c))))
              where
                by_joined : is_whole into.symbols (held c) ≡ false → is_high up.valid c ≡ true → (is_whole into.symbols (with_beat from (held c) (beat_at up c)) ≡ true) ⊎ (is_whole into.symbols (with_beat from (held c) (beat_at up c)) ≡ false) → Happens c
                by_joined part shown (inr few) =
                    let none : is_high down.valid c ≡ false = valid_now part ∙ and_right (is_high up.valid c) _ few in
                    let asked : is_high up.ready c ≡ true = asks_now part ∙ or_left _ _ (ap not none) in
                    gathers part shown few none asked (goes_is ∙ and_left (is_high down.valid c) _ none) (comes_is ∙ and_from _ _ shown asked)
                by_joined part shown (inl done) =
                    let valid : is_high down.valid c ≡ true = valid_now part ∙ and_from _ _ shown done in
                    let asked : is_high up.ready c ≡ is_high down.ready c = asks_now part ∙ ap (λ b. not b || is_high down.ready c) valid in
                    by_ready part shown done valid asked (cases_Bool (is_high down.ready c))
                  where
                    by_ready : is_whole into.symbols (held c) ≡ false → is_high up.valid c ≡ true → is_whole into.symbols (with_beat from (held c) (beat_at up c)) ≡ true → is_high down.valid c ≡ true → is_high up.ready c ≡ is_high down.ready c → (is_high down.ready c ≡ true) ⊎ (is_high down.ready c ≡ false) → Happens c
                    by_ready part shown done valid asked (inl ready) = joined_goes part shown done valid (goes_is ∙ and_from _ _ valid ready) (comes_is ∙ and_from _ _ shown (asked ∙ ready))
                    by_ready part shown done valid asked (inr low) = joined_waits part shown done valid (goes_is ∙ and_right (is_high down.valid c) _ low) (comes_is ∙ and_right (is_high up.valid c) _ (asked ∙ low))

  -- ---- the symbols that are there

  abbrev store : ℕ → List Symbol
  store zero = []
  store (suc c) = cond (is_transfer into.pace down c) (drop into.symbols (cond (is_whole into.symbols (held c)) (store c) (store c ++ shown_symbols from up c))) (cond (is_transfer from.pace up c) (store c ++ shown_symbols from up c) (store c))

  -- what is known of them where a packet is open or not, behind a beat on this channel
  record Holds (opened : Bool) (channel : ℕ) (row : Row) (symbols : List Symbol) : Type 0 where
    same : map without_error symbols ≡ row_symbols row
    error : row.error ≡ joined_error symbols
    alike : is_whole into.symbols row ≡ true → AllErr row.error symbols
    few : row.count ≤ window_hold from.symbols into.symbols
    some : is_whole into.symbols row ≡ true → 0 < row.count
    on_channel : 0 < row.count → (row.channel ≡ channel) × (row.channel ≤ from.max_channel)
    goes_on : 0 < row.count → eqb row.last 1 ≡ false → opened ≡ true

  long_of : (opened : Bool) (channel : ℕ) (row : Row) (symbols : List Symbol) → Holds opened channel row symbols → length symbols ≡ row.count
  long_of opened channel row symbols h = sym (length-map symbols without_error) ∙ (ap length h.same ∙ row_length row)

  -- fewer symbols than a beat of either side may be held
  hold_below : (n : ℕ) → n < into.symbols → n ≤ window_hold from.symbols into.symbols
  hold_below n less = by_size (cases_Bool (nat_le from.symbols into.symbols))
    where
      by_size : (nat_le from.symbols into.symbols ≡ true) ⊎ (nat_le from.symbols into.symbols ≡ false) → n ≤ window_hold from.symbols into.symbols
      by_size (inl small) = let is = cond-true (nat_le from.symbols into.symbols) (into.symbols - 1) (from.symbols - 1) small in omega (arith, is, less)
      by_size (inr large) = let is = cond-false (nat_le from.symbols into.symbols) (into.symbols - 1) (from.symbols - 1) large in let more = nat_above large in omega (arith, is, less, more)
        where
          nat_above : nat_le from.symbols into.symbols ≡ false → into.symbols < from.symbols
          nat_above f = by_order (cases_lt into.symbols from.symbols)
            where
              by_order : (into.symbols < from.symbols) ⊎ (from.symbols ≤ into.symbols) → into.symbols < from.symbols
              by_order (inl less) = less
              by_order (inr more) = absurd (both_ways _ f (le-leb from.symbols into.symbols more))

  hold_before : (n : ℕ) → n < from.symbols → n ≤ window_hold from.symbols into.symbols
  hold_before n less = by_size (cases_Bool (nat_le from.symbols into.symbols))
    where
      by_size : (nat_le from.symbols into.symbols ≡ true) ⊎ (nat_le from.symbols into.symbols ≡ false) → n ≤ window_hold from.symbols into.symbols
      by_size (inl small) = let is = cond-true (nat_le from.symbols into.symbols) (into.symbols - 1) (from.symbols - 1) small in let more = leb-true from.symbols into.symbols small in omega (arith, is, less, more)
      by_size (inr large) = let is = cond-false (nat_le from.symbols into.symbols) (into.symbols - 1) (from.symbols - 1) large in omega (arith, is, less)

  -- what is left behind a beat
  left : (opened : Bool) (channel error : ℕ) (row : Row) (symbols : List Symbol) → map without_error symbols ≡ row_symbols row → AllErr error (drop into.symbols symbols) → row.count - into.symbols ≤ window_hold from.symbols into.symbols
      → (0 < row.count → (row.channel ≡ channel) × (row.channel ≤ from.max_channel)) → (0 < row.count → eqb row.last 1 ≡ false → opened ≡ true) → Holds opened channel (behind_beat into.symbols error row) (drop into.symbols symbols)
  left opened channel error row symbols same alike few on_channel goes_on = by_fit (cases_Bool (nat_le row.count into.symbols))
    where
      long : length symbols ≡ row.count
      long = sym (length-map symbols without_error) ∙ (ap length same ∙ row_length row)

      left_same : map without_error (drop into.symbols symbols) ≡ row_symbols (behind_beat into.symbols error row)
      left_same = sym (drop-map without_error into.symbols symbols) ∙ (ap (drop into.symbols) same ∙ sym (left_symbols into.symbols error row positive'))

      by_fit : (nat_le row.count into.symbols ≡ true) ⊎ (nat_le row.count into.symbols ≡ false) → Holds opened channel (behind_beat into.symbols error row) (drop into.symbols symbols)
      by_fit (inl fit) =
          let small : row.count ≤ into.symbols = leb-true row.count into.symbols fit in
          let none : drop into.symbols symbols ≡ [] = drop_of_length-le symbols (let n = long in omega (arith, n, small)) in
          let error_is : (behind_beat into.symbols error row).error ≡ 0 = cond-true (nat_le row.count into.symbols) 0 error fit in
          let last_is : (behind_beat into.symbols error row).last ≡ 0 = cond-true (nat_le row.count into.symbols) 0 row.last fit in
          let part : is_whole into.symbols (behind_beat into.symbols error row) ≡ false = none_whole (behind_beat into.symbols error row) (omega (arith, small)) last_is in
          record {
            same = left_same;
            error = error_is ∙ sym (ap joined_error none);
            alike = λ whole. absurd (both_ways _ part whole);
            few = few;
            some = λ whole. absurd (both_ways _ part whole);
            on_channel = λ some. absurd (omega (arith, some, small));
            goes_on = λ some going. absurd (omega (arith, some, small));
          }
        where
          none_whole : (row : Row) → row.count ≡ 0 → row.last ≡ 0 → is_whole into.symbols row ≡ false
          none_whole row none unended = rw (none, unended) (by_size (cases_Bool (nat_le into.symbols 0)))
            where
              by_size : (nat_le into.symbols 0 ≡ true) ⊎ (nat_le into.symbols 0 ≡ false) → (nat_le into.symbols 0 || eqb 0 1) ≡ false
              by_size (inl t) = (let le = leb-true into.symbols 0 t in let p = positive' in absurd (omega (arith, le, p)))
              by_size (inr f) = rw f refl
      by_fit (inr over) =
          let error_is : (behind_beat into.symbols error row).error ≡ error = cond-false (nat_le row.count into.symbols) 0 error over in
          let last_is : (behind_beat into.symbols error row).last ≡ row.last = cond-false (nat_le row.count into.symbols) 0 row.last over in
          let many : into.symbols < row.count = above over in
          record {
            same = left_same;
            error = error_is ∙ sym (joined_alike error (drop into.symbols symbols) (let n = length-drop into.symbols symbols in let m = long in omega (arith, n, m, many)) alike);
            alike = λ whole. subst (λ e. AllErr e (drop into.symbols symbols)) (sym error_is) alike;
            few = few;
            some = λ whole. omega (arith, many);
            on_channel = λ some. on_channel (omega (arith, many));
            goes_on = λ some going. goes_on (omega (arith, many)) (ap (λ n. eqb n 1) (sym last_is) ∙ going);
          }
        where
          above : nat_le row.count into.symbols ≡ false → into.symbols < row.count
          above f = by_order (cases_lt into.symbols row.count)
            where
              by_order : (into.symbols < row.count) ⊎ (row.count ≤ into.symbols) → into.symbols < row.count
              by_order (inl less) = less
              by_order (inr more) = absurd (both_ways _ f (le-leb row.count into.symbols more))

  -- a row of the same symbols
  holds_same : (opened : Bool) (channel : ℕ) (one other : Row) (symbols : List Symbol) → AreSameRow one other → Holds opened channel other symbols → Holds opened channel one symbols
  holds_same opened channel one other symbols s h = record {
    same = h.same ∙ sym (same_symbols one other s);
    error = s.error ∙ h.error;
    alike = λ whole. subst (λ e. AllErr e symbols) (sym s.error) (h.alike (sym (alike_whole) ∙ whole));
    few = subst (λ n. n ≤ window_hold from.symbols into.symbols) (sym s.count) h.few;
    some = λ whole. subst (λ n. 0 < n) (sym s.count) (h.some (sym (alike_whole) ∙ whole));
    on_channel = λ some. (let o = h.on_channel (subst (λ n. 0 < n) s.count some) in (s.channel ∙ o.0, subst (λ n. n ≤ from.max_channel) (sym s.channel) o.1));
    goes_on = λ some going. h.goes_on (subst (λ n. 0 < n) s.count some) (ap (λ n. eqb n 1) (sym s.last) ∙ going);
  } where
    alike_whole : is_whole into.symbols one ≡ is_whole into.symbols other
    alike_whole = ap (λ n. nat_le into.symbols n || eqb one.last 1) s.count ∙ ap (λ n. nat_le into.symbols other.count || eqb n 1) s.last

  -- ---- with the beat that comes

  module _ (c : ℕ) (legal : IsLegalAt from up c) (shown : is_high up.valid c ≡ true) (part : is_whole into.symbols (held c) ≡ false) (h : Holds (is_open from.pace up c) (channel_before from.pace up c) (held c) (store c)) where
    some_shown : 0 < shown_count from up c
    some_shown = shown_holds from up positive c legal shown

    shown_long : length (shown_symbols from up c) ≡ shown_count from up c
    shown_long = length-map-range_with_len (symbol_in from (beat_at up c)) 0 (shown_count from up c)

    few_shown : shown_count from up c ≤ from.symbols
    few_shown = by_last (is_high up.last c)
      where
        by_last : (b : Bool) → cond b (from.symbols - up.empty c) from.symbols ≤ from.symbols
        by_last true = omega arith
        by_last false = omega arith

    channels_meet : 0 < (held c).count → (held c).channel ≡ up.channel c
    channels_meet some = by_packets (cases_Bool from.packets)
      where
        by_packets : (from.packets ≡ true) ⊎ (from.packets ≡ false) → (held c).channel ≡ up.channel c
        by_packets (inl packets) = (h.on_channel some).0 ∙ sym ((legal.formed shown).one_channel packets (h.goes_on some (unwhole into.symbols (held c) part).1))
        by_packets (inr none) = let range = (h.on_channel some).1 in let range' = (legal.formed shown).in_range in let only = no_channels none in omega (arith, range, range', only)

    unmarked : 0 < (held c).count → eqb (up.first c) 1 ≡ false
    unmarked some = by_packets (cases_Bool from.packets)
      where
        by_packets : (from.packets ≡ true) ⊎ (from.packets ≡ false) → eqb (up.first c) 1 ≡ false
        by_packets (inl packets) = (legal.formed shown).begins packets ∙ ap not (h.goes_on some (unwhole into.symbols (held c) part).1)
        by_packets (inr none) = ((legal.formed shown).unmarked none).0

    below : (held c).count < into.symbols
    below = (unwhole into.symbols (held c) part).0

    symbols_joined : map without_error (store c ++ shown_symbols from up c) ≡ row_symbols (with_beat from (held c) (beat_at up c))
    symbols_joined =
        map-append without_error (store c) (shown_symbols from up c) ∙ (ap (λ (xs : List Symbol). xs ++ map without_error (shown_symbols from up c)) h.same
        ∙ sym (row_with_beat from (held c) (beat_at up c) (unwhole into.symbols (held c) part).1 some_shown channels_meet unmarked))

    error_joined : (with_beat from (held c) (beat_at up c)).error ≡ joined_error (store c ++ shown_symbols from up c)
    error_joined =
        ap (λ n. bit_or n (up.error c)) h.error
        ∙ (ap (bit_or (joined_error (store c))) (sym (joined_alike (up.error c) (shown_symbols from up c) (let long = shown_long in let some = some_shown in omega (arith, long, some)) (err_beat from (beat_at up c) (range_with_len 0 (shown_count from up c)))))
        ∙ sym (joined-append (store c) (shown_symbols from up c)))

    store_long : length (store c) < into.symbols
    store_long = let long = long_of _ _ _ _ h in let less = below in omega (arith, long, less)

    -- the front of all has a symbol of the beat that comes, so it bears its error too
    error_front : is_whole into.symbols (with_beat from (held c) (beat_at up c)) ≡ true → (with_beat from (held c) (beat_at up c)).error ≡ joined_error (take into.symbols (store c ++ shown_symbols from up c))
    error_front done =
        let rest : List Symbol = take (into.symbols - length (store c)) (shown_symbols from up c) in
        let long = shown_long in let some = some_shown in let less = store_long in
        ap (λ n. bit_or n (up.error c)) h.error
        ∙ (ap (bit_or (joined_error (store c))) (sym (joined_alike (up.error c) rest (take_some (into.symbols - length (store c)) (shown_symbols from up c) (omega (arith, less)) (omega (arith, long, some)))
        (err-take (up.error c) (into.symbols - length (store c)) (shown_symbols from up c) (err_beat from (beat_at up c) (range_with_len 0 (shown_count from up c))))))
        ∙ (sym (joined-append (store c) rest) ∙ ap joined_error (sym (take_over into.symbols (store c) (shown_symbols from up c) (omega (arith, less))))))

    -- what is left are symbols of the beat that comes
    left_alike : AllErr (up.error c) (drop into.symbols (store c ++ shown_symbols from up c))
    left_alike =
        subst (AllErr (up.error c)) (sym (drop_over into.symbols (store c) (shown_symbols from up c) (let less = store_long in omega (arith, less))))
        (err-drop (up.error c) (into.symbols - length (store c)) (shown_symbols from up c) (err_beat from (beat_at up c) (range_with_len 0 (shown_count from up c))))

    gathered : is_whole into.symbols (with_beat from (held c) (beat_at up c)) ≡ false → Holds (not (is_high up.last c)) (up.channel c) (with_beat from (held c) (beat_at up c)) (store c ++ shown_symbols from up c)
    gathered few = record {
      same = symbols_joined;
      error = error_joined;
      alike = λ whole. absurd (both_ways _ few whole);
      few = hold_below ((held c).count + shown_count from up c) (unwhole into.symbols (with_beat from (held c) (beat_at up c)) few).0;
      some = λ whole. absurd (both_ways _ few whole);
      on_channel = λ some. (refl, (legal.formed shown).in_range);
      goes_on = λ some going. ap not going;
    }

    -- and what it leaves behind a beat that goes
    left_behind : Holds (not (is_high up.last c)) (up.channel c) (behind_beat into.symbols (up.error c) (with_beat from (held c) (beat_at up c))) (drop into.symbols (store c ++ shown_symbols from up c))
    left_behind =
        left (not (is_high up.last c)) (up.channel c) (up.error c) (with_beat from (held c) (beat_at up c)) (store c ++ shown_symbols from up c) symbols_joined left_alike
        (hold_before ((held c).count + shown_count from up c - into.symbols) (let less = below in let few = few_shown in let p = positive in omega (arith, less, few, p)))
        (λ some. (refl, (legal.formed shown).in_range)) (λ some going. ap not going)

  -- ---- in each cycle

  starts_so : Holds false 0 (held 0) []
  starts_so = holds_same false 0 (held 0) (record { count = 0; value = λ k. 0; channel = 0; error = 0; first = 0; last = 0 }) [] run.starts (record {
    same = refl;
    error = refl;
    alike = λ whole. tt;
    few = omega arith;
    some = λ whole. absurd (both_ways _ (none_whole (cases_Bool (nat_le into.symbols 0))) whole);
    on_channel = λ some. absurd (omega (arith, some));
    goes_on = λ some going. absurd (omega (arith, some));
  }) where
    none_whole : (nat_le into.symbols 0 ≡ true) ⊎ (nat_le into.symbols 0 ≡ false) → (nat_le into.symbols 0 || eqb 0 1) ≡ false
    none_whole (inl t) = (let le = leb-true into.symbols 0 t in let p = positive' in absurd (omega (arith, le, p)))
    none_whole (inr f) = rw f refl

  -- where no beat comes in, the packet and the channel stay
  module _ (c : ℕ) (row : Row) (symbols : List Symbol) where
    none_came : is_transfer from.pace up c ≡ false → Holds (is_open from.pace up c) (channel_before from.pace up c) row symbols → Holds (is_open from.pace up (suc c)) (channel_before from.pace up (suc c)) row symbols
    none_came stays h =
        subst (λ o. Holds o (channel_before from.pace up (suc c)) row symbols) (sym (cond-false (is_transfer from.pace up c) (not (is_high up.last c)) (is_open from.pace up c) stays))
        (subst (λ n. Holds (is_open from.pace up c) n row symbols) (sym (cond-false (is_transfer from.pace up c) (up.channel c) (channel_before from.pace up c) stays)) h)

    one_came : is_transfer from.pace up c ≡ true → Holds (not (is_high up.last c)) (up.channel c) row symbols → Holds (is_open from.pace up (suc c)) (channel_before from.pace up (suc c)) row symbols
    one_came moves h =
        subst (λ o. Holds o (channel_before from.pace up (suc c)) row symbols) (sym (cond-true (is_transfer from.pace up c) (not (is_high up.last c)) (is_open from.pace up c) moves))
        (subst (λ n. Holds (not (is_high up.last c)) n row symbols) (sym (cond-true (is_transfer from.pace up c) (up.channel c) (channel_before from.pace up c) moves)) h)

  -- what the row and the symbols are then
  module _ (c : ℕ) (legal : IsLegalSource from up (suc c)) where
    stays_row : is_transfer into.pace down c ≡ false → is_transfer from.pace up c ≡ false → AreSameRow (held (suc c)) (held c)
    stays_row out came = subst (AreSameRow (held (suc c))) (cond-false (is_transfer into.pace down c) _ _ out ∙ cond-false (is_transfer from.pace up c) _ _ came) (run.moves c legal)

    stays_store : is_transfer into.pace down c ≡ false → is_transfer from.pace up c ≡ false → store (suc c) ≡ store c
    stays_store out came = cond-false (is_transfer into.pace down c) _ _ out ∙ cond-false (is_transfer from.pace up c) _ _ came

    whole_row : is_whole into.symbols (held c) ≡ true → is_transfer into.pace down c ≡ true → AreSameRow (held (suc c)) (behind_beat into.symbols (held c).error (held c))
    whole_row whole out =
        subst (AreSameRow (held (suc c))) (cond-true (is_transfer into.pace down c) _ _ out ∙ (ap (λ (e : ℕ). behind_beat into.symbols e (next_row from into up (held c) c)) (cond-true (is_whole into.symbols (held c)) (held c).error (up.error c) whole)
        ∙ ap (behind_beat into.symbols (held c).error) (cond-true (is_whole into.symbols (held c)) (held c) (with_beat from (held c) (beat_at up c)) whole))) (run.moves c legal)

    whole_store : is_whole into.symbols (held c) ≡ true → is_transfer into.pace down c ≡ true → store (suc c) ≡ drop into.symbols (store c)
    whole_store whole out = cond-true (is_transfer into.pace down c) _ _ out ∙ ap (drop into.symbols) (cond-true (is_whole into.symbols (held c)) (store c) (store c ++ shown_symbols from up c) whole)

    joined_row : is_whole into.symbols (held c) ≡ false → is_transfer into.pace down c ≡ true → AreSameRow (held (suc c)) (behind_beat into.symbols (up.error c) (with_beat from (held c) (beat_at up c)))
    joined_row part out =
        subst (AreSameRow (held (suc c))) (cond-true (is_transfer into.pace down c) _ _ out ∙ (ap (λ (e : ℕ). behind_beat into.symbols e (next_row from into up (held c) c)) (cond-false (is_whole into.symbols (held c)) (held c).error (up.error c) part)
        ∙ ap (behind_beat into.symbols (up.error c)) (cond-false (is_whole into.symbols (held c)) (held c) (with_beat from (held c) (beat_at up c)) part))) (run.moves c legal)

    joined_store : is_whole into.symbols (held c) ≡ false → is_transfer into.pace down c ≡ true → store (suc c) ≡ drop into.symbols (store c ++ shown_symbols from up c)
    joined_store part out = cond-true (is_transfer into.pace down c) _ _ out ∙ ap (drop into.symbols) (cond-false (is_whole into.symbols (held c)) (store c) (store c ++ shown_symbols from up c) part)

    gathered_row : is_transfer into.pace down c ≡ false → is_transfer from.pace up c ≡ true → AreSameRow (held (suc c)) (with_beat from (held c) (beat_at up c))
    gathered_row out came = subst (AreSameRow (held (suc c))) (cond-false (is_transfer into.pace down c) _ _ out ∙ cond-true (is_transfer from.pace up c) _ _ came) (run.moves c legal)

    gathered_store : is_transfer into.pace down c ≡ false → is_transfer from.pace up c ≡ true → store (suc c) ≡ store c ++ shown_symbols from up c
    gathered_store out came = cond-false (is_transfer into.pace down c) _ _ out ∙ cond-true (is_transfer from.pace up c) _ _ came

  so : (c : ℕ) → IsLegalSource from up c → Holds (is_open from.pace up c) (channel_before from.pace up c) (held c) (store c)
  so zero legal = starts_so
  so (suc c) legal = by_case (so c (λ b h. legal b (omega (arith, h)))) (happens c legal)
    where
      at : IsLegalAt from up c
      at = legal c (omega arith)

      nothing : Holds (is_open from.pace up c) (channel_before from.pace up c) (held c) (store c) → is_transfer into.pace down c ≡ false → is_transfer from.pace up c ≡ false → Holds (is_open from.pace up (suc c)) (channel_before from.pace up (suc c)) (held (suc c)) (store (suc c))
      nothing h out came =
          subst (Holds (is_open from.pace up (suc c)) (channel_before from.pace up (suc c)) (held (suc c))) (sym (stays_store c legal out came))
          (holds_same _ _ (held (suc c)) (held c) (store c) (stays_row c legal out came) (none_came c (held c) (store c) came h))

      by_case : Holds (is_open from.pace up c) (channel_before from.pace up c) (held c) (store c) → Happens c → Holds (is_open from.pace up (suc c)) (channel_before from.pace up (suc c)) (held (suc c)) (store (suc c))
      by_case h (whole_waits whole valid out came) = nothing h out came
      by_case h (whole_goes whole valid out came) =
          subst (Holds (is_open from.pace up (suc c)) (channel_before from.pace up (suc c)) (held (suc c))) (sym (whole_store c legal whole out))
          (holds_same _ _ (held (suc c)) (behind_beat into.symbols (held c).error (held c)) (drop into.symbols (store c)) (whole_row c legal whole out)
          (none_came c (behind_beat into.symbols (held c).error (held c)) (drop into.symbols (store c)) came
          (left _ _ (held c).error (held c) (store c) h.same (err-drop (held c).error into.symbols (store c) (h.alike whole)) (let few = h.few in omega (arith, few)) h.on_channel h.goes_on)))
      by_case h (idles part low none asked out came) = nothing h out came
      by_case h (joined_waits part shown done valid out came) = nothing h out came
      by_case h (joined_goes part shown done valid out came) =
          subst (Holds (is_open from.pace up (suc c)) (channel_before from.pace up (suc c)) (held (suc c))) (sym (joined_store c legal part out))
          (holds_same _ _ (held (suc c)) (behind_beat into.symbols (up.error c) (with_beat from (held c) (beat_at up c))) (drop into.symbols (store c ++ shown_symbols from up c)) (joined_row c legal part out)
          (one_came c (behind_beat into.symbols (up.error c) (with_beat from (held c) (beat_at up c))) (drop into.symbols (store c ++ shown_symbols from up c)) came (left_behind c at shown part h)))
      by_case h (gathers part shown few none asked out came) =
          subst (Holds (is_open from.pace up (suc c)) (channel_before from.pace up (suc c)) (held (suc c))) (sym (gathered_store c legal out came))
          (holds_same _ _ (held (suc c)) (with_beat from (held c) (beat_at up c)) (store c ++ shown_symbols from up c) (gathered_row c legal out came)
          (one_came c (with_beat from (held c) (beat_at up c)) (store c ++ shown_symbols from up c) came (gathered c at shown part h few)))

  so_far : (c : ℕ) → IsLegalSource from up (suc c) → Holds (is_open from.pace up c) (channel_before from.pace up c) (held c) (store c)
  so_far c legal = so c (λ b h. legal b (omega (arith, h)))

  -- ---- a beat that is shown

  record Front (c : ℕ) (all : List Symbol) : Type 0 where
    same : map without_error (take into.symbols all) ≡ map without_error (shown_symbols into down c)
    error : down.error c ≡ joined_error (take into.symbols all)
    some : 0 < shown_count into down c

  module _ (c : ℕ) (legal : IsLegalSource from up (suc c)) (valid : is_high down.valid c ≡ true) where
    front_of : (row : Row) (all : List Symbol) → next_row from into up (held c) c ≡ row → is_whole into.symbols row ≡ true → 0 < row.count → map without_error all ≡ row_symbols row → row.error ≡ joined_error (take into.symbols all) → Front c all
    front_of row all is whole some same error =
        let front : IsFront into row (beat_at down c) = subst (λ r. IsFront into r (beat_at down c)) is (run.shows c legal valid) in
        record {
          same = sym (take-map without_error into.symbols all) ∙ (ap (take into.symbols) same ∙ sym (front_symbols into row (beat_at down c) positive' whole front));
          error = front.error ∙ error;
          some = front_some into row (beat_at down c) positive' whole front some;
        }

    whole_front : is_whole into.symbols (held c) ≡ true → Front c (store c)
    whole_front whole =
        let h = so_far c legal in
        let some : 0 < (held c).count = h.some whole in
        let long = long_of _ _ _ _ h in
        front_of (held c) (store c) (cond-true (is_whole into.symbols (held c)) (held c) _ whole) whole some h.same
        (sym (joined_alike (held c).error (take into.symbols (store c)) (take_some into.symbols (store c) positive' (omega (arith, some, long))) (err-take (held c).error into.symbols (store c) (h.alike whole))))

    joined_front : is_whole into.symbols (held c) ≡ false → is_high up.valid c ≡ true → is_whole into.symbols (with_beat from (held c) (beat_at up c)) ≡ true → Front c (store c ++ shown_symbols from up c)
    joined_front part shown done =
        let h = so_far c legal in
        let some = some_shown c (legal c (omega arith)) shown part h in
        front_of (with_beat from (held c) (beat_at up c)) (store c ++ shown_symbols from up c) (cond-false (is_whole into.symbols (held c)) (held c) _ part) done (omega (arith, some))
        (symbols_joined c (legal c (omega arith)) shown part h) (error_front c (legal c (omega arith)) shown part h done)

  -- ---- as a flow

  passes_on : (c : ℕ) → IsLegalSource from up (suc c) → PassesOn (window_shape passes from into) (plain_run up down) store c
  passes_on c legal = by_case (happens c legal)
    where
      came : kept_in passes from up c ≡ symbols_in from up c
      came = kept_in_all passes from up c (legal c (omega arith)) all_pass

      few : length (store (suc c)) ≤ window_hold from.symbols into.symbols
      few = let h = so (suc c) legal in let long = long_of _ _ _ _ h in let few = h.few in omega (arith, long, few)

      quiet_out : is_transfer into.pace down c ≡ false → map without_error (symbols_in into down c) ≡ []
      quiet_out quiet = ap (map without_error) (cond-false (is_transfer into.pace down c) (shown_symbols into down c) [] quiet)

      quiet : is_transfer into.pace down c ≡ false → store c ++ kept_in passes from up c ≡ store (suc c) → PassesOn (window_shape passes from into) (plain_run up down) store c
      quiet out split = record {
        out = [];
        split = split;
        same = sym (quiet_out out);
        joined = λ moves. absurd (both_ways _ out moves);
        some = λ moves. absurd (both_ways _ out moves);
        few = few;
      }

      gives_front : (all : List Symbol) → is_transfer into.pace down c ≡ true → store c ++ kept_in passes from up c ≡ all → store (suc c) ≡ drop into.symbols all → Front c all → PassesOn (window_shape passes from into) (plain_run up down) store c
      gives_front all out is left front = record {
        out = take into.symbols all;
        split = is ∙ (sym (take-append-drop into.symbols all) ∙ ap (λ (xs : List Symbol). take into.symbols all ++ xs) (sym left));
        same = front.same ∙ ap (map without_error) (sym (cond-true (is_transfer into.pace down c) (shown_symbols into down c) [] out));
        joined = λ moves. front.error;
        some = λ moves. front.some;
        few = few;
      }

      none_in : is_transfer from.pace up c ≡ false → store c ++ kept_in passes from up c ≡ store c
      none_in stays = ap (λ (xs : List Symbol). store c ++ xs) (came ∙ cond-false (is_transfer from.pace up c) (shown_symbols from up c) [] stays) ∙ append-nil (store c)

      all_in : is_transfer from.pace up c ≡ true → store c ++ kept_in passes from up c ≡ store c ++ shown_symbols from up c
      all_in moves = ap (λ (xs : List Symbol). store c ++ xs) (came ∙ cond-true (is_transfer from.pace up c) (shown_symbols from up c) [] moves)

      by_case : Happens c → PassesOn (window_shape passes from into) (plain_run up down) store c
      by_case (whole_waits whole valid out stays) = quiet out (none_in stays ∙ sym (stays_store c legal out stays))
      by_case (whole_goes whole valid out stays) = gives_front (store c) out (none_in stays) (whole_store c legal whole out) (whole_front c legal valid whole)
      by_case (idles part low none asked out stays) = quiet out (none_in stays ∙ sym (stays_store c legal out stays))
      by_case (joined_waits part shown done valid out stays) = quiet out (none_in stays ∙ sym (stays_store c legal out stays))
      by_case (joined_goes part shown done valid out moves) = gives_front (store c ++ shown_symbols from up c) out (all_in moves) (joined_store c legal part out) (joined_front c legal valid part shown done)
      by_case (gathers part shown few none asked out moves) = quiet out (all_in moves ∙ sym (gathered_store c legal out moves))

  shows : (c : ℕ) → IsLegalSource from up (suc c) → IsTrue (is_high down.valid c) → ShowsNext (window_shape passes from into) (plain_run up down) store c
  shows c legal valid = by_case (happens c legal)
    where
      shown_all : is_high up.valid c ≡ true → kept_shown passes from up c ≡ shown_symbols from up c
      shown_all shown = kept_shown_all passes from up c (legal c (omega arith)) all_pass shown

      whole_shows : is_whole into.symbols (held c) ≡ true → ShowsNext (window_shape passes from into) (plain_run up down) store c
      whole_shows whole =
          let front = whole_front c legal valid whole in
          record {
            front = take into.symbols (store c);
            rest = drop into.symbols (store c) ++ kept_shown passes from up c;
            split = ap (λ (xs : List Symbol). xs ++ kept_shown passes from up c) (sym (take-append-drop into.symbols (store c))) ∙ append_assoc (take into.symbols (store c)) (drop into.symbols (store c)) (kept_shown passes from up c);
            same = front.same;
            error = front.error;
            some = front.some;
          }

      joined_shows : is_whole into.symbols (held c) ≡ false → is_high up.valid c ≡ true → is_whole into.symbols (with_beat from (held c) (beat_at up c)) ≡ true → ShowsNext (window_shape passes from into) (plain_run up down) store c
      joined_shows part shown done =
          let front = joined_front c legal valid part shown done in
          record {
            front = take into.symbols (store c ++ shown_symbols from up c);
            rest = drop into.symbols (store c ++ shown_symbols from up c);
            split = ap (λ (xs : List Symbol). store c ++ xs) (shown_all shown) ∙ sym (take-append-drop into.symbols (store c ++ shown_symbols from up c));
            same = front.same;
            error = front.error;
            some = front.some;
          }

      by_case : Happens c → ShowsNext (window_shape passes from into) (plain_run up down) store c
      by_case (whole_waits whole high out stays) = whole_shows whole
      by_case (whole_goes whole high out stays) = whole_shows whole
      by_case (idles part low none asked out stays) = absurd (both_ways _ none valid)
      by_case (joined_waits part shown done high out stays) = joined_shows part shown done
      by_case (joined_goes part shown done high out moves) = joined_shows part shown done
      by_case (gathers part shown few none asked out moves) = absurd (both_ways _ none valid)

  holds : (c : ℕ) → IsLegalSource from up (suc c) → IsHeld into.pace down c
  holds zero legal = tt
  holds (suc c) legal = λ valid quiet. by_case valid quiet (happens c before)
    where
      before : IsLegalSource from up (suc c)
      before b h = legal b (omega (arith, h))

      same_whole : AreSameRow (held (suc c)) (held c) → is_whole into.symbols (held (suc c)) ≡ is_whole into.symbols (held c)
      same_whole s = ap (λ n. nat_le into.symbols n || eqb (held (suc c)).last 1) s.count ∙ ap (λ n. nat_le into.symbols (held c).count || eqb n 1) s.last

      waits : is_high down.valid c ≡ true → is_high down.valid (suc c) ≡ true → beat_at down (suc c) ≡ beat_at down c → ShowsSame down c (suc c)
      waits valid valid' beat = record { valid = eqb-true (down.valid c) 1 valid ∙ sym (eqb-true (down.valid (suc c)) 1 valid'); beat = sym beat }

      by_case : is_high down.valid c ≡ true → is_transfer into.pace down c ≡ false → Happens c → ShowsSame down c (suc c)
      by_case valid quiet (whole_waits whole high out stays) =
          waits valid (run.valid (suc c) legal ∙ or_left _ _ (same_whole (stays_row c before out stays) ∙ whole)) (run.stays c legal valid quiet (inl whole))
      by_case valid quiet (whole_goes whole high out stays) = absurd (both_ways _ quiet out)
      by_case valid quiet (idles part low none asked out stays) = absurd (both_ways _ none valid)
      by_case valid quiet (joined_waits part shown done high out stays) =
          let still : ShowsSame up c (suc c) = (legal (suc c) (omega arith)).paced.held shown stays in
          let row = stays_row c before out stays in
          let done' : is_whole into.symbols (with_beat from (held (suc c)) (beat_at up (suc c))) ≡ true =
          ap (λ (b : Beat). nat_le into.symbols ((held (suc c)).count + symbol_count from b) || eqb b.last 1) (sym still.beat)
          ∙ (ap (λ n. nat_le into.symbols (n + symbol_count from (beat_at up c)) || eqb (up.last c) 1) row.count ∙ done) in
          let shown' : is_high up.valid (suc c) ≡ true = ap (λ n. eqb n 1) (sym still.valid) ∙ shown in
          waits valid (run.valid (suc c) legal ∙ or_right _ _ (and_from _ _ shown' done')) (run.stays c legal valid quiet (inr still))
      by_case valid quiet (joined_goes part shown done high out moves) = absurd (both_ways _ quiet out)
      by_case valid quiet (gathers part shown few none asked out moves) = absurd (both_ways _ none valid)

  -- ---- at rest

  module _ (c : ℕ) (legal : IsLegalSource from up (suc c)) (is : inside (window_shape passes from into) (plain_run up down) c ≡ store c) where
    few_kept : is_whole into.symbols (held c) ≡ false → length (store c) ≤ into.symbols - 1
    few_kept part = let long = long_of _ _ _ _ (so_far c legal) in let less = (unwhole into.symbols (held c) part).0 in omega (arith, long, less)

    none_last : is_whole into.symbols (held c) ≡ false → list_any (λ (symbol : Symbol). symbol.last) (store c) ≡ false
    none_last part =
        sym (list_any-without_error (store c)) ∙ (ap (list_any is_last) (so_far c legal).same ∙ none_ends (held c) (unwhole into.symbols (held c) part).1)

    rests : IsFalse (is_transfer into.pace down c) → is_high down.ready c ≡ true → IsTrue (is_at_rest (window_shape passes from into) (plain_run up down) c)
    rests quiet ready = by_case (happens c legal)
      where
        never : is_high down.valid c ≡ true → IsTrue (is_at_rest (window_shape passes from into) (plain_run up down) c)
        never valid = absurd (both_ways _ quiet (direct_transfer into.pace down c into_direct ∙ and_from _ _ valid ready))

        by_case : Happens c → IsTrue (is_at_rest (window_shape passes from into) (plain_run up down) c)
        by_case (whole_waits whole valid out stays) = never valid
        by_case (whole_goes whole valid out stays) = never valid
        by_case (idles part low none asked out stays) = rests_with (window_shape passes from into) (plain_run up down) c (store c) is asked (few_kept part) (none_last part)
        by_case (joined_waits part shown done valid out stays) = never valid
        by_case (joined_goes part shown done valid out moves) = never valid
        by_case (gathers part shown few none asked out moves) = rests_with (window_shape passes from into) (plain_run up down) c (store c) is asked (few_kept part) (none_last part)

    idle : IsFalse (is_high down.valid c) → IsTrue (is_idle (window_shape passes from into) (plain_run up down) c)
    idle low = by_case (happens c legal)
      where
        by_case : Happens c → IsTrue (is_idle (window_shape passes from into) (plain_run up down) c)
        by_case (whole_waits whole valid out stays) = absurd (both_ways _ low valid)
        by_case (whole_goes whole valid out stays) = absurd (both_ways _ low valid)
        by_case (idles part none_up none asked out stays) = idle_with (window_shape passes from into) (plain_run up down) c (store c) is (ready_frees from.pace up c asked) (few_kept part) (none_last part)
        by_case (joined_waits part shown done valid out stays) = absurd (both_ways _ low valid)
        by_case (joined_goes part shown done valid out moves) = absurd (both_ways _ low valid)
        by_case (gathers part shown few none asked out moves) = idle_with (window_shape passes from into) (plain_run up down) c (store c) is (ready_frees from.pace up c asked) (few_kept part) (none_last part)

  window_flow : IsFlow (window_shape passes from into) (plain_run up down) store
  window_flow =
      record {
        starts = refl;
        passes_on = λ c legal _. passes_on c legal;
        shows = λ c legal _ valid. shows c legal valid;
        paced = λ c legal _. record { allowed = λ _. or_left _ _ (eq-eqb into.pace.latency 0 into_direct); held = holds c legal };
        ranked = λ c legal _ is. no_rank (window_shape passes from into) (plain_run up down) c refl refl
            (λ quiet ready. rests c legal is quiet (direct_ready into.pace down c into_direct ready)) (λ low. idle c legal is low);
      }

-- the machine with a window of symbols, between ends of ready latency 0
pub window_keeps : (passes : ℕ → Bool) (from into : Side) (up down : EndView) (held : ℕ → Row) → IsWindowRun from into up down held → 0 < from.symbols → 0 < into.symbols → from.pace.latency ≡ 0 → from.pace.allowance ≡ 0 → into.pace ≡ from.pace
    → from.packets ≡ into.packets → from.error_bits ≡ into.error_bits → from.max_channel ≡ into.max_channel → (IsFalse from.packets → from.max_channel ≡ 0) → ((channel : ℕ) → channel ≤ from.max_channel → IsTrue (passes channel))
    → KeepsStageLaw (window_shape passes from into) (plain_run up down)
window_keeps passes from into up down held run positive positive' direct strict pace packets errors channels no_channels all_pass =
    flow_keeps (window_shape passes from into) (plain_run up down) (store passes from into up down held run positive positive' direct pace no_channels all_pass)
    (window_flow passes from into up down held run positive positive' direct pace no_channels all_pass) positive packets (λ none. errors ∙ none) (λ channel h _. omega (arith, channels, h))
