-- How far the beat that is begun is filled, and where beats begin.
use Rattle.std.proofs.Common.{◌≡◌, ◌⊎◌, ℕ, zero, suc, ◌+◌, ◌-◌, ◌*◌, ◌≤◌, ◌<◌, Bool, true, false, cond, IsTrue, ◌&&◌, List, [], ◌∷◌, ◌++◌, map, length, take, refl, ap, sym, ◌∙◌, inl, inr, arith, length-append, eqb, add-one}
use Rattle.std.proofs.Math.Nat.{mul-le-mul_left}
use Rattle.std.specs.List.{range_with_len}
use Rattle.std.proofs.lemmas.List.{take-append-le}
use Rattle.std.proofs.Math.Seq.{take-append-add}
use Rattle.std.proofs.lemmas.List.FromFn.{length-map-range_with_len, map-range_with_len_more, take-map-range_with_len}
use Rattle.std.proofs.lemmas.Bool.{cases_lt, cases_eq, ne_eqb, eq-eqb, cond-true, cond-false, and_right, and_left, and_from}
use Rattle.stream_runs.specs.Laws.{kept_more}
use Rattle.stream_runs.specs.View.{EndView, Side, is_high, is_transfer}
use Rattle.stream_runs.specs.Symbols.{transferred_symbols, symbols_in, shown_symbols, shown_symbol, kept_symbols, Symbol, without_error, shown_count}

-- how many symbols the begun beat holds after one more
abbrev pub fill_with : ℕ → ℕ → Bool → ℕ
fill_with size held last = cond last 0 (cond (eqb (held + 1) size) 0 (held + 1))

-- how many symbols the begun beat holds after these symbols, where it held so many before them
abbrev pub fill : ℕ → ℕ → List Symbol → ℕ
fill size held [] = held
fill size held (x ∷ xs) = fill size (fill_with size held x.last) xs

pub fill-append : (size held : ℕ) (xs ys : List Symbol) → fill size held (xs ++ ys) ≡ fill size (fill size held xs) ys
fill-append size held [] ys = refl
fill-append size held (x ∷ xs) ys = fill-append size (fill_with size held x.last) xs ys

pub fill-without_error : (size held : ℕ) (xs : List Symbol) → fill size held (map without_error xs) ≡ fill size held xs
fill-without_error size held [] = refl
fill-without_error size held (x ∷ xs) = fill-without_error size (fill_with size held x.last) xs

-- a begun beat of more symbols holds some whole beats of fewer symbols and the begun one
pub record Aligned (small parts few many : ℕ) : Type 0 where
  pub whole : ℕ
  pub total : many ≡ small * whole + few
  pub begun : few < small
  pub within : whole < parts

fill_step : (small parts big few many : ℕ) (last : Bool) → big ≡ small * parts → Aligned small parts few many → Aligned small parts (fill_with small few last) (fill_with big many last)
fill_step small parts big few many true e a = record { whole = 0; total = omega arith; begun = omega (arith, a.begun); within = omega (arith, a.within) }
fill_step small parts big few many false e a = by_small (cases_eq (few + 1) small) (cases_eq (many + 1) big)
  where
    by_small : (few + 1 ≡ small) ⊎ (few + 1 ≡ small → ⊥) → (many + 1 ≡ big) ⊎ (many + 1 ≡ big → ⊥) → Aligned small parts (cond (eqb (few + 1) small) 0 (few + 1)) (cond (eqb (many + 1) big) 0 (many + 1))
    by_small (inl full) (inl done) = rw (eq-eqb _ _ full, eq-eqb _ _ done) (record { whole = 0; total = omega arith; begun = omega (arith, a.begun); within = omega (arith, a.within) })
    by_small (inl full) (inr undone) =
        rw (eq-eqb _ _ full, ne_eqb _ _ undone) (record { whole = a.whole + 1; total = omega (arith, a.total); begun = omega (arith, a.begun); within = inside (cases_lt (a.whole + 1) parts) })
      where
        inside : (a.whole + 1 < parts) ⊎ (parts ≤ a.whole + 1) → a.whole + 1 < parts
        inside (inl less) = less
        inside (inr all) = let same : parts ≡ a.whole + 1 = omega (arith, a.within) in absurd (undone (omega (arith, a.total, e, ap (λ n. small * n) same)))
    by_small (inr part) (inl done) =
        let more : small * (a.whole + 1) ≤ small * parts = mul-le-mul_left small (omega (arith, a.within)) in
        absurd (omega (arith, a.total, a.begun, e, more, part))
    by_small (inr part) (inr undone) = rw (ne_eqb _ _ part, ne_eqb _ _ undone) (record { whole = a.whole; total = omega (arith, a.total); begun = omega (arith, a.begun, part); within = a.within })

-- where a beat of more symbols is complete, one of fewer is, if their number divides the other
fill_divides : (small parts big : ℕ) → big ≡ small * parts → (xs : List Symbol) (few many : ℕ) → Aligned small parts few many → fill big many xs ≡ 0 → fill small few xs ≡ 0
fill_divides small parts big e [] few many a h = omega (arith, a.total)
fill_divides small parts big e (x ∷ xs) few many a h = fill_divides small parts big e xs (fill_with small few x.last) (fill_with big many x.last) (fill_step small parts big few many x.last e a) h

pub fill-at_divisor : (small parts big : ℕ) → 0 < big → big ≡ small * parts → (xs : List Symbol) → fill big 0 xs ≡ 0 → fill small 0 xs ≡ 0
fill-at_divisor small parts big p e xs h = fill_divides small parts big e xs 0 0 (record { whole = 0; total = omega arith; begun = positive small e; within = some_parts parts e }) h
  where
    positive : (n : ℕ) → big ≡ n * parts → 0 < n
    positive zero e = absurd (omega arith)
    positive (suc n) e = omega arith

    some_parts : (n : ℕ) → big ≡ small * n → 0 < n
    some_parts zero e = absurd (omega arith)
    some_parts (suc n) e = omega arith

-- ---- the beats of one end

range_more : {A : Type 0} (f : ℕ → A) (j : ℕ) → map f (range_with_len 0 (suc j)) ≡ map f (range_with_len 0 j) ++ f j ∷ []
range_more f j = rw add-one at (map-range_with_len_more f 0 j j (omega arith))

pub held_at_most : (side : Side) (view : EndView) (c : ℕ) → shown_count side view c ≤ side.symbols
held_at_most side view c = by_last (is_high view.last c)
  where
    by_last : (b : Bool) → cond b (side.symbols - view.empty c) side.symbols ≤ side.symbols
    by_last true = omega arith
    by_last false = omega arith

-- within a beat each symbol but the last one fills it further
pub fill_within : (side : Side) (view : EndView) (c j : ℕ) → j < shown_count side view c → fill side.symbols 0 (map (shown_symbol side view c) (range_with_len 0 j)) ≡ j
fill_within side view c zero h = refl
fill_within side view c (suc j) h =
    let earlier : fill side.symbols 0 (map (shown_symbol side view c) (range_with_len 0 j)) ≡ j = fill_within side view c j (omega arith) in
    ap (fill side.symbols 0) (range_more (shown_symbol side view c) j) ∙ (fill-append side.symbols 0 (map (shown_symbol side view c) (range_with_len 0 j)) (shown_symbol side view c j ∷ []) ∙ (ap (λ n. fill_with side.symbols n (shown_symbol side view c j).last) earlier ∙ goes_on))
  where
    unmarked : (shown_symbol side view c j).last ≡ false
    unmarked = and_right _ _ (ne_eqb (j + 1) (shown_count side view c) (λ e. omega arith))

    unfilled : eqb (j + 1) side.symbols ≡ false
    unfilled = ne_eqb (j + 1) side.symbols (λ e. omega (arith, held_at_most side view c))

    goes_on : fill_with side.symbols j (shown_symbol side view c j).last ≡ suc j
    goes_on = cond-false _ _ _ unmarked ∙ (cond-false _ _ _ unfilled ∙ omega arith)

-- a whole beat completes it
pub fill_beat : (side : Side) (view : EndView) (c : ℕ) → 0 < shown_count side view c → fill side.symbols 0 (shown_symbols side view c) ≡ 0
fill_beat side view c h = by_count (shown_count side view c) refl h
  where
    completes : (n : ℕ) → shown_count side view c ≡ suc n → fill_with side.symbols n (shown_symbol side view c n).last ≡ 0
    completes n e = by_last (is_high view.last c) refl
      where
        at_end : eqb (n + 1) (shown_count side view c) ≡ true
        at_end = eq-eqb _ _ (omega arith)

        by_last : (b : Bool) → is_high view.last c ≡ b → fill_with side.symbols n (is_high view.last c && eqb (n + 1) (shown_count side view c)) ≡ 0
        by_last true ends = cond-true _ _ _ (and_from _ _ ends at_end)
        by_last false goes =
            let all : shown_count side view c ≡ side.symbols = cond-false _ _ _ goes in
            cond-false _ _ _ (and_left _ _ goes) ∙ cond-true _ _ _ (eq-eqb (n + 1) side.symbols (omega arith))

    by_count : (n : ℕ) → shown_count side view c ≡ n → 0 < n → fill side.symbols 0 (map (shown_symbol side view c) (range_with_len 0 n)) ≡ 0
    by_count zero e h = absurd (omega arith)
    by_count (suc n) e h =
        let earlier : fill side.symbols 0 (map (shown_symbol side view c) (range_with_len 0 n)) ≡ n = fill_within side view c n (omega arith) in
        ap (fill side.symbols 0) (range_more (shown_symbol side view c) n) ∙ (fill-append side.symbols 0 (map (shown_symbol side view c) (range_with_len 0 n)) (shown_symbol side view c n ∷ []) ∙ (ap (λ m. fill_with side.symbols m (shown_symbol side view c n).last) earlier ∙ completes n e))

-- each beat that transfers in the cycles before count holds a symbol
abbrev pub HoldsData : Side → EndView → ℕ → Type 0
HoldsData side view count = (c : ℕ) → c < count → IsTrue (is_transfer side.pace view c) → 0 < shown_count side view c

-- before each cycle the kept symbols are whole beats
pub fill_kept : (passes : ℕ → Bool) (side : Side) (view : EndView) (count : ℕ) → HoldsData side view count → (c : ℕ) → c ≤ count → fill side.symbols 0 (kept_symbols passes side view c) ≡ 0
fill_kept passes side view count some zero h = refl
fill_kept passes side view count some (suc c) h =
    let earlier : fill side.symbols 0 (kept_symbols passes side view c) ≡ 0 = fill_kept passes side view count some c (omega arith) in
    ap (fill side.symbols 0) (kept_more passes side view c) ∙ (fill-append side.symbols 0 (kept_symbols passes side view c) _ ∙ (ap (λ n. fill side.symbols n (cond (is_transfer side.pace view c && passes (view.channel c)) (shown_symbols side view c) [])) earlier ∙ by_transfer (is_transfer side.pace view c) refl (passes (view.channel c))))
  where
    by_transfer : (b : Bool) → is_transfer side.pace view c ≡ b → (p : Bool) → fill side.symbols 0 (cond (b && p) (shown_symbols side view c) []) ≡ 0
    by_transfer true moves true = fill_beat side view c (some c (omega arith) moves)
    by_transfer true moves false = refl
    by_transfer false stays p = refl

-- before each cycle the symbols that transferred are whole beats
pub fill_before : (side : Side) (view : EndView) (count : ℕ) → HoldsData side view count → (c : ℕ) → c ≤ count → fill side.symbols 0 (transferred_symbols side view c) ≡ 0
fill_before side view count some zero h = refl
fill_before side view count some (suc c) h =
    let earlier : fill side.symbols 0 (transferred_symbols side view c) ≡ 0 = fill_before side view count some c (omega arith) in
    fill-append side.symbols 0 (transferred_symbols side view c) (symbols_in side view c) ∙ (ap (λ n. fill side.symbols n (symbols_in side view c)) earlier ∙ by_transfer (is_transfer side.pace view c) refl)
  where
    by_transfer : (b : Bool) → is_transfer side.pace view c ≡ b → fill side.symbols 0 (cond b (shown_symbols side view c) []) ≡ 0
    by_transfer true moves = fill_beat side view c (some c (omega arith) moves)
    by_transfer false stays = refl

-- some cycle before which just so many symbols transferred
pub record StartsAt (side : Side) (view : EndView) (c place : ℕ) : Type 0 where
  pub cycle : ℕ
  pub within : cycle ≤ c
  pub place_is : place ≡ length (transferred_symbols side view cycle)

-- where the begun beat is empty, a beat starts
pub starts : (side : Side) (view : EndView) (c place : ℕ) → place ≤ length (transferred_symbols side view c) → HoldsData side view c → fill side.symbols 0 (take place (transferred_symbols side view c)) ≡ 0 → StartsAt side view c place
starts side view zero place l some e = record { cycle = 0; within = omega arith; place_is = omega arith }
starts side view (suc c) place l some e = by_place (cases_lt (length (transferred_symbols side view c)) place) (starts side view c place)
  where
    by_place : (length (transferred_symbols side view c) < place) ⊎ (place ≤ length (transferred_symbols side view c))
        → (place ≤ length (transferred_symbols side view c) → HoldsData side view c → fill side.symbols 0 (take place (transferred_symbols side view c)) ≡ 0 → StartsAt side view c place) → StartsAt side view (suc c) place
    by_place (inr early) earlier =
        let found = earlier early (λ b h. some b (omega arith)) (ap (fill side.symbols 0) (sym (take-append-le place (transferred_symbols side view c) (symbols_in side view c) early)) ∙ e) in
        record { cycle = found.cycle; within = omega (arith, found.within); place_is = found.place_is }
    by_place (inl late) earlier = by_transfer (is_transfer side.pace view c) refl
      where
        offset : ℕ
        offset = place - length (transferred_symbols side view c)

        by_transfer : (b : Bool) → is_transfer side.pace view c ≡ b → StartsAt side view (suc c) place
        by_transfer false stays =
            let none : length (symbols_in side view c) ≡ 0 = rw stays refl in
            absurd (omega (arith, length-append (transferred_symbols side view c) (symbols_in side view c), none))
        by_transfer true moves = by_offset (cases_lt offset (shown_count side view c))
          where
            shown : symbols_in side view c ≡ shown_symbols side view c
            shown = cond-true _ _ _ moves

            size : length (symbols_in side view c) ≡ shown_count side view c
            size = ap length shown ∙ length-map-range_with_len (shown_symbol side view c) 0 (shown_count side view c)

            by_offset : (offset < shown_count side view c) ⊎ (shown_count side view c ≤ offset) → StartsAt side view (suc c) place
            by_offset (inr whole) = record { cycle = suc c; within = omega arith; place_is = omega (arith, length-append (transferred_symbols side view c) (symbols_in side view c), size) }
            by_offset (inl part) =
                let split : place ≡ length (transferred_symbols side view c) + offset = omega arith in
                let front : take place (transferred_symbols side view (suc c)) ≡ transferred_symbols side view c ++ take offset (shown_symbols side view c) =
                ap (λ n. take n (transferred_symbols side view (suc c))) split ∙ (take-append-add (transferred_symbols side view c) (symbols_in side view c) offset ∙ ap (λ (xs : List Symbol). transferred_symbols side view c ++ take offset xs) shown) in
                let begun : fill side.symbols 0 (take offset (shown_symbols side view c)) ≡ offset =
                ap (fill side.symbols 0) (take-map-range_with_len (shown_symbol side view c) 0 (shown_count side view c) offset (omega arith)) ∙ fill_within side view c offset part in
                let filled : fill side.symbols 0 (take place (transferred_symbols side view (suc c))) ≡ offset =
                ap (fill side.symbols 0) front ∙ (fill-append side.symbols 0 (transferred_symbols side view c) (take offset (shown_symbols side view c)) ∙ (ap (λ n. fill side.symbols n (take offset (shown_symbols side view c))) (fill_before side view (suc c) some c (omega arith)) ∙ begun)) in
                absurd (omega (arith, sym filled ∙ e))
