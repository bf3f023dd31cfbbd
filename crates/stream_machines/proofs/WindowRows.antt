-- Rows of symbols: one with a beat behind it, its front, and what is left behind that.
use Rattle.std.proofs.Common.{◌≡◌, ◌⊎◌, ℕ, zero, suc, ◌+◌, ◌-◌, ◌≤◌, ◌<◌, Bool, true, false, cond, ◌&&◌, ◌||◌, List, [], ◌∷◌, ◌++◌, map, length, take, drop, refl, ap, sym, ◌∙◌, inl, inr, arith, eqb, nat_le, nat_lt}
use Rattle.std.specs.List.{range_with_len, list_any}
use Rattle.std.proofs.lemmas.List.{map-append, take_all}
use Rattle.std.proofs.lemmas.List.FromFn.{length-map-range_with_len, take-map-range_with_len}
use Rattle.std.proofs.Math.ListN.{drop_of_length-le}
use Rattle.std.proofs.Math.Seq.{drop-append_seam}
use Rattle.std.proofs.lemmas.Bool.{cases_Bool, cases_lt, cases_eq, and_left, and_right, cond-true, cond-false, eq-eqb, ne_eqb, both_ways, leb-true, le-leb, lt-ltb, le-ltb}
use Rattle.stream_runs.specs.View.{Beat, Side}
use Rattle.stream_runs.specs.Symbols.{Symbol, without_error, symbol_in, symbols_of, symbol_count, value_of}
use Rattle.stream_machines.specs.Windows.{Row, AreSameRow, is_whole, with_beat, behind_beat, IsFront}
use Rattle.stream_machines.proofs.Joining.{range_shift, range_join, map_twice, plain, same_plain}

-- symbol k of a row, without its error
abbrev pub row_symbol : Row → ℕ → Symbol
row_symbol row k = plain (row.value k) row.channel (eqb row.first 1 && eqb k 0) (eqb row.last 1 && eqb (k + 1) row.count)

abbrev pub row_symbols : Row → List Symbol
row_symbols row = map (row_symbol row) (range_with_len 0 row.count)

pub row_length : (row : Row) → length (row_symbols row) ≡ row.count
row_length row = length-map-range_with_len (row_symbol row) 0 row.count

-- a table from its own start
table_same : {A : Type 0} (f g : ℕ → A) (n : ℕ) → ((i : ℕ) → i < n → f i ≡ g i) → map f (range_with_len 0 n) ≡ map g (range_with_len 0 n)
table_same f g n same =
    let start : 0 + 0 ≡ 0 = refl in
    range_shift f g 0 0 n (λ i h. let here : 0 + i ≡ i = omega arith in ap f here ∙ same i (omega (arith, h)))

pub same_symbols : (one other : Row) → AreSameRow one other → row_symbols one ≡ row_symbols other
same_symbols one other s =
    table_same (row_symbol one) (row_symbol other) one.count (λ k h. same_plain _ _ _ _ _ _ _ _ (s.values k h) s.channel (ap (λ n. eqb n 1 && eqb k 0) s.first) (ap (λ n. eqb n 1 && eqb (k + 1) one.count) s.last ∙ ap (λ n. eqb other.last 1 && eqb (k + 1) n) s.count))
    ∙ ap (λ n. map (row_symbol other) (range_with_len 0 n)) s.count

-- ---- a beat behind a row that ends no packet

module _ (side : Side) (row : Row) (beat : Beat) (going : eqb row.last 1 ≡ false) (some : 0 < symbol_count side beat) (channel : 0 < row.count → row.channel ≡ beat.channel) (behind : 0 < row.count → eqb beat.first 1 ≡ false) where
  earlier : (k : ℕ) → k < row.count → row_symbol (with_beat side row beat) k ≡ row_symbol row k
  earlier k h =
      let below : nat_lt k row.count ≡ true = lt-ltb k row.count h in
      let some_held : eqb row.count 0 ≡ false = ne_eqb row.count 0 (λ e. omega (arith, h, e)) in
      same_plain _ _ _ _ _ _ _ _ (cond-true (nat_lt k row.count) _ _ below) (sym (channel (omega (arith, h))))
      (ap (λ n. eqb n 1 && eqb k 0) (cond-false (eqb row.count 0) beat.first row.first some_held))
      (and_right (eqb beat.last 1) _ (ne_eqb (k + 1) (row.count + symbol_count side beat) (λ e. omega (arith, e, h, some))) ∙ sym (and_left _ _ going))

  first_is : (i : ℕ) → (eqb (cond (eqb row.count 0) beat.first row.first) 1 && eqb (row.count + i) 0) ≡ (eqb beat.first 1 && eqb i 0)
  first_is i = by_count row.count refl
    where
      by_count : (n : ℕ) → row.count ≡ n → (eqb (cond (eqb row.count 0) beat.first row.first) 1 && eqb (row.count + i) 0) ≡ (eqb beat.first 1 && eqb i 0)
      by_count zero e =
          let none : eqb row.count 0 ≡ true = eq-eqb row.count 0 e in
          let place : row.count + i ≡ i = omega (arith, e) in
          ap (λ n. eqb n 1 && eqb (row.count + i) 0) (cond-true (eqb row.count 0) beat.first row.first none) ∙ ap (λ n. eqb beat.first 1 && eqb n 0) place
      by_count (suc n) e = and_right _ _ (ne_eqb (row.count + i) 0 (λ z. omega (arith, z, e))) ∙ sym (and_left _ _ (behind (omega (arith, e))))

  later : (i : ℕ) → i < 0 + symbol_count side beat → row_symbol (with_beat side row beat) (row.count + i) ≡ without_error (symbol_in side beat i)
  later i h =
      let above : nat_lt (row.count + i) row.count ≡ false = le-ltb (row.count + i) row.count (omega arith) in
      let place : row.count + i - row.count ≡ i = omega arith in
      same_plain _ _ _ _ _ _ _ _ (cond-false (nat_lt (row.count + i) row.count) _ _ above ∙ ap (value_of side beat.word) place) refl (first_is i)
      (ap (λ b. eqb beat.last 1 && b) (same_end (cases_eq_end)))
    where
      same_end : (row.count + i + 1 ≡ row.count + symbol_count side beat) ⊎ (row.count + i + 1 ≡ row.count + symbol_count side beat → ⊥) → eqb (row.count + i + 1) (row.count + symbol_count side beat) ≡ eqb (i + 1) (symbol_count side beat)
      same_end (inl e) = eq-eqb _ _ e ∙ sym (eq-eqb _ _ (omega (arith, e)))
      same_end (inr n) = ne_eqb _ _ n ∙ sym (ne_eqb _ _ (λ e. n (omega (arith, e))))

      cases_eq_end : (row.count + i + 1 ≡ row.count + symbol_count side beat) ⊎ (row.count + i + 1 ≡ row.count + symbol_count side beat → ⊥)
      cases_eq_end = cases_eq (row.count + i + 1) (row.count + symbol_count side beat)

  pub row_with_beat : row_symbols (with_beat side row beat) ≡ row_symbols row ++ map without_error (symbols_of side beat)
  row_with_beat =
      let place : row.count + 0 ≡ row.count = omega arith in
      ap (map (row_symbol (with_beat side row beat))) (range_join 0 row.count (symbol_count side beat))
      ∙ map-append (row_symbol (with_beat side row beat)) (range_with_len 0 row.count) (range_with_len (0 + row.count) (symbol_count side beat))
      ∙ ap (λ (xs : List Symbol). xs ++ map (row_symbol (with_beat side row beat)) (range_with_len (0 + row.count) (symbol_count side beat))) (table_same (row_symbol (with_beat side row beat)) (row_symbol row) row.count earlier)
      ∙ ap (λ (xs : List Symbol). row_symbols row ++ xs)
      (ap (λ n. map (row_symbol (with_beat side row beat)) (range_with_len n (symbol_count side beat))) (let start : 0 + row.count ≡ row.count + 0 = omega arith in start)
      ∙ range_shift (row_symbol (with_beat side row beat)) (λ i. without_error (symbol_in side beat i)) row.count 0 (symbol_count side beat) later
      ∙ map_twice (symbol_in side beat) (range_with_len 0 (symbol_count side beat)))

-- ---- the front of a row that makes a beat

module _ (side : Side) (row : Row) (beat : Beat) (positive : 0 < side.symbols) (whole : is_whole side.symbols row ≡ true) (front : IsFront side row beat) where
  fitting : nat_le row.count side.symbols ≡ true → (symbol_count side beat ≡ row.count) × (beat.last ≡ row.last)
  fitting fit =
      let last : beat.last ≡ row.last = front.last ∙ cond-true (nat_le row.count side.symbols) row.last 0 fit in
      let small : row.count ≤ side.symbols = leb-true row.count side.symbols fit in
      (by_last (eqb beat.last 1) refl last small, last)
    where
      by_last : (b : Bool) → eqb beat.last 1 ≡ b → beat.last ≡ row.last → row.count ≤ side.symbols → symbol_count side beat ≡ row.count
      by_last true ends last small = cond-true (eqb beat.last 1) _ _ ends ∙ (let empty = front.empty ends in omega (arith, empty, small))
      by_last false goes last small =
          let enough : side.symbols ≤ row.count = leb-true side.symbols row.count (first_of (nat_le side.symbols row.count) (eqb row.last 1) (sym (ap (λ n. eqb n 1) last) ∙ goes) whole) in
          cond-false (eqb beat.last 1) _ _ goes ∙ (omega (arith, enough, small))
        where
          first_of : (a b : Bool) → b ≡ false → (a || b) ≡ true → a ≡ true
          first_of true b n w = refl
          first_of false b n w = absurd (both_ways _ n w)

  pub front_count : (symbol_count side beat ≤ side.symbols) × (symbol_count side beat ≤ row.count) × (side.symbols ≤ symbol_count side beat ⊎ row.count ≤ symbol_count side beat)
  front_count = by_fit (cases_Bool (nat_le row.count side.symbols))
    where
      by_fit : (nat_le row.count side.symbols ≡ true) ⊎ (nat_le row.count side.symbols ≡ false) → (symbol_count side beat ≤ side.symbols) × (symbol_count side beat ≤ row.count) × (side.symbols ≤ symbol_count side beat ⊎ row.count ≤ symbol_count side beat)
      by_fit (inl fit) = let small = leb-true row.count side.symbols fit in let count = (fitting fit).0 in (omega (arith, small, count), omega (arith, count), inr (omega (arith, count)))
      by_fit (inr over) =
          let many : side.symbols < row.count = over_lt over in
          let count : symbol_count side beat ≡ side.symbols = unended over in
          (omega (arith, count), omega (arith, count, many), inl (omega (arith, count)))
        where
          over_lt : nat_le row.count side.symbols ≡ false → side.symbols < row.count
          over_lt o = by_order (cases_lt side.symbols row.count)
            where
              by_order : (side.symbols < row.count) ⊎ (row.count ≤ side.symbols) → side.symbols < row.count
              by_order (inl less) = less
              by_order (inr more) = absurd (both_ways _ o (le-leb row.count side.symbols more))

          unended : nat_le row.count side.symbols ≡ false → symbol_count side beat ≡ side.symbols
          unended o = cond-false (eqb beat.last 1) _ _ (ap (λ n. eqb n 1) (front.last ∙ cond-false (nat_le row.count side.symbols) row.last 0 o))

  last_is : (k : ℕ) → k < symbol_count side beat → (eqb beat.last 1 && eqb (k + 1) (symbol_count side beat)) ≡ (eqb row.last 1 && eqb (k + 1) row.count)
  last_is k h = by_fit (cases_Bool (nat_le row.count side.symbols))
    where
      by_fit : (nat_le row.count side.symbols ≡ true) ⊎ (nat_le row.count side.symbols ≡ false) → (eqb beat.last 1 && eqb (k + 1) (symbol_count side beat)) ≡ (eqb row.last 1 && eqb (k + 1) row.count)
      by_fit (inl fit) = ap (λ n. eqb n 1 && eqb (k + 1) (symbol_count side beat)) (fitting fit).1 ∙ ap (λ n. eqb row.last 1 && eqb (k + 1) n) (fitting fit).0
      by_fit (inr over) =
          and_left (eqb beat.last 1) _ (ap (λ n. eqb n 1) (front.last ∙ cond-false (nat_le row.count side.symbols) row.last 0 over))
          ∙ sym (and_right (eqb row.last 1) _ (ne_eqb (k + 1) row.count (λ e. both_ways _ over (le-leb row.count side.symbols (let few = front_count.0 in omega (arith, e, h, few))))))

  pub front_symbols : map without_error (symbols_of side beat) ≡ take side.symbols (row_symbols row)
  front_symbols =
      sym (map_twice (symbol_in side beat) (range_with_len 0 (symbol_count side beat)))
      ∙ table_same (λ i. without_error (symbol_in side beat i)) (row_symbol row) (symbol_count side beat) (λ k h. same_plain _ _ _ _ _ _ _ _
      (front.values k (let few = front_count.0 in omega (arith, h, few)) (let few = front_count.1 in omega (arith, h, few))) front.channel (ap (λ n. eqb n 1 && eqb k 0) front.first) (last_is k h))
      ∙ taken front_count.2
    where
      taken : (side.symbols ≤ symbol_count side beat ⊎ row.count ≤ symbol_count side beat) → map (row_symbol row) (range_with_len 0 (symbol_count side beat)) ≡ take side.symbols (row_symbols row)
      taken (inl all) =
          let same : symbol_count side beat ≡ side.symbols = (let few = front_count.0 in omega (arith, all, few)) in
          ap (λ n. map (row_symbol row) (range_with_len 0 n)) same ∙ sym (take-map-range_with_len (row_symbol row) 0 row.count side.symbols (let few = front_count.1 in omega (arith, few, all)))
      taken (inr all) =
          let same : symbol_count side beat ≡ row.count = (let few = front_count.1 in omega (arith, all, few)) in
          ap (λ n. map (row_symbol row) (range_with_len 0 n)) same ∙ sym (take_all side.symbols (row_symbols row) (let few = front_count.0 in let n = row_length row in omega (arith, few, same, n)))

  -- it holds a symbol where the row does
  pub front_some : 0 < row.count → 0 < symbol_count side beat
  front_some some = by_case front_count.2
    where
      by_case : (side.symbols ≤ symbol_count side beat ⊎ row.count ≤ symbol_count side beat) → 0 < symbol_count side beat
      by_case (inl all) = omega (arith, all, positive)
      by_case (inr all) = omega (arith, all, some)

-- ---- what is left behind the front

pub left_symbols : (size error : ℕ) (row : Row) → 0 < size → row_symbols (behind_beat size error row) ≡ drop size (row_symbols row)
left_symbols size error row positive = by_fit (cases_lt size row.count)
  where
    by_fit : (size < row.count) ⊎ (row.count ≤ size) → row_symbols (behind_beat size error row) ≡ drop size (row_symbols row)
    by_fit (inr fit) =
        let none : row.count - size ≡ 0 = omega (arith, fit) in
        ap (λ n. map (row_symbol (behind_beat size error row)) (range_with_len 0 n)) none ∙ sym (drop_of_length-le (row_symbols row) (let n = row_length row in omega (arith, n, fit)))
    by_fit (inl over) =
        let over' : nat_le row.count size ≡ false = not_le over in
        let whole : size + (row.count - size) ≡ row.count = omega (arith, over) in
        sym (range_shift (row_symbol row) (row_symbol (behind_beat size error row)) size 0 (row.count - size) (λ i h.
        same_plain _ _ _ _ _ _ _ _ (ap row.value (let turned : size + i ≡ i + size = omega arith in turned)) refl
        (and_right _ _ (ne_eqb (size + i) 0 (λ z. omega (arith, z, positive))))
        (ap (λ n. eqb n 1 && eqb (size + i + 1) row.count) (sym (cond-false (nat_le row.count size) 0 row.last over'))
        ∙ ap (λ b. eqb (cond (nat_le row.count size) 0 row.last) 1 && b) (same_end i))))
        ∙ dropped over
      where
        not_le : size < row.count → nat_le row.count size ≡ false
        not_le less = by_test (cases_Bool (nat_le row.count size))
          where
            by_test : (nat_le row.count size ≡ true) ⊎ (nat_le row.count size ≡ false) → nat_le row.count size ≡ false
            by_test (inl t) = (let small = leb-true row.count size t in absurd (omega (arith, small, less)))
            by_test (inr f) = f

        same_end : (i : ℕ) → eqb (size + i + 1) row.count ≡ eqb (i + 1) (row.count - size)
        same_end i = by_eq (cases_eq (size + i + 1) row.count)
          where
            by_eq : (size + i + 1 ≡ row.count) ⊎ (size + i + 1 ≡ row.count → ⊥) → eqb (size + i + 1) row.count ≡ eqb (i + 1) (row.count - size)
            by_eq (inl e) = eq-eqb _ _ e ∙ sym (eq-eqb _ _ (omega (arith, e)))
            by_eq (inr n) = ne_eqb _ _ n ∙ sym (ne_eqb _ _ (λ e. n (omega (arith, e, over))))

        dropped : size < row.count → map (row_symbol row) (range_with_len (size + 0) (row.count - size)) ≡ drop size (row_symbols row)
        dropped less =
            let whole : row.count ≡ size + (row.count - size) = omega (arith, less) in
            let place : size + 0 ≡ 0 + size = omega arith in
            let split : row_symbols row ≡ map (row_symbol row) (range_with_len 0 size) ++ map (row_symbol row) (range_with_len (0 + size) (row.count - size)) =
            ap (λ n. map (row_symbol row) (range_with_len 0 n)) whole ∙ (ap (map (row_symbol row)) (range_join 0 size (row.count - size)) ∙ map-append (row_symbol row) (range_with_len 0 size) (range_with_len (0 + size) (row.count - size))) in
            let long : length (map (row_symbol row) (range_with_len 0 size)) ≡ size = length-map-range_with_len (row_symbol row) 0 size in
            ap (λ n. map (row_symbol row) (range_with_len n (row.count - size))) place
            ∙ (sym (drop-append_seam (map (row_symbol row) (range_with_len 0 size)) (map (row_symbol row) (range_with_len (0 + size) (row.count - size))))
            ∙ (ap (λ n. drop n (map (row_symbol row) (range_with_len 0 size) ++ map (row_symbol row) (range_with_len (0 + size) (row.count - size)))) long ∙ ap (drop size) (sym split)))

-- a row that ends no packet has no last mark
pub none_ends : (row : Row) → eqb row.last 1 ≡ false → list_any (λ (symbol : Symbol). symbol.last) (row_symbols row) ≡ false
none_ends row going = none (range_with_len 0 row.count)
  where
    none : (js : List ℕ) → list_any (λ (symbol : Symbol). symbol.last) (map (row_symbol row) js) ≡ false
    none [] = refl
    none (j ∷ js) = rw going (none js)
