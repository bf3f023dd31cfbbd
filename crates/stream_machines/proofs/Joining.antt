-- The symbols of a wide beat are those of the beats that it is made of.
use Rattle.std.proofs.Common.{◌≡◌, ◌⊎◌, ℕ, zero, suc, ◌+◌, ◌-◌, ◌*◌, ◌≤◌, ◌<◌, Bool, true, false, ◌&&◌, ◌||◌, List, [], ◌∷◌, ◌++◌, map, length, replicate, refl, ap, sym, ◌∙◌, subst, inl, inr, arith, length-append, eqb}
use Rattle.std.proofs.Math.Nat.{mul-le-mul_left}
use Rattle.std.specs.List.{range_with_len, flat_map, list_any}
use Rattle.std.specs.Int.Bits.{bit_or}
use Rattle.std.proofs.lemmas.List.{map-append}
use Rattle.std.proofs.lemmas.List.FromFn.{length-map-range_with_len, length-range_with_len}
use Rattle.std.proofs.lemmas.Bool.{cases_lt, cases_eq, cond-true, cond-false, and_left, and_right, eq-eqb, ne_eqb}
use Rattle.stream_runs.specs.View.{Beat, Side}
use Rattle.stream_runs.specs.Symbols.{Symbol, without_error, symbol_in, symbols_of, symbol_count, joined_error}
use Rattle.stream_machines.specs.Parts.{HoldsWords, IsJoined, first_of_row, joined_errors, LastIs, OthersUnmarked, FirstIs, AllBear, symbols_held, IsSplit}
use Rattle.stream_machines.proofs.Errors.{errors_of, join, joined_is, join_same, join-append}

-- how many symbols the beats hold
abbrev pub total : Side → List Beat → ℕ
total side [] = 0
total side (beat ∷ beats) = symbol_count side beat + total side beats

-- beats of one packet, on one channel, from part number t on: only the first part may bear the first mark, and only the last beat the last mark
abbrev pub IsRow : Side → ℕ → ℕ → List Beat → Type 0
IsRow side channel t [] = Unit {0}
IsRow side channel t (beat ∷ beats) =
    (beat.channel ≡ channel) × (0 < t → eqb beat.first 1 ≡ false) × (0 < length beats → eqb beat.last 1 ≡ false) × (0 < symbol_count side beat) × IsRow side channel (t + 1) beats

-- no beat of these ends a packet
abbrev pub AllGo : List Beat → Type 0
AllGo [] = Unit {0}
AllGo (beat ∷ beats) = (eqb beat.last 1 ≡ false) × AllGo beats

pub row-append : (side : Side) (channel t : ℕ) (beats : List Beat) (latest : Beat) → IsRow side channel t beats → AllGo beats
    → latest.channel ≡ channel → (0 < t + length beats → eqb latest.first 1 ≡ false) → 0 < symbol_count side latest → IsRow side channel t (beats ++ latest ∷ [])
row-append side channel t [] latest row go same behind some = (same, (λ h. behind (omega arith)), (λ h. absurd (omega arith)), some, tt)
row-append side channel t (beat ∷ beats) latest row go same behind some =
    (row.0, row.1, (λ h. go.0), row.3, row-append side channel (t + 1) beats latest row.4 go.1 same (λ h. behind (omega arith)) some)

pub go-append : (beats : List Beat) (latest : Beat) → AllGo beats → eqb latest.last 1 ≡ false → AllGo (beats ++ latest ∷ [])
go-append [] latest go goes = (goes, tt)
go-append (beat ∷ beats) latest go goes = (go.0, go-append beats latest go.1 goes)

pub total_going : (side : Side) (beats : List Beat) → AllGo beats → total side beats ≡ side.symbols * length beats
total_going side [] go = omega arith
total_going side (beat ∷ beats) go =
    let first : symbol_count side beat ≡ side.symbols = cond-false _ _ _ go.0 in
    let rest = total_going side beats go.1 in
    omega (arith, first, rest)

pub total-append : (side : Side) (xs ys : List Beat) → total side (xs ++ ys) ≡ total side xs + total side ys
total-append side [] ys = omega arith
total-append side (x ∷ xs) ys = omega (arith, total-append side xs ys)

pub length_of_all : (side : Side) (beats : List Beat) → length (flat_map (symbols_of side) beats) ≡ total side beats
length_of_all side [] = refl
length_of_all side (beat ∷ beats) =
    omega (arith, length-append (symbols_of side beat) (flat_map (symbols_of side) beats), length-map-range_with_len (symbol_in side beat) 0 (symbol_count side beat), length_of_all side beats)

-- a part of a table, counted from its own start
pub range_shift : {A : Type 0} (f g : ℕ → A) (s j n : ℕ) → ((i : ℕ) → i < j + n → f (s + i) ≡ g i) → map f (range_with_len (s + j) n) ≡ map g (range_with_len j n)
range_shift f g s j zero same = refl
range_shift {A} f g s j (suc n) same =
    let next : s + j + 1 ≡ s + (j + 1) = omega arith in
    let tail : map f (range_with_len (s + j + 1) n) ≡ map g (range_with_len (j + 1) n) = subst (λ m. map f (range_with_len m n) ≡ map g (range_with_len (j + 1) n)) (sym next) (range_shift f g s (j + 1) n (λ i h. same i (omega arith))) in
    ap (λ (x : A). x ∷ map f (range_with_len (s + j + 1) n)) (same j (omega arith)) ∙ ap (λ (xs : List A). g j ∷ xs) tail

pub range_join : (s a b : ℕ) → range_with_len s (a + b) ≡ range_with_len s a ++ range_with_len (s + a) b
range_join s zero b =
    let none : 0 + b ≡ b = omega arith in
    let start : s ≡ s + 0 = omega arith in
    ap (range_with_len s) none ∙ ap (λ m. range_with_len m b) start
range_join s (suc a) b =
    let more : suc a + b ≡ suc (a + b) = omega arith in
    let start : s + 1 + a ≡ s + suc a = omega arith in
    ap (range_with_len s) more ∙ ap (λ (xs : List ℕ). s ∷ xs) (range_join (s + 1) a b ∙ ap (λ m. range_with_len (s + 1) a ++ range_with_len m b) start)

pub map_twice : {A : Type 0} (f : A → Symbol) (xs : List A) → map (λ x. without_error (f x)) xs ≡ map without_error (map f xs)
map_twice f [] = refl
map_twice f (x ∷ xs) = ap (λ (ys : List Symbol). without_error (f x) ∷ ys) (map_twice f xs)

abbrev pub plain : ℕ → ℕ → Bool → Bool → Symbol
plain value channel first last = record { value = value; channel = channel; first = first; last = last; error = 0 }

pub same_plain : (v v' c c' : ℕ) (f f' l l' : Bool) → v ≡ v' → c ≡ c' → f ≡ f' → l ≡ l' → plain v c f l ≡ plain v' c' f' l'
same_plain v v' c c' f f' l l' p q r s = rw (p, q, r, s) refl

row_holds : (side : Side) (channel t : ℕ) (beats : List Beat) → IsRow side channel t beats → 0 < length beats → 0 < total side beats
row_holds side channel t [] row h = absurd (omega arith)
row_holds side channel t (beat ∷ beats) row h = omega (arith, row.3)

times_one : (n t : ℕ) → 0 < n → 0 < t → 0 < n * t
times_one n t p q = let least : n * 1 ≤ n * t = mul-le-mul_left n q in omega (arith, least)

module _ (narrow wide : Side) (whole : Beat) (channel : ℕ) (positive : 0 < narrow.symbols) (on_channel : whole.channel ≡ channel) where
  module _ (t : ℕ) (beat : Beat) (beats : List Beat) (row : IsRow narrow channel t (beat ∷ beats)) (size : symbol_count wide whole ≡ narrow.symbols * t + (symbol_count narrow beat + total narrow beats)) where
    same_first : (t ≡ 0 → eqb whole.first 1 ≡ eqb beat.first 1) → (i : ℕ) → (eqb whole.first 1 && eqb (narrow.symbols * t + i) 0) ≡ (eqb beat.first 1 && eqb i 0)
    same_first first i = by_part (cases_lt 0 t)
      where
        by_part : (0 < t) ⊎ (t ≤ 0) → (eqb whole.first 1 && eqb (narrow.symbols * t + i) 0) ≡ (eqb beat.first 1 && eqb i 0)
        by_part (inl later) =
            let above : 0 < narrow.symbols * t = times_one narrow.symbols t positive later in
            and_right _ _ (ne_eqb (narrow.symbols * t + i) 0 (λ z. omega arith)) ∙ sym (and_left _ _ (row.1 later))
        by_part (inr none_yet) =
            let none : t ≡ 0 = omega arith in
            let start : narrow.symbols * t ≡ narrow.symbols * 0 = ap (λ n. narrow.symbols * n) none in
            let here : narrow.symbols * t + i ≡ i = omega (arith, start) in
            ap (λ b. b && eqb (narrow.symbols * t + i) 0) (first none) ∙ ap (λ n. eqb beat.first 1 && eqb n 0) here

    same_last : (i : ℕ) → i < symbol_count narrow beat → (length beats ≤ 0 → eqb whole.last 1 ≡ eqb beat.last 1) → (total narrow beats ≡ 0) ⊎ (0 < length beats)
        → (eqb whole.last 1 && eqb (narrow.symbols * t + i + 1) (symbol_count wide whole)) ≡ (eqb beat.last 1 && eqb (i + 1) (symbol_count narrow beat))
    same_last i h last (inr more) =
        let some = row_holds narrow channel (t + 1) beats row.4 more in
        and_right _ _ (ne_eqb (narrow.symbols * t + i + 1) (symbol_count wide whole) (λ z. omega (arith, size, some))) ∙ sym (and_left _ _ (row.2 more))
    same_last i h last (inl none) = by_length (cases_lt 0 (length beats))
      where
        by_end : (i + 1 ≡ symbol_count narrow beat) ⊎ (i + 1 ≡ symbol_count narrow beat → ⊥) → eqb (narrow.symbols * t + i + 1) (symbol_count wide whole) ≡ eqb (i + 1) (symbol_count narrow beat)
        by_end (inl end) = eq-eqb (narrow.symbols * t + i + 1) (symbol_count wide whole) (omega (arith, size)) ∙ sym (eq-eqb (i + 1) (symbol_count narrow beat) end)
        by_end (inr inner) = ne_eqb (narrow.symbols * t + i + 1) (symbol_count wide whole) (λ z. inner (omega (arith, size))) ∙ sym (ne_eqb (i + 1) (symbol_count narrow beat) inner)

        by_length : (0 < length beats) ⊎ (length beats ≤ 0) → (eqb whole.last 1 && eqb (narrow.symbols * t + i + 1) (symbol_count wide whole)) ≡ (eqb beat.last 1 && eqb (i + 1) (symbol_count narrow beat))
        by_length (inl more) = absurd (omega (arith, row_holds narrow channel (t + 1) beats row.4 more))
        by_length (inr ends) = ap (λ b. b && eqb (narrow.symbols * t + i + 1) (symbol_count wide whole)) (last ends) ∙ ap (λ b. eqb beat.last 1 && b) (by_end (cases_eq (i + 1) (symbol_count narrow beat)))

  no_beats : (beats : List Beat) → (total narrow beats ≡ 0) ⊎ (0 < length beats)
  no_beats [] = inl refl
  no_beats (beat ∷ beats) = inr (omega arith)

  -- the symbols of the wide beat from part number t on
  pub symbols_from : (t : ℕ) (beats : List Beat) → IsRow narrow channel t beats → HoldsWords narrow wide whole.word t beats
      → (t ≡ 0 → (b : Beat) (bs : List Beat) → beats ≡ b ∷ bs → eqb whole.first 1 ≡ eqb b.first 1)
      → ((b : Beat) (bs : List Beat) → beats ≡ bs ++ b ∷ [] → eqb whole.last 1 ≡ eqb b.last 1)
      → symbol_count wide whole ≡ narrow.symbols * t + total narrow beats
      → map (λ k. without_error (symbol_in wide whole k)) (range_with_len (narrow.symbols * t) (total narrow beats)) ≡ map without_error (flat_map (symbols_of narrow) beats)
  symbols_from t [] row words first last size = refl
  symbols_from t (beat ∷ beats) row words first last size =
      ap (map (λ k. without_error (symbol_in wide whole k))) (range_join (narrow.symbols * t) (symbol_count narrow beat) (total narrow beats))
      ∙ (map-append (λ k. without_error (symbol_in wide whole k)) (range_with_len (narrow.symbols * t) (symbol_count narrow beat)) (range_with_len (narrow.symbols * t + symbol_count narrow beat) (total narrow beats))
      ∙ (ap (λ (xs : List Symbol). xs ++ map (λ k. without_error (symbol_in wide whole k)) (range_with_len (narrow.symbols * t + symbol_count narrow beat) (total narrow beats))) this_part
      ∙ (ap (λ (xs : List Symbol). map without_error (symbols_of narrow beat) ++ xs)
      (other_parts (no_beats beats) (λ size'. symbols_from (t + 1) beats row.4 words.1 (λ z. absurd (omega arith)) (λ b bs e. last b (beat ∷ bs) (ap (λ (xs : List Beat). beat ∷ xs) e)) size'))
      ∙ sym (map-append without_error (symbols_of narrow beat) (flat_map (symbols_of narrow) beats)))))
    where
      only : (bs : List Beat) → beats ≡ bs → length bs ≤ 0 → eqb whole.last 1 ≡ eqb beat.last 1
      only [] is h = last beat [] (ap (λ (xs : List Beat). beat ∷ xs) is)
      only (b ∷ bs) is h = absurd (omega arith)

      this_part : map (λ k. without_error (symbol_in wide whole k)) (range_with_len (narrow.symbols * t) (symbol_count narrow beat)) ≡ map without_error (symbols_of narrow beat)
      this_part =
          let start : narrow.symbols * t ≡ narrow.symbols * t + 0 = omega arith in
          ap (λ m. map (λ k. without_error (symbol_in wide whole k)) (range_with_len m (symbol_count narrow beat))) start
          ∙ (range_shift (λ k. without_error (symbol_in wide whole k)) (λ k. without_error (symbol_in narrow beat k)) (narrow.symbols * t) 0 (symbol_count narrow beat)
          (λ i h.
          let inner : i < symbol_count narrow beat = omega arith in
          same_plain _ _ _ _ _ _ _ _ (words.0 i inner) (on_channel ∙ sym row.0) (same_first t beat beats row size (λ z. first z beat beats refl) i)
          (same_last t beat beats row size i inner (only beats refl) (no_beats beats)))
          ∙ map_twice (symbol_in narrow beat) (range_with_len 0 (symbol_count narrow beat)))

      other_parts : (total narrow beats ≡ 0) ⊎ (0 < length beats)
          → (symbol_count wide whole ≡ narrow.symbols * (t + 1) + total narrow beats
          → map (λ k. without_error (symbol_in wide whole k)) (range_with_len (narrow.symbols * (t + 1)) (total narrow beats)) ≡ map without_error (flat_map (symbols_of narrow) beats))
          → map (λ k. without_error (symbol_in wide whole k)) (range_with_len (narrow.symbols * t + symbol_count narrow beat) (total narrow beats)) ≡ map without_error (flat_map (symbols_of narrow) beats)
      other_parts (inl none) rest = empty_row beats none
        where
          empty_row : (bs : List Beat) → total narrow bs ≡ 0 → map (λ k. without_error (symbol_in wide whole k)) (range_with_len (narrow.symbols * t + symbol_count narrow beat) (total narrow bs)) ≡ map without_error (flat_map (symbols_of narrow) bs)
          empty_row bs e =
              let nothing : flat_map (symbols_of narrow) bs ≡ [] = none_long (flat_map (symbols_of narrow) bs) (length_of_all narrow bs ∙ e) in
              ap (λ n. map (λ k. without_error (symbol_in wide whole k)) (range_with_len (narrow.symbols * t + symbol_count narrow beat) n)) e ∙ ap (map without_error) (sym nothing)
            where
              none_long : (xs : List Symbol) → length xs ≡ 0 → xs ≡ []
              none_long [] e = refl
              none_long (x ∷ xs) e = absurd (omega arith)
      other_parts (inr more) rest =
          let full : symbol_count narrow beat ≡ narrow.symbols = cond-false _ _ _ (row.2 more) in
          let next : narrow.symbols * (t + 1) ≡ narrow.symbols * t + narrow.symbols = omega arith in
          let place : narrow.symbols * t + symbol_count narrow beat ≡ narrow.symbols * (t + 1) = omega (arith, full, next) in
          ap (λ m. map (λ k. without_error (symbol_in wide whole k)) (range_with_len m (total narrow beats))) place ∙ rest (omega (arith, size, place))

-- ---- errors and last marks

errors_made : (side : Side) (beat : Beat) (js : List ℕ) → errors_of (map (symbol_in side beat) js) ≡ replicate (length js) beat.error
errors_made side beat [] = refl
errors_made side beat (j ∷ js) = ap (λ (ns : List ℕ). beat.error ∷ ns) (errors_made side beat js)

pub errors_of_symbols : (side : Side) (beat : Beat) → errors_of (symbols_of side beat) ≡ replicate (symbol_count side beat) beat.error
errors_of_symbols side beat = errors_made side beat (range_with_len 0 (symbol_count side beat)) ∙ ap (λ n. replicate n beat.error) (length-range_with_len 0 (symbol_count side beat))

-- the error of the symbols of beats is that of the beats
pub errors_of_row : (side : Side) (channel t : ℕ) (beats : List Beat) → IsRow side channel t beats → joined_error (flat_map (symbols_of side) beats) ≡ joined_errors beats
errors_of_row side channel t beats row = joined_is (flat_map (symbols_of side) beats) ∙ joins t beats row
  where
    joins : (t : ℕ) (bs : List Beat) → IsRow side channel t bs → join (errors_of (flat_map (symbols_of side) bs)) ≡ join (map (λ (beat : Beat). beat.error) bs)
    joins t [] row = refl
    joins t (b ∷ bs) row =
        ap join (map-append (λ (symbol : Symbol). symbol.error) (symbols_of side b) (flat_map (symbols_of side) bs))
        ∙ (join-append (errors_of (symbols_of side b)) (errors_of (flat_map (symbols_of side) bs))
        ∙ (ap (λ n. bit_or n (join (errors_of (flat_map (symbols_of side) bs)))) (ap join (errors_of_symbols side b) ∙ join_same (symbol_count side b) b.error row.3)
        ∙ (ap (bit_or b.error) (joins (t + 1) bs row.4)
        ∙ (ap (λ n. bit_or n (join (map (λ (beat : Beat). beat.error) bs))) (sym (join_same 1 b.error (omega arith))) ∙ sym (join-append (b.error ∷ []) (map (λ (beat : Beat). beat.error) bs))))))

no_last_in : (side : Side) (beat : Beat) (js : List ℕ) (rest : List Symbol) → eqb beat.last 1 ≡ false → list_any (λ (symbol : Symbol). symbol.last) (map (symbol_in side beat) js ++ rest) ≡ list_any (λ (symbol : Symbol). symbol.last) rest
no_last_in side beat [] rest goes = refl
no_last_in side beat (j ∷ js) rest goes =
    ap (λ b. b || list_any (λ (symbol : Symbol). symbol.last) (map (symbol_in side beat) js ++ rest)) (and_left (eqb beat.last 1) (eqb (j + 1) (symbol_count side beat)) goes) ∙ no_last_in side beat js rest goes

-- where no beat ends a packet, no symbol bears a last mark
pub no_last : (side : Side) (beats : List Beat) → AllGo beats → list_any (λ (symbol : Symbol). symbol.last) (flat_map (symbols_of side) beats) ≡ false
no_last side [] go = refl
no_last side (beat ∷ beats) go = no_last_in side beat (range_with_len 0 (symbol_count side beat)) (flat_map (symbols_of side) beats) go.0 ∙ no_last side beats go.1

pub row_channel : (side : Side) (n m t : ℕ) (beats : List Beat) → (0 < length beats → n ≡ m) → IsRow side n t beats → IsRow side m t beats
row_channel side n m t [] same row = tt
row_channel side n m t (beat ∷ beats) same row = subst (λ k. IsRow side k t (beat ∷ beats)) (same (omega arith)) row

-- ---- a wide beat that joins others

snoc_end : (xs ys : List Beat) (x y : Beat) → xs ++ x ∷ [] ≡ ys ++ y ∷ [] → x ≡ y
snoc_end [] [] x y e = cc
snoc_end [] (b ∷ bs) x y e = absurd (omega (arith, ap length e, length-append bs (y ∷ [])))
snoc_end (a ∷ xs) [] x y e = absurd (omega (arith, ap length e, length-append xs (x ∷ [])))
snoc_end (a ∷ xs) (b ∷ bs) x y e = snoc_end xs bs x y (cc)

module _ (parts : ℕ) (narrow wide : Side) (earlier : List Beat) (latest whole : Beat) (positive : 0 < narrow.symbols) (size : wide.symbols ≡ narrow.symbols * parts)
    (joined : IsJoined narrow wide earlier latest whole) (row : IsRow narrow latest.channel 0 (earlier ++ latest ∷ [])) (go : AllGo earlier) (some : 0 < symbol_count narrow latest)
    (fits : length earlier + 1 ≤ parts) (complete : eqb latest.last 1 ≡ false → length earlier + 1 ≡ parts) where
  pub held_is : symbol_count wide whole ≡ total narrow (earlier ++ latest ∷ [])
  held_is = by_last (eqb latest.last 1) refl
    where
      sum : total narrow (earlier ++ latest ∷ []) ≡ narrow.symbols * length earlier + symbol_count narrow latest
      sum = omega (arith, total-append narrow earlier (latest ∷ []), total_going narrow earlier go)

      one_more : narrow.symbols * (length earlier + 1) ≡ narrow.symbols * length earlier + narrow.symbols
      one_more = omega arith

      same_last : eqb whole.last 1 ≡ eqb latest.last 1
      same_last = ap (λ n. eqb n 1) joined.last

      by_last : (b : Bool) → eqb latest.last 1 ≡ b → symbol_count wide whole ≡ total narrow (earlier ++ latest ∷ [])
      by_last true ends =
          let wide_held : symbol_count wide whole ≡ wide.symbols - whole.empty = cond-true _ _ _ (same_last ∙ ends) in
          let narrow_held : symbol_count narrow latest ≡ narrow.symbols - latest.empty = cond-true _ _ _ ends in
          let least : narrow.symbols * (length earlier + 1) ≤ narrow.symbols * parts = mul-le-mul_left narrow.symbols fits in
          omega (arith, wide_held, narrow_held, sum, one_more, size, joined.empty ends, least, some)
      by_last false goes =
          let wide_held : symbol_count wide whole ≡ wide.symbols = cond-false _ _ _ (same_last ∙ goes) in
          let narrow_held : symbol_count narrow latest ≡ narrow.symbols = cond-false _ _ _ goes in
          let all : narrow.symbols * (length earlier + 1) ≡ narrow.symbols * parts = ap (λ n. narrow.symbols * n) (complete goes) in
          omega (arith, wide_held, narrow_held, sum, one_more, size, all)

  pub symbols_of_joined : map without_error (symbols_of wide whole) ≡ map without_error (flat_map (symbols_of narrow) (earlier ++ latest ∷ []))
  symbols_of_joined =
      let start : narrow.symbols * 0 ≡ 0 = omega arith in
      sym (map_twice (symbol_in wide whole) (range_with_len 0 (symbol_count wide whole)))
      ∙ (ap (λ n. map (λ k. without_error (symbol_in wide whole k)) (range_with_len 0 n)) held_is
      ∙ (ap (λ m. map (λ k. without_error (symbol_in wide whole k)) (range_with_len m (total narrow (earlier ++ latest ∷ [])))) (sym start)
      ∙ symbols_from narrow wide whole latest.channel positive joined.channel 0 (earlier ++ latest ∷ []) row joined.words
      (λ z b bs e. ap (λ n. eqb n 1) joined.first ∙ first_is earlier b bs e)
      (λ b bs e. ap (λ n. eqb n 1) joined.last ∙ ap (λ (x : Beat). eqb x.last 1) (snoc_end earlier bs latest b e))
      (omega (arith, held_is, start))))
    where
      first_is : (xs : List Beat) (b : Beat) (bs : List Beat) → xs ++ latest ∷ [] ≡ b ∷ bs → eqb (first_of_row xs latest) 1 ≡ eqb b.first 1
      first_is [] b bs e = let same : latest ≡ b = cc in ap (λ (x : Beat). eqb x.first 1) same
      first_is (x ∷ xs) b bs e = let same : x ≡ b = cc in ap (λ (x : Beat). eqb x.first 1) same

-- ---- a wide beat that comes apart

pub same_held : (side : Side) (beats : List Beat) → symbols_held side beats ≡ total side beats
same_held side [] = refl
same_held side (beat ∷ beats) = ap (λ n. symbol_count side beat + n) (same_held side beats)

row_of_bearers : (side : Side) (channel error last t : ℕ) (beats : List Beat) → AllBear side channel error beats → LastIs last beats → (0 < t → OthersUnmarked beats) → ((b : Beat) (bs : List Beat) → beats ≡ b ∷ bs → OthersUnmarked bs) → IsRow side channel t beats
row_of_bearers side channel error last t [] bear ends others behind = tt
row_of_bearers side channel error last t (b ∷ []) bear ends others behind = (bear.0, (λ h. ap (λ n. eqb n 1) (others h).0), (λ h. absurd (omega arith)), bear.2, tt)
row_of_bearers side channel error last t (b ∷ (b' ∷ bs)) bear ends others behind = (
  bear.0,
  (λ h. ap (λ n. eqb n 1) (others h).0),
  (λ h. ap (λ n. eqb n 1) ends.0),
  bear.2,
  row_of_bearers side channel error last (t + 1) (b' ∷ bs) bear.3 ends.1 (λ h. behind b (b' ∷ bs) refl) (λ c cs e. subst OthersUnmarked (cc) (behind b (b' ∷ bs) refl).1),
)

errors_of_bearers : (side : Side) (channel error : ℕ) (beats : List Beat) → AllBear side channel error beats → errors_of (flat_map (symbols_of side) beats) ≡ replicate (total side beats) error
errors_of_bearers side channel error [] bear = refl
errors_of_bearers side channel error (b ∷ bs) bear =
    map-append (λ (symbol : Symbol). symbol.error) (symbols_of side b) (flat_map (symbols_of side) bs)
    ∙ (ap (λ (ns : List ℕ). ns ++ errors_of (flat_map (symbols_of side) bs)) (errors_of_symbols side b ∙ ap (replicate (symbol_count side b)) bear.1)
    ∙ (ap (λ (ns : List ℕ). replicate (symbol_count side b) error ++ ns) (errors_of_bearers side channel error bs bear.3) ∙ replicate_join (symbol_count side b) (total side bs) error))
  where
    replicate_join : (a b e : ℕ) → replicate a e ++ replicate b e ≡ replicate (a + b) e
    replicate_join zero b e = let none : b ≡ 0 + b = omega arith in ap (λ n. replicate n e) none
    replicate_join (suc a) b e = let more : suc (a + b) ≡ suc a + b = omega arith in ap (λ (ns : List ℕ). e ∷ ns) (replicate_join a b e) ∙ ap (λ n. replicate n e) more

abbrev full : ℕ → ℕ → Bool → Bool → ℕ → Symbol
full value channel first last error = record { value = value; channel = channel; first = first; last = last; error = error }

-- symbols that are the same but for their errors, and have the same errors
pub same_but_errors : (xs ys : List Symbol) → map without_error xs ≡ map without_error ys → errors_of xs ≡ errors_of ys → xs ≡ ys
same_but_errors [] [] p q = refl
same_but_errors [] (y ∷ ys) p q = absurd (omega (arith, ap length p))
same_but_errors (x ∷ xs) [] p q = absurd (omega (arith, ap length p))
same_but_errors (x ∷ xs) (y ∷ ys) p q =
    let plain_same : without_error x ≡ without_error y = cc in
    let same : x ≡ y = whole x.value y.value x.channel y.channel x.first y.first x.last y.last x.error y.error (ap (λ (s : Symbol). s.value) plain_same) (ap (λ (s : Symbol). s.channel) plain_same) (ap (λ (s : Symbol). s.first) plain_same) (ap (λ (s : Symbol). s.last) plain_same) (cc) in
    let tail : xs ≡ ys = same_but_errors xs ys (cc) (cc) in
    ap (λ (s : Symbol). s ∷ xs) same ∙ ap (λ (ss : List Symbol). y ∷ ss) tail
  where
    whole : (v v' c c' : ℕ) (f f' l l' : Bool) (e e' : ℕ) → v ≡ v' → c ≡ c' → f ≡ f' → l ≡ l' → e ≡ e'
        → full v c f l e ≡ full v' c' f' l' e'
    whole v v' c c' f f' l l' e e' p q r s t = rw (p, q, r, s, t) refl

module _ (narrow wide : Side) (whole : Beat) (pieces : List Beat) (positive : 0 < narrow.symbols) (split : IsSplit narrow wide whole pieces) where
  pub row_of_split : IsRow narrow whole.channel 0 pieces
  row_of_split = row_of_bearers narrow whole.channel whole.error whole.last 0 pieces split.bear split.last (λ h. absurd (omega arith)) (λ b bs e. others pieces split.first b bs e)
    where
      others : (ps : List Beat) → FirstIs whole.first ps → (b : Beat) (bs : List Beat) → ps ≡ b ∷ bs → OthersUnmarked bs
      others [] f b bs e = absurd (cc)
      others (p ∷ ps) f b bs e = subst OthersUnmarked (cc) f.1

  -- the symbols of the pieces are those of the whole beat
  pub symbols_of_split : symbols_of wide whole ≡ flat_map (symbols_of narrow) pieces
  symbols_of_split =
      same_but_errors (symbols_of wide whole) (flat_map (symbols_of narrow) pieces) plain_same
      (errors_of_symbols wide whole ∙ (ap (λ n. replicate n whole.error) (sym split.all ∙ same_held narrow pieces) ∙ sym (errors_of_bearers narrow whole.channel whole.error pieces split.bear)))
    where
      first_is : (ps : List Beat) → FirstIs whole.first ps → (b : Beat) (bs : List Beat) → ps ≡ b ∷ bs → eqb whole.first 1 ≡ eqb b.first 1
      first_is [] f b bs e = absurd (cc)
      first_is (p ∷ ps) f b bs e = let same : p ≡ b = cc in ap (λ n. eqb n 1) (sym f.0) ∙ ap (λ (x : Beat). eqb x.first 1) same

      last_is : (ps : List Beat) → LastIs whole.last ps → (b : Beat) (bs : List Beat) → ps ≡ bs ++ b ∷ [] → eqb whole.last 1 ≡ eqb b.last 1
      last_is [] l b bs e = absurd (omega (arith, ap length e, length-append bs (b ∷ [])))
      last_is (p ∷ []) l b bs e = let same : p ≡ b = snoc_end [] bs p b e in ap (λ n. eqb n 1) (sym l) ∙ ap (λ (x : Beat). eqb x.last 1) same
      last_is (p ∷ (p' ∷ ps)) l b [] e = absurd (omega (arith, ap length e))
      last_is (p ∷ (p' ∷ ps)) l b (b' ∷ bs) e = last_is (p' ∷ ps) l.1 b bs (cc)

      plain_same : map without_error (symbols_of wide whole) ≡ map without_error (flat_map (symbols_of narrow) pieces)
      plain_same =
          let start : narrow.symbols * 0 ≡ 0 = omega arith in
          let held : symbol_count wide whole ≡ total narrow pieces = sym split.all ∙ same_held narrow pieces in
          sym (map_twice (symbol_in wide whole) (range_with_len 0 (symbol_count wide whole)))
          ∙ (ap (λ n. map (λ k. without_error (symbol_in wide whole k)) (range_with_len 0 n)) held
          ∙ (ap (λ m. map (λ k. without_error (symbol_in wide whole k)) (range_with_len m (total narrow pieces))) (sym start)
          ∙ symbols_from narrow wide whole whole.channel positive refl 0 pieces row_of_split split.words (λ z b bs e. first_is pieces split.first b bs e) (λ b bs e. last_is pieces split.last b bs e) (omega (arith, held, start))))
