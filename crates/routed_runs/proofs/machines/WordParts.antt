-- The symbols of words side by side.
use Rattle.std.specs.Prelude.{ℕ, zero, suc, ◌+◌, ◌-◌, ◌*◌, ◌/◌, ◌%◌, ◌^◌, ◌<◌, ◌≡◌, false, ◌==◌, List, [], ◌∷◌, ◌++◌, map, length}
use Rattle.std.proofs.Common.{refl, sym, ap, ◌∙◌, arith, subst, length-append}
use Rattle.std.specs.List.{range_with_len}
use Rattle.std.proofs.lemmas.List.{map-append}
use Rattle.std.proofs.lemmas.List.FromFn.{length-map-range_with_len}
use Rattle.std.proofs.lemmas.Nat.{field_of, shr-shr, mod-mul-add, div-mul-add}
use Rattle.std.proofs.Math.Pow.{mod-mod-pow}
use Rattle.stream_runs.specs.View.{Beat, Side}
use Rattle.stream_runs.specs.Symbols.{Symbol, symbol_in, value_of}
use Rattle.routed_runs.specs.Routes.{direct_end, data_and_marks}
use Rattle.routed_runs.specs.Gathering.{side_by_side}
use Rattle.routed_runs.proofs.machines.Following.{plain}

-- a symbol with this data alone
abbrev pub unmarked : ℕ → Symbol
unmarked value = record { value = value; channel = 0; first = false; last = false; error = 0 }

pub unmarked_symbols : (side : Side) (beat : Beat) (js : List ℕ) → (beat.first == 1) ≡ false → (beat.last == 1) ≡ false
    → plain (map (symbol_in side beat) js) ≡ map (λ j. unmarked (value_of side beat.word j)) js
unmarked_symbols side beat [] first last = refl
unmarked_symbols side beat (j ∷ js) first last =
    ap (λ (x : Symbol). x ∷ plain (map (symbol_in side beat) js)) head
    ∙ ap (λ (xs : List Symbol). unmarked (value_of side beat.word j) ∷ xs) (unmarked_symbols side beat js first last)
  where
    head : data_and_marks (symbol_in side beat j) ≡ unmarked (value_of side beat.word j)
    head = rw (first, last) refl

range_shift : {A : Type 0} (f g : ℕ → A) (s j n : ℕ) → ((i : ℕ) → i < j + n → f (s + i) ≡ g i) → map f (range_with_len (s + j) n) ≡ map g (range_with_len j n)
range_shift f g s j zero same = refl
range_shift {A} f g s j (suc n) same =
    let next : s + j + 1 ≡ s + (j + 1) = omega arith in
    let tail : map f (range_with_len (s + j + 1) n) ≡ map g (range_with_len (j + 1) n) = subst (λ m. map f (range_with_len m n) ≡ map g (range_with_len (j + 1) n)) (sym next) (range_shift f g s (j + 1) n (λ i h. same i (omega arith))) in
    ap (λ (x : A). x ∷ map f (range_with_len (s + j + 1) n)) (same j (omega arith)) ∙ ap (λ (xs : List A). g j ∷ xs) tail

range_join : (s a b : ℕ) → range_with_len s (a + b) ≡ range_with_len s a ++ range_with_len (s + a) b
range_join s zero b =
    let none : 0 + b ≡ b = omega arith in
    let start : s ≡ s + 0 = omega arith in
    ap (range_with_len s) none ∙ ap (λ m. range_with_len m b) start
range_join s (suc a) b =
    let more : suc a + b ≡ suc (a + b) = omega arith in
    let start : s + 1 + a ≡ s + suc a = omega arith in
    ap (range_with_len s) more ∙ ap (λ (xs : List ℕ). s ∷ xs) (range_join (s + 1) a b ∙ ap (λ m. range_with_len (s + 1) a ++ range_with_len m b) start)

-- the data at a place of a word, counted from the low-order end, depends on the bits below alone
low_field : (word bits size place : ℕ) → place < size → word % 2 ^ (bits * size) / 2 ^ (bits * place) % 2 ^ bits ≡ word / 2 ^ (bits * place) % 2 ^ bits
low_field word bits size place h =
    let rest : ℕ = size - place - 1 in
    let whole : size ≡ rest + 1 + place = omega arith in
    let width : bits * size ≡ bits * rest + bits + bits * place = ap (λ n. bits * n) whole ∙ omega arith in
    ap (λ n. word % 2 ^ n / 2 ^ (bits * place) % 2 ^ bits) width
    ∙ ap (λ n. n % 2 ^ bits) (field_of word (bits * rest + bits) (bits * place))
    ∙ mod-mod-pow (word / 2 ^ (bits * place)) (bits * rest) bits

module _ (symbols bits most : ℕ) where
  -- a side of so many words a beat
  abbrev wide : ℕ → Side
  wide count = direct_end false (symbols * count) bits most

  abbrev narrow : Side
  narrow = direct_end false symbols bits most

  abbrev pub word_symbols : ℕ → List Symbol
  word_symbols word = map (λ j. unmarked (value_of narrow word j)) (range_with_len 0 symbols)

  -- the symbols of words, the latest first
  abbrev pub kept : List ℕ → List Symbol
  kept [] = []
  kept (word ∷ words) = kept words ++ word_symbols word

  abbrev pub AllFit : List ℕ → Type 0
  AllFit [] = Unit {0}
  AllFit (word ∷ words) = (word < 2 ^ (bits * symbols)) × AllFit words

  abbrev joined : List ℕ → ℕ
  joined words = side_by_side (bits * symbols) words

  earlier_value : (count j word words : ℕ) → word < 2 ^ (bits * symbols) → j < symbols * count
      → value_of (wide (suc count)) (words * 2 ^ (bits * symbols) + word) j ≡ value_of (wide count) words j
  earlier_value count j word words fits below =
      let product : symbols * suc count ≡ symbols * count + symbols = omega arith in
      let place : symbols * suc count - 1 - j ≡ symbols + (symbols * count - 1 - j) = omega (arith, product, below) in
      let places : bits * (symbols + (symbols * count - 1 - j)) ≡ bits * symbols + bits * (symbols * count - 1 - j) = omega arith in
      ap (λ n. (words * 2 ^ (bits * symbols) + word) / 2 ^ (bits * n) % 2 ^ bits) place
      ∙ ap (λ n. (words * 2 ^ (bits * symbols) + word) / 2 ^ n % 2 ^ bits) places
      ∙ ap (λ n. n % 2 ^ bits) (sym (shr-shr (words * 2 ^ (bits * symbols) + word) (bits * symbols) (bits * (symbols * count - 1 - j))))
      ∙ ap (λ n. n / 2 ^ (bits * (symbols * count - 1 - j)) % 2 ^ bits) (div-mul-add words (2 ^ (bits * symbols)) word fits)

  latest_value : (count j word words : ℕ) → word < 2 ^ (bits * symbols) → j < symbols
      → value_of (wide (suc count)) (words * 2 ^ (bits * symbols) + word) (symbols * count + j) ≡ value_of narrow word j
  latest_value count j word words fits below =
      let product : symbols * suc count ≡ symbols * count + symbols = omega arith in
      let place : symbols * suc count - 1 - (symbols * count + j) ≡ symbols - 1 - j = omega (arith, product, below) in
      let inner : symbols - 1 - j < symbols = omega (arith, below) in
      ap (λ n. (words * 2 ^ (bits * symbols) + word) / 2 ^ (bits * n) % 2 ^ bits) place
      ∙ sym (low_field (words * 2 ^ (bits * symbols) + word) bits symbols (symbols - 1 - j) inner)
      ∙ ap (λ n. n / 2 ^ (bits * (symbols - 1 - j)) % 2 ^ bits) (mod-mul-add words (2 ^ (bits * symbols)) word fits)

  abbrev value_in : ℕ → List ℕ → ℕ → Symbol
  value_in count words j = unmarked (value_of (wide count) (joined words) j)

  pub joined_symbols : (count : ℕ) (words : List ℕ) → length words ≡ count → AllFit words
      → map (λ j. unmarked (value_of (wide count) (joined words) j)) (range_with_len 0 (symbols * count)) ≡ kept words
  joined_symbols zero [] e fit = let none : symbols * 0 ≡ 0 = omega arith in ap (λ n. map (λ j. unmarked (value_of (wide 0) (joined []) j)) (range_with_len 0 n)) none
  joined_symbols (suc count) [] e fit = absurd (omega (arith, e))
  joined_symbols zero (word ∷ words) e fit = absurd (omega (arith, e))
  joined_symbols (suc count) (word ∷ words) e fit =
      ap (λ n. map (value_in (suc count) (word ∷ words)) (range_with_len 0 n)) product
      ∙ ap (map (value_in (suc count) (word ∷ words))) (range_join 0 (symbols * count) symbols)
      ∙ map-append (value_in (suc count) (word ∷ words)) (range_with_len 0 (symbols * count)) (range_with_len (0 + symbols * count) symbols)
      ∙ ap (λ (xs : List Symbol). xs ++ map (value_in (suc count) (word ∷ words)) (range_with_len (0 + symbols * count) symbols)) (earlier ∙ joined_symbols count words (omega (arith, e)) fit.1)
      ∙ ap (λ n. kept words ++ map (value_in (suc count) (word ∷ words)) (range_with_len n symbols)) start
      ∙ ap (λ (xs : List Symbol). kept words ++ xs) latest
    where
      product : symbols * suc count ≡ symbols * count + symbols
      product = omega arith

      start : 0 + symbols * count ≡ symbols * count + 0
      start = omega arith

      earlier : map (value_in (suc count) (word ∷ words)) (range_with_len 0 (symbols * count)) ≡ map (value_in count words) (range_with_len 0 (symbols * count))
      earlier = range_shift (value_in (suc count) (word ∷ words)) (value_in count words) 0 0 (symbols * count)
          (λ i below. (let zero_first : 0 + i ≡ i = omega arith in ap (value_in (suc count) (word ∷ words)) zero_first ∙ ap unmarked (earlier_value count i word (joined words) fit.0 (omega (arith, below)))))

      latest : map (value_in (suc count) (word ∷ words)) (range_with_len (symbols * count + 0) symbols) ≡ word_symbols word
      latest = range_shift (value_in (suc count) (word ∷ words)) (λ j. unmarked (value_of narrow word j)) (symbols * count) 0 symbols
          (λ i below. ap unmarked (latest_value count i word (joined words) fit.0 (omega (arith, below))))

  -- so many symbols are kept
  pub kept_length : (words : List ℕ) → length (kept words) ≡ symbols * length words
  kept_length [] = omega arith
  kept_length (word ∷ words) =
      let both = length-append (kept words) (word_symbols word) in
      let one = length-map-range_with_len (λ j. unmarked (value_of narrow word j)) 0 symbols in
      let rest = kept_length words in
      let product : symbols * suc (length words) ≡ symbols * length words + symbols = omega arith in
      omega (arith, both, one, rest, product)
