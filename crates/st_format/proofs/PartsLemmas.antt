-- The parts of a wide beat, one by one, are its pieces.
use Rattle.std.proofs.Common.{◌≡◌, ℕ, zero, suc, ◌+◌, ◌-◌, ◌*◌, ◌/◌, ◌%◌, ◌^◌, ◌<◌, ◌≤◌, Bool, true, false, ◌==◌, nat_le, if◌then◌else◌, List, [], ◌∷◌, refl, sym, ap, ◌∙◌, arith}
use Rattle.std.proofs.lemmas.Bool.{ltb-true, leb-true, leb-false, lt-ltb, le-ltb, ne_eqb}
use Rattle.std.proofs.lemmas.Nat.{mod-pow-add, shr-shr, shl-shr, shr_high, pow_pos}
use Rattle.std.proofs.Math.Nat.{mod-lt, mod-eq_of_lt}
use Rattle.std.proofs.Math.Pow.{mod-mod-pow}
use Rattle.stream_runs.specs.View.{Beat, Side}
use Rattle.stream_runs.specs.Symbols.{symbol_count}
use Rattle.stream_machines.specs.Parts.{of_symbols}
use Rattle.stream_machines.specs.Words.{part_word, pieces_from, pieces}
use Rattle.st_format.specs.declared.sizes.Sizes.{Sizes}
use Rattle.st_format.specs.Counted.{counted_beat}
use Rattle.st_format.specs.NarrowNets.{has_more, piece_of, rest_of}
use Rattle.st_format.proofs.SizesLemmas.{split_symbols}

-- the parts of a wide beat whose empty counts, so many at most
abbrev pub split : Sizes → ℕ → Beat → List Beat
split sizes zero beat = []
split sizes (suc more) beat = piece_of sizes beat ∷ (if has_more sizes beat then split sizes more (rest_of sizes beat) else [])

pub beat_same : (x y : Beat) → x.word ≡ y.word → x.channel ≡ y.channel → x.error ≡ y.error → x.first ≡ y.first → x.last ≡ y.last → x.empty ≡ y.empty → x ≡ y
beat_same x y e1 e2 e3 e4 e5 e6 = rw (e1, e2, e3, e4, e5, e6) refl

module _ (sizes : Sizes) where
  -- all symbols, but those of one part, and all
  pub parts_sum : sizes.symbols * (sizes.parts - 1) + sizes.symbols ≡ sizes.symbols * sizes.parts
  parts_sum = split_symbols sizes.symbols sizes.parts (let several = sizes.several in omega arith)

  -- and their bits
  pub parts_wide : sizes.bits * (sizes.symbols * (sizes.parts - 1)) + sizes.bits * sizes.symbols ≡ sizes.bits * (sizes.symbols * sizes.parts)
  parts_wide = (let spread : sizes.bits * (sizes.symbols * (sizes.parts - 1)) + sizes.bits * sizes.symbols ≡ sizes.bits * (sizes.symbols * (sizes.parts - 1) + sizes.symbols) = omega arith in spread) ∙ ap (λ n. sizes.bits * n) parts_sum

  pub few_symbols : sizes.symbols * sizes.parts ≤ 128
  few_symbols = by_bits sizes.bits sizes.some_bits sizes.small
    where
      by_bits : (b : ℕ) → 1 ≤ b → b * (sizes.symbols * sizes.parts) ≤ 128 → sizes.symbols * sizes.parts ≤ 128
      by_bits zero h small = absurd (omega arith)
      by_bits (suc b) h small = let spread : suc b * (sizes.symbols * sizes.parts) ≡ b * (sizes.symbols * sizes.parts) + sizes.symbols * sizes.parts = omega arith in omega (arith, small, spread)

  -- what is left has one part less
  pub rest_empty : (beat : Beat) → has_more sizes beat ≡ true → (rest_of sizes beat).empty ≡ beat.empty + sizes.symbols
  rest_empty beat more =
      let below : beat.empty < sizes.symbols * (sizes.parts - 1) = ltb-true beat.empty (sizes.symbols * (sizes.parts - 1)) more in
      let sum = parts_sum in
      let counts = sizes.counts in
      mod-eq_of_lt (omega (arith, below, sum, counts))

  -- more parts than there are don't matter
  pub enough : (f g : ℕ) (beat : Beat) → 1 ≤ f → 1 ≤ g → sizes.symbols * sizes.parts ≤ sizes.symbols * f + beat.empty → sizes.symbols * sizes.parts ≤ sizes.symbols * g + beat.empty → split sizes f beat ≡ split sizes g beat
  enough zero g beat one two a b = absurd (omega arith)
  enough (suc f) zero beat one two a b = absurd (omega arith)
  enough (suc f) (suc g) beat one two a b = by_more (enough f g (rest_of sizes beat)) (has_more sizes beat) refl
    where
      behind : (k : ℕ) → sizes.symbols * sizes.parts ≤ sizes.symbols * suc k + beat.empty → has_more sizes beat ≡ true → 1 ≤ k
      behind zero fits more =
          let below : beat.empty < sizes.symbols * (sizes.parts - 1) = ltb-true beat.empty (sizes.symbols * (sizes.parts - 1)) more in
          let sum = parts_sum in
          let one_part : sizes.symbols * 1 ≡ sizes.symbols = omega arith in
          absurd (omega (arith, fits, below, sum, one_part))
      behind (suc k) fits more = omega arith

      fewer : (k : ℕ) → sizes.symbols * sizes.parts ≤ sizes.symbols * suc k + beat.empty → has_more sizes beat ≡ true → sizes.symbols * sizes.parts ≤ sizes.symbols * k + (rest_of sizes beat).empty
      fewer k fits more =
          let spread : sizes.symbols * suc k ≡ sizes.symbols * k + sizes.symbols = omega arith in
          let gone = rest_empty beat more in
          omega (arith, fits, spread, gone)

      by_more : (1 ≤ f → 1 ≤ g → sizes.symbols * sizes.parts ≤ sizes.symbols * f + (rest_of sizes beat).empty → sizes.symbols * sizes.parts ≤ sizes.symbols * g + (rest_of sizes beat).empty → split sizes f (rest_of sizes beat) ≡ split sizes g (rest_of sizes beat)) →
          (t : Bool) → has_more sizes beat ≡ t → (piece_of sizes beat ∷ (if t then split sizes f (rest_of sizes beat) else [])) ≡ (piece_of sizes beat ∷ (if t then split sizes g (rest_of sizes beat) else []))
      by_more same false e = refl
      by_more same true e = ap (λ (xs : List Beat). piece_of sizes beat ∷ xs) (same (behind f a e) (behind g b e) (fewer f a e) (fewer g b e))

  pub split_some : (k : ℕ) (beat : Beat) → 1 ≤ k → split sizes k beat ≡ (piece_of sizes beat ∷ (if has_more sizes beat then split sizes (k - 1) (rest_of sizes beat) else []))
  split_some zero beat some = absurd (omega arith)
  split_some (suc k) beat some = let back : k ≡ suc k - 1 = omega arith in ap (λ n. piece_of sizes beat ∷ (if has_more sizes beat then split sizes n (rest_of sizes beat) else [])) back

-- ---- words

-- bits in the middle of a word that is cut above them
pub cut_above : (x e r m : ℕ) → x % 2 ^ ((r + m) + e) / 2 ^ e % 2 ^ m ≡ x / 2 ^ e % 2 ^ m
cut_above x e r m =
    let split = mod-pow-add x (r + m) e in
    let high = shr_high (x / 2 ^ e % 2 ^ (r + m)) e (x % 2 ^ e) (mod-lt x (pow_pos e)) in
    ap (λ n. n / 2 ^ e % 2 ^ m) split ∙ ap (λ n. n % 2 ^ m) high ∙ mod-mod-pow (x / 2 ^ e) r m

-- and shifted
shifted_part : (x e r m : ℕ) → x % 2 ^ ((r + m) + e) * 2 ^ m / 2 ^ (m + e) % 2 ^ m ≡ x / 2 ^ e % 2 ^ m
shifted_part x e r m =
    ap (λ n. n % 2 ^ m) (sym (shr-shr (x % 2 ^ ((r + m) + e) * 2 ^ m) m e))
    ∙ ap (λ n. n / 2 ^ e % 2 ^ m) (shl-shr (x % 2 ^ ((r + m) + e)) m)
    ∙ cut_above x e r m

-- a part of what is left is the next part of the whole
next_part : (b s p x j : ℕ) → j + 1 < p → x % 2 ^ (b * (s * (p - 1))) * 2 ^ (b * s) / 2 ^ (b * (s * (p - 1 - j))) % 2 ^ (b * s) ≡ x / 2 ^ (b * (s * (p - 1 - (j + 1)))) % 2 ^ (b * s)
next_part b s p x j h =
    let q = p - 1 - (j + 1) in
    let all : p - 1 ≡ j + suc q = omega arith in
    let most : p - 1 - j ≡ suc q = omega arith in
    let whole : b * (s * (p - 1)) ≡ (b * (s * j) + b * s) + b * (s * q) = ap (λ n. b * (s * n)) all ∙ (let spread : b * (s * (j + suc q)) ≡ (b * (s * j) + b * s) + b * (s * q) = spread_out b s j q in spread) in
    let here : b * (s * (p - 1 - j)) ≡ b * s + b * (s * q) = ap (λ n. b * (s * n)) most ∙ one_more b s q in
    ap (λ n. x % 2 ^ n * 2 ^ (b * s) / 2 ^ (b * (s * (p - 1 - j))) % 2 ^ (b * s)) whole
    ∙ ap (λ n. x % 2 ^ ((b * (s * j) + b * s) + b * (s * q)) * 2 ^ (b * s) / 2 ^ n % 2 ^ (b * s)) here
    ∙ shifted_part x (b * (s * q)) (b * (s * j)) (b * s)
  where
    spread_out : (b s j q : ℕ) → b * (s * (j + suc q)) ≡ (b * (s * j) + b * s) + b * (s * q)
    spread_out b s j q = omega arith

    one_more : (b s q : ℕ) → b * (s * suc q) ≡ b * s + b * (s * q)
    one_more b s q = omega arith

-- bits that are cut off below
cut_below : (x e r : ℕ) → x % 2 ^ (r + e) / 2 ^ e ≡ x / 2 ^ e % 2 ^ r
cut_below x e r =
    ap (λ n. n / 2 ^ e) (mod-pow-add x r e)
    ∙ shr_high (x / 2 ^ e % 2 ^ r) e (x % 2 ^ e) (mod-lt x (pow_pos e))

-- words that agree above some bits agree so once they are cut above and shifted
agree_shifted : (x y e r m : ℕ) → x / 2 ^ e ≡ y / 2 ^ e → x % 2 ^ (r + e) * 2 ^ m / 2 ^ (m + e) ≡ y % 2 ^ (r + e) * 2 ^ m / 2 ^ (m + e)
agree_shifted x y e r m same = shifted x ∙ ap (λ n. n % 2 ^ r) same ∙ sym (shifted y)
  where
    shifted : (z : ℕ) → z % 2 ^ (r + e) * 2 ^ m / 2 ^ (m + e) ≡ z / 2 ^ e % 2 ^ r
    shifted z =
        sym (shr-shr (z % 2 ^ (r + e) * 2 ^ m) m e)
        ∙ ap (λ n. n / 2 ^ e) (shl-shr (z % 2 ^ (r + e)) m)
        ∙ cut_below z e r

-- ---- the lowest parts of a word, which count for nothing

module _ (sizes : Sizes) where
  -- the bits of so many parts
  abbrev bits_of : ℕ → ℕ
  bits_of parts = sizes.bits * (sizes.symbols * parts)

  abbrev AgreeAbove : ℕ → ℕ → ℕ → Type 0
  AgreeAbove low x y = x / 2 ^ bits_of low ≡ y / 2 ^ bits_of low

  more_bits : (r low : ℕ) → bits_of (r + low) ≡ bits_of r + bits_of low
  more_bits r low = let symbols : sizes.symbols * (r + low) ≡ sizes.symbols * r + sizes.symbols * low = omega arith in ap (λ n. sizes.bits * n) symbols ∙ (let spread : sizes.bits * (sizes.symbols * r + sizes.symbols * low) ≡ bits_of r + bits_of low = omega arith in spread)

  one_more : (low : ℕ) → bits_of (low + 1) ≡ sizes.bits * sizes.symbols + bits_of low
  one_more low = let symbols : sizes.symbols * (low + 1) ≡ sizes.symbols + sizes.symbols * low = omega arith in ap (λ n. sizes.bits * n) symbols ∙ (let spread : sizes.bits * (sizes.symbols + sizes.symbols * low) ≡ sizes.bits * sizes.symbols + bits_of low = omega arith in spread)

  -- all parts but one are the lowest ones and others
  most_bits : (low : ℕ) → low ≤ sizes.parts - 1 → bits_of (sizes.parts - 1) ≡ bits_of (sizes.parts - 1 - low) + bits_of low
  most_bits low most = let sum : sizes.parts - 1 ≡ (sizes.parts - 1 - low) + low = omega (arith, most) in ap bits_of sum ∙ more_bits (sizes.parts - 1 - low) low

  -- the first part is the same
  first_agrees : (low x y : ℕ) → low ≤ sizes.parts - 1 → AgreeAbove low x y → x / 2 ^ bits_of (sizes.parts - 1) ≡ y / 2 ^ bits_of (sizes.parts - 1)
  first_agrees low x y most same = whole x ∙ ap (λ n. n / 2 ^ bits_of (sizes.parts - 1 - low)) same ∙ sym (whole y)
    where
      sum : bits_of (sizes.parts - 1) ≡ bits_of low + bits_of (sizes.parts - 1 - low)
      sum = let turned = most_bits low most in omega (arith, turned)

      whole : (z : ℕ) → z / 2 ^ bits_of (sizes.parts - 1) ≡ z / 2 ^ bits_of low / 2 ^ bits_of (sizes.parts - 1 - low)
      whole z = ap (λ n. z / 2 ^ n) sum ∙ sym (shr-shr z (bits_of low) (bits_of (sizes.parts - 1 - low)))

  -- and what is left behind it, but for one part more
  rest_agrees : (low x y : ℕ) → low ≤ sizes.parts - 1 → AgreeAbove low x y
      → AgreeAbove (low + 1) (x % 2 ^ bits_of (sizes.parts - 1) * 2 ^ (sizes.bits * sizes.symbols)) (y % 2 ^ bits_of (sizes.parts - 1) * 2 ^ (sizes.bits * sizes.symbols))
  rest_agrees low x y most same = cut x ∙ agree_shifted x y (bits_of low) (bits_of (sizes.parts - 1 - low)) (sizes.bits * sizes.symbols) same ∙ sym (cut y)
    where
      cut : (z : ℕ) → z % 2 ^ bits_of (sizes.parts - 1) * 2 ^ (sizes.bits * sizes.symbols) / 2 ^ bits_of (low + 1)
          ≡ z % 2 ^ (bits_of (sizes.parts - 1 - low) + bits_of low) * 2 ^ (sizes.bits * sizes.symbols) / 2 ^ (sizes.bits * sizes.symbols + bits_of low)
      cut z =
          ap (λ n. z % 2 ^ n * 2 ^ (sizes.bits * sizes.symbols) / 2 ^ bits_of (low + 1)) (most_bits low most)
          ∙ ap (λ n. z % 2 ^ (bits_of (sizes.parts - 1 - low) + bits_of low) * 2 ^ (sizes.bits * sizes.symbols) / 2 ^ n) (one_more low)

  -- so many parts of a beat don't see the others of its word
  pub same_parts : (k low x y : ℕ) (beat : Beat) → k + low ≤ sizes.parts → AgreeAbove low x y → split sizes k (record beat { word = x }) ≡ split sizes k (record beat { word = y })
  same_parts zero low x y beat fits same = refl
  same_parts (suc k) low x y beat fits same =
      let most : low ≤ sizes.parts - 1 = omega (arith, fits) in
      let rest : split sizes k (rest_of sizes (record beat { word = x })) ≡ split sizes k (rest_of sizes (record beat { word = y })) =
      same_parts k (low + 1) _ _ (rest_of sizes beat) (omega (arith, fits)) (rest_agrees low x y most same) in
      ap (λ n. record (piece_of sizes beat) { word = n % 2 ^ (sizes.bits * sizes.symbols) } ∷ (if has_more sizes beat then split sizes k (rest_of sizes (record beat { word = x })) else [])) (first_agrees low x y most same)
      ∙ ap (λ (xs : List Beat). piece_of sizes (record beat { word = y }) ∷ (if has_more sizes beat then xs else [])) rest

  -- where all symbols of the lowest part are empty, that part counts for nothing
  pub lowest_is_none : (x lowest : ℕ) (beat : Beat) → sizes.symbols ≤ beat.empty → lowest < 2 ^ (sizes.bits * sizes.symbols)
      → split sizes sizes.parts (record beat { word = x * 2 ^ (sizes.bits * sizes.symbols) }) ≡ split sizes sizes.parts (record beat { word = x * 2 ^ (sizes.bits * sizes.symbols) + lowest })
  lowest_is_none x lowest beat late small =
      let several = sizes.several in
      fewer (x * 2 ^ (sizes.bits * sizes.symbols))
      ∙ same_parts (sizes.parts - 1) 1 _ _ beat (omega (arith, several)) (ap (λ n. x * 2 ^ (sizes.bits * sizes.symbols) / 2 ^ n) one_part ∙ shl-shr x (sizes.bits * sizes.symbols) ∙ sym (shr_high x (sizes.bits * sizes.symbols) lowest small) ∙ ap (λ n. (x * 2 ^ (sizes.bits * sizes.symbols) + lowest) / 2 ^ n) (sym one_part))
      ∙ sym (fewer (x * 2 ^ (sizes.bits * sizes.symbols) + lowest))
    where
      one_part : bits_of 1 ≡ sizes.bits * sizes.symbols
      one_part = let one : sizes.symbols * 1 ≡ sizes.symbols = omega arith in ap (λ n. sizes.bits * n) one

      fewer : (word : ℕ) → split sizes sizes.parts (record beat { word = word }) ≡ split sizes (sizes.parts - 1) (record beat { word = word })
      fewer word =
          let several = sizes.several in
          let sum = parts_sum sizes in
          enough sizes sizes.parts (sizes.parts - 1) (record beat { word = word }) (omega (arith, several)) (omega (arith, several)) (omega arith) (omega (arith, sum, late))

-- ---- pieces

module _ (sizes : Sizes) (wide : Side) (whole : Beat) (bits_are : wide.symbol_bits ≡ sizes.bits) (symbols_are : wide.symbols ≡ sizes.symbols * sizes.parts) where
  abbrev narrow : Side
  narrow = of_symbols wide sizes.symbols

  first_word : (word : ℕ) → word / 2 ^ (sizes.bits * (sizes.symbols * (sizes.parts - 1))) % 2 ^ (sizes.bits * sizes.symbols) ≡ part_word narrow sizes.parts word 0
  first_word word =
      let none : sizes.parts - 1 ≡ sizes.parts - 1 - 0 = omega arith in
      ap (λ n. word / 2 ^ (sizes.bits * (sizes.symbols * n)) % 2 ^ (sizes.bits * sizes.symbols)) none
      ∙ ap (λ b. word / 2 ^ (b * (sizes.symbols * (sizes.parts - 1 - 0))) % 2 ^ (b * sizes.symbols)) (sym bits_are)

  rest_word : (word j : ℕ) → j + 1 < sizes.parts → part_word narrow sizes.parts (word % 2 ^ (sizes.bits * (sizes.symbols * (sizes.parts - 1))) * 2 ^ (sizes.bits * sizes.symbols)) j ≡ part_word narrow sizes.parts word (j + 1)
  rest_word word j h =
      ap (λ b. word % 2 ^ (sizes.bits * (sizes.symbols * (sizes.parts - 1))) * 2 ^ (sizes.bits * sizes.symbols) / 2 ^ (b * (sizes.symbols * (sizes.parts - 1 - j))) % 2 ^ (b * sizes.symbols)) bits_are
      ∙ next_part sizes.bits sizes.symbols sizes.parts word j h
      ∙ ap (λ b. word / 2 ^ (b * (sizes.symbols * (sizes.parts - 1 - (j + 1)))) % 2 ^ (b * sizes.symbols)) (sym bits_are)

  -- the beat is what is left of the whole from part number t on, where so many symbols are left
  record IsLeft (t fuel left : ℕ) (beat : Beat) : Type 0 where
    sum : t + fuel ≡ sizes.parts
    words : (j : ℕ) → j < fuel → part_word narrow sizes.parts beat.word j ≡ part_word narrow sizes.parts whole.word (t + j)
    channel : beat.channel ≡ whole.channel
    error : beat.error ≡ whole.error
    first : beat.first ≡ (if t == 0 then whole.first else 0)
    last : beat.last ≡ whole.last
    empty : beat.empty ≡ sizes.symbols * sizes.parts - left
    some : 0 < left
    most : left ≤ sizes.symbols * sizes.parts

  -- the first piece, by whether another one follows
  abbrev piece_if : Bool → Beat → Beat
  piece_if more beat =
      record {
        word = beat.word / 2 ^ (sizes.bits * (sizes.symbols * (sizes.parts - 1))) % 2 ^ (sizes.bits * sizes.symbols);
        channel = beat.channel;
        error = beat.error;
        first = beat.first;
        last = if more then 0 else beat.last;
        empty = if more then 0 else beat.empty - sizes.symbols * (sizes.parts - 1);
      }

  split_pieces : (fuel t left : ℕ) (beat : Beat) → IsLeft t fuel left beat → left ≤ sizes.symbols * fuel → split sizes fuel beat ≡ pieces_from narrow sizes.parts whole fuel t left
  split_pieces zero t left beat h fits = refl
  split_pieces (suc more) t left beat h fits = by_left (split_pieces more (t + 1) (left - sizes.symbols) (rest_of sizes beat)) (nat_le left sizes.symbols) refl
    where
      word_now : (piece_of sizes beat).word ≡ part_word narrow sizes.parts whole.word t
      word_now = let here : t + 0 ≡ t = omega arith in first_word beat.word ∙ h.words 0 (omega arith) ∙ ap (part_word narrow sizes.parts whole.word) here

      none_more : left ≤ sizes.symbols → has_more sizes beat ≡ false
      none_more few =
          let sum = parts_sum sizes in
          let gone = h.empty in
          let most = h.most in
          le-ltb _ _ (omega (arith, few, sum, gone, most))

      some_more : sizes.symbols < left → has_more sizes beat ≡ true
      some_more many =
          let sum = parts_sum sizes in
          let gone = h.empty in
          let most = h.most in
          lt-ltb _ _ (omega (arith, many, sum, gone, most))

      spread : sizes.symbols * suc more ≡ sizes.symbols * more + sizes.symbols
      spread = omega arith

      later : sizes.symbols < left → IsLeft (t + 1) more (left - sizes.symbols) (rest_of sizes beat)
      later many = record {
        sum = (let sum = h.sum in omega (arith, sum));
        words = λ j lt. (
            let sum = h.sum in
            let next : t + (j + 1) ≡ t + 1 + j = omega arith in
            rest_word beat.word j (omega (arith, sum, lt)) ∙ h.words (j + 1) (omega (arith, lt)) ∙ ap (part_word narrow sizes.parts whole.word) next);
        channel = h.channel;
        error = h.error;
        first = (let other : (t + 1 == 0) ≡ false = ne_eqb (t + 1) 0 (λ z. omega arith) in sym (ap (λ b. if b then whole.first else 0) other));
        last = h.last;
        empty = (let gone = rest_empty sizes beat (some_more many) in let before = h.empty in let most = h.most in omega (arith, gone, before, most, many));
        some = omega (arith, many);
        most = (let most = h.most in omega (arith, most));
      }

      by_left : (IsLeft (t + 1) more (left - sizes.symbols) (rest_of sizes beat) → left - sizes.symbols ≤ sizes.symbols * more → split sizes more (rest_of sizes beat) ≡ pieces_from narrow sizes.parts whole more (t + 1) (left - sizes.symbols)) →
          (b : Bool) → nat_le left sizes.symbols ≡ b → split sizes (suc more) beat ≡
          (if b
          then record { word = part_word narrow sizes.parts whole.word t; channel = whole.channel; error = whole.error; first = if t == 0 then whole.first else 0; last = whole.last; empty = sizes.symbols - left } ∷ []
          else record { word = part_word narrow sizes.parts whole.word t; channel = whole.channel; error = whole.error; first = if t == 0 then whole.first else 0; last = 0; empty = 0 } ∷ pieces_from narrow sizes.parts whole more (t + 1) (left - sizes.symbols))
      by_left rest true is =
          let few : left ≤ sizes.symbols = leb-true left sizes.symbols is in
          let sum = parts_sum sizes in
          let gone = h.empty in
          let most = h.most in
          let some = h.some in
          ap (λ b. piece_if b beat ∷ (if b then split sizes more (rest_of sizes beat) else [])) (none_more few)
          ∙ ap (λ (x : Beat). x ∷ []) (beat_same (piece_if false beat) _ word_now h.channel h.error h.first h.last (omega (arith, sum, gone, most, few, some)))
      by_left rest false is =
          let many : sizes.symbols < left = leb-false left sizes.symbols is in
          ap (λ b. piece_if b beat ∷ (if b then split sizes more (rest_of sizes beat) else [])) (some_more many)
          ∙ ap (λ (x : Beat). x ∷ split sizes more (rest_of sizes beat)) (beat_same (piece_if true beat) _ word_now h.channel h.error h.first refl refl)
          ∙ ap (λ (xs : List Beat). record { word = part_word narrow sizes.parts whole.word t; channel = whole.channel; error = whole.error; first = if t == 0 then whole.first else 0; last = 0; empty = 0 } ∷ xs) (rest (later many) (omega (arith, fits, spread)))

  -- the parts of a beat that holds a symbol are its pieces
  pub parts_are : 0 < symbol_count wide whole → split sizes sizes.parts (counted_beat sizes.count whole) ≡ pieces narrow wide sizes.parts whole
  parts_are some = split_pieces sizes.parts 0 (symbol_count wide whole) (counted_beat sizes.count whole) (begins (whole.last == 1) refl) (most (whole.last == 1))
    where
      most : (b : Bool) → (if b then wide.symbols - whole.empty else wide.symbols) ≤ sizes.symbols * sizes.parts
      most true = omega (arith, symbols_are)
      most false = omega (arith, symbols_are)

      -- where a symbol is held, its count has all bits of empty
      gone : (b : Bool) → 0 < (if b then wide.symbols - whole.empty else wide.symbols) → (if b then whole.empty % 2 ^ sizes.count else 0) ≡ sizes.symbols * sizes.parts - (if b then wide.symbols - whole.empty else wide.symbols)
      gone true h =
          let counts = sizes.counts in
          let whole_is : whole.empty % 2 ^ sizes.count ≡ whole.empty = mod-eq_of_lt (omega (arith, symbols_are, h, counts)) in
          omega (arith, symbols_are, h, whole_is)
      gone false h = omega (arith, symbols_are, h)

      begins : (b : Bool) → (whole.last == 1) ≡ b → IsLeft 0 sizes.parts (symbol_count wide whole) (counted_beat sizes.count whole)
      begins b e = record {
        sum = omega arith;
        words = λ j lt. (let here : j ≡ 0 + j = omega arith in ap (part_word narrow sizes.parts whole.word) here);
        channel = refl;
        error = refl;
        first = refl;
        last = refl;
        empty = gone (whole.last == 1) some;
        some = some;
        most = most (whole.last == 1);
      }
