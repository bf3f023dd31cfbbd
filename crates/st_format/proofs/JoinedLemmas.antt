-- The word that joins what is gathered with the word that comes.
use Rattle.std.proofs.Common.{◌≡◌, ℕ, zero, suc, ◌+◌, ◌-◌, ◌*◌, ◌/◌, ◌%◌, ◌^◌, ◌<◌, ◌≤◌, Bool, true, false, ◌==◌, if◌then◌else◌, ◌⊎◌, inl, inr, List, [], ◌∷◌, ◌++◌, length, map, fold, bit_or, refl, sym, ap, ◌∙◌, arith}
use Rattle.std.proofs.lemmas.Bool.{eq-eqb, ne_eqb, eqb-true, both_ways, cases_lt}
use Rattle.std.proofs.lemmas.Nat.{mod-pow-add, shr_high, pow_pos, pow-add, mul-add-lt, mod-mul-add}
use Rattle.std.proofs.Math.Nat.{mod-lt, mod-eq_of_lt, mul-le-mul_left}
use Rattle.stream_runs.specs.View.{Beat, Side}
use Rattle.stream_machines.specs.Parts.{joined_errors}
use Rattle.stream_machines.specs.Words.{joined_word}
use Rattle.st_format.specs.WidenNets.{laid}

gathered : (x p q w : ℕ) → x * (p * q) + w * q ≡ (x * p + w) * q
gathered x p q w = omega arith

spread : (x p q w l : ℕ) → (x * p + w) * q + l ≡ x * (p * q) + (w * q + l)
spread x p q w l = omega arith

module _ (narrow : Side) (parts : ℕ) (some : 1 ≤ narrow.symbols) where
  abbrev b : ℕ
  b = narrow.symbol_bits

  abbrev s : ℕ
  s = narrow.symbols

  one_more : (q : ℕ) → b * (s * suc q) ≡ b * s + b * (s * q)
  one_more q = omega arith

  one_behind : (q : ℕ) → b * (s * suc q) ≡ b * (s * q) + b * s
  one_behind q = omega arith

  power : (q : ℕ) → 2 ^ (b * (s * suc q)) ≡ 2 ^ (b * s) * 2 ^ (b * (s * q))
  power q = ap (λ n. 2 ^ n) (one_more q) ∙ pow-add 2 (b * s) (b * (s * q))

  pub joined_below : (q : ℕ) (beats : List Beat) → joined_word narrow q beats < 2 ^ (b * (s * q))
  joined_below q [] = pow_pos (b * (s * q))
  joined_below zero (x ∷ xs) = pow_pos (b * (s * 0))
  joined_below (suc q) (x ∷ xs) =
      let below = mul-add-lt (x.word % 2 ^ (b * s)) (2 ^ (b * (s * q))) (joined_word narrow q xs) (2 ^ (b * s)) (mod-lt x.word (pow_pos (b * s))) (joined_below q xs) in
      let all = power q in
      omega (arith, below, all)

  -- words in one place more
  pub joined_up : (q : ℕ) (beats : List Beat) → length beats ≤ q → joined_word narrow (suc q) beats ≡ joined_word narrow q beats * 2 ^ (b * s)
  joined_up q [] few = omega arith
  joined_up zero (x ∷ xs) few = absurd (omega (arith, few))
  joined_up (suc q) (x ∷ xs) few =
      let high : 2 ^ (b * (s * suc q)) ≡ 2 ^ (b * (s * q)) * 2 ^ (b * s) = ap (λ n. 2 ^ n) (one_behind q) ∙ pow-add 2 (b * (s * q)) (b * s) in
      ap (λ n. x.word % 2 ^ (b * s) * n + joined_word narrow (suc q) xs) high
      ∙ ap (λ n. x.word % 2 ^ (b * s) * (2 ^ (b * (s * q)) * 2 ^ (b * s)) + n) (joined_up q xs (omega (arith, few)))
      ∙ gathered (x.word % 2 ^ (b * s)) (2 ^ (b * (s * q))) (2 ^ (b * s)) (joined_word narrow q xs)

  -- a word behind others that fill their places
  pub joined_behind : (q : ℕ) (beats : List Beat) (latest : Beat) → q ≡ length beats → latest.word < 2 ^ (b * s) → joined_word narrow q beats * 2 ^ (b * s) + latest.word ≡ joined_word narrow (suc q) (beats ++ latest ∷ [])
  joined_behind zero [] latest at fits =
      let none : b * (s * 0) ≡ 0 = omega arith in
      let one : 2 ^ (b * (s * 0)) ≡ 1 = ap (λ n. 2 ^ n) none in
      let bare : 0 * 2 ^ (b * s) + latest.word ≡ latest.word * 1 + 0 = omega arith in
      bare ∙ ap (λ n. n * 1 + 0) (sym (mod-eq_of_lt fits)) ∙ ap (λ n. latest.word % 2 ^ (b * s) * n + 0) (sym one)
  joined_behind zero (x ∷ xs) latest at fits = absurd (omega (arith, at))
  joined_behind (suc q) [] latest at fits = absurd (omega (arith, at))
  joined_behind (suc q) (x ∷ xs) latest at fits =
      let high : 2 ^ (b * (s * suc q)) ≡ 2 ^ (b * (s * q)) * 2 ^ (b * s) = ap (λ n. 2 ^ n) (one_behind q) ∙ pow-add 2 (b * (s * q)) (b * s) in
      let apart : (x.word % 2 ^ (b * s) * 2 ^ (b * (s * q)) + joined_word narrow q xs) * 2 ^ (b * s) + latest.word ≡ x.word % 2 ^ (b * s) * (2 ^ (b * (s * q)) * 2 ^ (b * s)) + (joined_word narrow q xs * 2 ^ (b * s) + latest.word) = spread (x.word % 2 ^ (b * s)) (2 ^ (b * (s * q))) (2 ^ (b * s)) (joined_word narrow q xs) latest.word in
      apart
      ∙ ap (λ n. x.word % 2 ^ (b * s) * n + (joined_word narrow q xs * 2 ^ (b * s) + latest.word)) (sym high)
      ∙ ap (λ n. x.word % 2 ^ (b * s) * 2 ^ (b * (s * suc q)) + n) (joined_behind q xs latest (omega (arith, at)) fits)

  -- the top part of a word and what stands below it
  split_top : (h q top low : ℕ) → h % 2 ^ (b * (s * suc q)) ≡ top * 2 ^ (b * (s * q)) + low → low < 2 ^ (b * (s * q)) → (h / 2 ^ (b * (s * q)) % 2 ^ (b * s) ≡ top) × (h % 2 ^ (b * (s * q)) ≡ low)
  split_top h q top low is below =
      let cut : h % 2 ^ (b * (s * suc q)) ≡ h / 2 ^ (b * (s * q)) % 2 ^ (b * s) * 2 ^ (b * (s * q)) + h % 2 ^ (b * (s * q)) = ap (λ n. h % 2 ^ n) (one_more q) ∙ mod-pow-add h (b * s) (b * (s * q)) in
      let same : h / 2 ^ (b * (s * q)) % 2 ^ (b * s) * 2 ^ (b * (s * q)) + h % 2 ^ (b * (s * q)) ≡ top * 2 ^ (b * (s * q)) + low = sym cut ∙ is in
      let mine : h % 2 ^ (b * (s * q)) < 2 ^ (b * (s * q)) = mod-lt h (pow_pos (b * (s * q))) in (
        sym (shr_high _ (b * (s * q)) _ mine) ∙ ap (λ n. n / 2 ^ (b * (s * q))) same ∙ shr_high top (b * (s * q)) low below,
        sym (mod-mul-add _ (2 ^ (b * (s * q))) _ mine) ∙ ap (λ n. n % 2 ^ (b * (s * q))) same ∙ mod-mul-add top (2 ^ (b * (s * q))) low below,
      )

  -- a place that isn't the coming word's
  elsewhere : (k j : ℕ) → k < j → (s * k == s * j) ≡ false
  elsewhere k j h = ne_eqb (s * k) (s * j) (λ e. differs e)
    where
      differs : s * k ≡ s * j → ⊥
      differs e =
          let most : s * suc k ≤ s * j = mul-le-mul_left s (omega arith) in
          let sum : s * suc k ≡ s * k + s = omega arith in
          absurd (omega (arith, most, sum, e, some))

  behind : (k j : ℕ) → j < k → (s * k == s * j) ≡ false
  behind k j h = ne_eqb (s * k) (s * j) (λ e. differs e)
    where
      differs : s * k ≡ s * j → ⊥
      differs e =
          let most : s * suc j ≤ s * k = mul-le-mul_left s (omega arith) in
          let sum : s * suc j ≡ s * j + s = omega arith in
          absurd (omega (arith, most, sum, e, some))

  -- below the coming word nothing is held
  laid_none : (q h coming k : ℕ) → q < parts → k < parts - q → h % 2 ^ (b * (s * q)) ≡ 0 → laid b s parts h coming (s * k) q ≡ 0
  laid_none zero h coming k inside above none = refl
  laid_none (suc q) h coming k inside above none =
      let parted = split_top h q 0 0 (none ∙ omega arith) (pow_pos (b * (s * q))) in
      let other : (s * k == s * (parts - 1 - q)) ≡ false = elsewhere k (parts - 1 - q) (omega arith) in
      ap (λ t. (if t then coming else h / 2 ^ (b * (s * q)) % 2 ^ (b * s)) * 2 ^ (b * (s * q)) + laid b s parts h coming (s * k) q) other
      ∙ ap (λ n. n * 2 ^ (b * (s * q)) + laid b s parts h coming (s * k) q) parted.0
      ∙ ap (λ n. 0 * 2 ^ (b * (s * q)) + n) (laid_none q h coming k (omega arith) (omega arith) parted.1)
      ∙ omega arith

  -- the coming word stands behind the words that are held
  pub laid_joined : (q h k : ℕ) (beats : List Beat) (latest : Beat) → q ≤ parts → k + q ≡ parts + length beats → length beats < q → latest.word < 2 ^ (b * s) → h % 2 ^ (b * (s * q)) ≡ joined_word narrow q beats →
      laid b s parts h latest.word (s * k) q ≡ joined_word narrow q (beats ++ latest ∷ [])
  laid_joined zero h k beats latest inside at few fits is = absurd (omega arith)
  laid_joined (suc q) h k [] latest inside at few fits is =
      let here : (s * k == s * (parts - 1 - q)) ≡ true = eq-eqb (s * k) (s * (parts - 1 - q)) (ap (λ n. s * n) (omega arith)) in
      let parted = split_top h q 0 0 (is ∙ omega arith) (pow_pos (b * (s * q))) in
      let whole : latest.word ≡ latest.word % 2 ^ (b * s) = sym (mod-eq_of_lt fits) in
      ap (λ t. (if t then latest.word else h / 2 ^ (b * (s * q)) % 2 ^ (b * s)) * 2 ^ (b * (s * q)) + laid b s parts h latest.word (s * k) q) here
      ∙ ap (λ n. latest.word * 2 ^ (b * (s * q)) + n) (laid_none q h latest.word k (omega arith) (omega arith) parted.1)
      ∙ ap (λ n. n * 2 ^ (b * (s * q)) + 0) whole
  laid_joined (suc q) h k (x ∷ xs) latest inside at few fits is =
      let other : (s * k == s * (parts - 1 - q)) ≡ false = behind k (parts - 1 - q) (omega arith) in
      let parted = split_top h q (x.word % 2 ^ (b * s)) (joined_word narrow q xs) is (joined_below q xs) in
      ap (λ t. (if t then latest.word else h / 2 ^ (b * (s * q)) % 2 ^ (b * s)) * 2 ^ (b * (s * q)) + laid b s parts h latest.word (s * k) q) other
      ∙ ap (λ n. n * 2 ^ (b * (s * q)) + laid b s parts h latest.word (s * k) q) parted.0
      ∙ ap (λ n. x.word % 2 ^ (b * s) * 2 ^ (b * (s * q)) + n) (laid_joined q h k xs latest (omega arith) (omega arith) (omega arith) fits parted.1)

  -- the last place is the last but for the symbols of one beat
  pub in_last_place : (n : ℕ) → n < parts → (s * n == s * (parts - 1)) ≡ (n + 1 == parts)
  in_last_place n h = by_place (n + 1 == parts) refl
    where
      by_place : (t : Bool) → (n + 1 == parts) ≡ t → (s * n == s * (parts - 1)) ≡ t
      by_place true e = let at : n + 1 ≡ parts = eqb-true (n + 1) parts e in eq-eqb (s * n) (s * (parts - 1)) (ap (λ m. s * m) (omega arith))
      by_place false e = elsewhere n (parts - 1) (under e)
        where
          under : (n + 1 == parts) ≡ false → n < parts - 1
          under e = by_size (cases_lt n (parts - 1))
            where
              by_size : (n < parts - 1) ⊎ (parts - 1 ≤ n) → n < parts - 1
              by_size (inl below) = below
              by_size (inr most) = absurd (both_ways _ e (eq-eqb (n + 1) parts (omega arith)))

-- the errors with one more
pub errors_more : (beats : List Beat) (latest : Beat) → joined_errors (beats ++ latest ∷ []) ≡ bit_or (joined_errors beats) latest.error
errors_more beats latest = from_any 0 beats
  where
    from_any : (e : ℕ) (beats : List Beat) → fold bit_or e (map (λ (beat : Beat). beat.error) (beats ++ latest ∷ [])) ≡ bit_or (fold bit_or e (map (λ (beat : Beat). beat.error) beats)) latest.error
    from_any e [] = refl
    from_any e (x ∷ xs) = from_any (bit_or e x.error) xs
