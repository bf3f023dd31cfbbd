-- Which neighbouring narrow words lie in one word of the agent, by their numbers.
use Rattle.std.proofs.Common.{ℕ, suc, ◌<◌, ◌≤◌, ◌≡◌, ◌+◌, ◌*◌, ◌/◌, ◌%◌, Bool, true, false, ◌&&◌, arith, refl, sym, ap, ap₂, ◌∙◌, nat_eq, nat_lt, Some, zero-mul, one-mul, add-mul, mul_assoc, mul-le-mul_right, lt-ltb, ltb-true, ltb-false}
use Rattle.std.proofs.lemmas.Bool.{eq-eqb, eqb-true, le-ltb}
use Rattle.std.proofs.lemmas.Nat.{mod-mul-add, div-mul-add}
use Rattle.std.proofs.Math.Nat.{mod-lt, mod-eq-sub-div-mul, div-mul-le_self, mul-div-mul_right, mul-add-mod_self_right, mul-lt-mul_of_pos_right}
use Rattle.memory_runs.specs.Packed.{Touch, goes_on}

module _ (b many s : ℕ) (some : 0 < b) (more : 0 < many) (spans : 0 < s) where
  -- narrow words in the span
  abbrev S : ℕ
  S = s * many

  some_in_span : 0 < S
  some_in_span =
      let least = mul-le-mul_right many spans in
      let one = one-mul many in
      omega (arith, least, one, more)

  abbrev pub touch_at : ℕ → Touch
  touch_at q = record { word = ((q * b) % (S * b)) / (many * b); offset = (q * b) % (S * b) }

  parts : (n k : ℕ) → n ≡ n / k * k + n % k
  parts n k = (let low = mod-eq-sub-div-mul n k in let fits = div-mul-le_self n k in omega (arith, low, fits))

  offset_is : (q r a : ℕ) → q ≡ a * S + r → r < S → (q * b) % (S * b) ≡ r * b
  offset_is q r a e less =
      let small : r * b < S * b = mul-lt-mul_of_pos_right less some in
      ap (λ n. (n * b) % (S * b)) e ∙ ap (λ n. n % (S * b)) (add-mul (a * S) r b ∙ ap (λ n. n + r * b) (mul_assoc a S b)) ∙ mod-mul-add a (S * b) (r * b) small

  word_is : (r : ℕ) → (r * b) / (many * b) ≡ r / many
  word_is r = mul-div-mul_right r many some

  -- a touch by the number in the span
  touch_by : (q r a : ℕ) → q ≡ a * S + r → r < S → touch_at q ≡ record { word = r / many; offset = r * b }
  touch_by q r a e less = (let o = offset_is q r a e less in ap (λ (n : ℕ). touch_of n) o ∙ ap (λ w. record { word = w; offset = r * b }) (word_is r))
    where
      touch_of : ℕ → Touch
      touch_of n = record { word = n / (many * b); offset = n }

  place_in_word : (q : ℕ) → q % many ≡ (q % S) % many
  place_in_word q =
      let is = parts q S in
      let assoc = mul_assoc (q / S) s many in
      ap (λ n. n % many) (is ∙ ap (λ n. n + q % S) (sym assoc)) ∙ mul-add-mod_self_right (q / S * s) many (q % S)

  -- the next narrow word lies in the same word
  pub goes_in_word : (q : ℕ) → q % many + 1 < many → goes_on (Some (touch_at q)) (touch_at (suc q)) ≡ true
  goes_in_word q less =
      let r = q % S in
      let low : r < S = mod-lt q some_in_span in
      let m = r % many in
      let d = r / many in
      let same = place_in_word q in
      let next : m + 1 < many = omega (arith, same, less) in
      let split = parts r many in
      let below : d < s = in_span d m split low in
      let room = mul-le-mul_right many (let l : d + 1 ≤ s = omega (arith, below) in l) in
      let sum = add-mul d 1 many in
      let one = one-mul many in
      let fits : r + 1 < S = omega (arith, split, next, room, sum, one) in
      let whole = parts q S in
      let here : touch_at q ≡ record { word = r / many; offset = r * b } = touch_by q r (q / S) whole low in
      let there : touch_at (suc q) ≡ record { word = (r + 1) / many; offset = (r + 1) * b } = touch_by (suc q) (r + 1) (q / S) (omega (arith, whole)) fits in
      let words : (r + 1) / many ≡ d = (let e : r + 1 ≡ d * many + (m + 1) = omega (arith, split) in ap (λ n. n / many) e ∙ div-mul-add d many (m + 1) next) in
      let rises : r * b < (r + 1) * b = mul-lt-mul_of_pos_right (let l : r < r + 1 = omega arith in l) some in
      ap₂ (λ t u. goes_on (Some t) u) here there ∙ ap₂ (λ x y. x && y) (eq-eqb (r / many) ((r + 1) / many) (sym words)) (lt-ltb (r * b) ((r + 1) * b) rises)
    where
      in_span : (d m : ℕ) → q % S ≡ d * many + m → q % S < S → d < s
      in_span d m split low = by_less (nat_lt d s) refl
        where
          by_less : (t : Bool) → nat_lt d s ≡ t → d < s
          by_less true e = ltb-true d s e
          by_less false e = (let most = ltb-false d s e in let bad = mul-le-mul_right many most in absurd (omega (arith, split, low, bad)))

  -- or begins another one
  pub stops_at_word : (q : ℕ) → q % many + 1 ≡ many → goes_on (Some (touch_at q)) (touch_at (suc q)) ≡ false
  stops_at_word q last = by_end (nat_lt (q % S + 1) S) refl
    where
      by_end : (t : Bool) → nat_lt (q % S + 1) S ≡ t → goes_on (Some (touch_at q)) (touch_at (suc q)) ≡ false
      by_end true e =
          let r = q % S in
          let fits = ltb-true (r + 1) S e in
          let low : r < S = omega (arith, fits) in
          let d = r / many in
          let same = place_in_word q in
          let split = parts r many in
          let whole = parts q S in
          let here : touch_at q ≡ record { word = r / many; offset = r * b } = touch_by q r (q / S) whole low in
          let there : touch_at (suc q) ≡ record { word = (r + 1) / many; offset = (r + 1) * b } = touch_by (suc q) (r + 1) (q / S) (omega (arith, whole)) fits in
          let sum = add-mul d 1 many in
          let one = one-mul many in
          let words : (r + 1) / many ≡ d + 1 =
          (let e2 : r + 1 ≡ (d + 1) * many + 0 = omega (arith, split, same, last, sum, one) in ap (λ n. n / many) e2 ∙ div-mul-add (d + 1) many 0 more) in
          ap₂ (λ t u. goes_on (Some t) u) here there ∙ ap (λ n. nat_eq d n && nat_lt (r * b) ((r + 1) * b)) words ∙ ap (λ x. x && nat_lt (r * b) ((r + 1) * b)) (other d)
        where
          other : (d : ℕ) → nat_eq d (d + 1) ≡ false
          other d = by_same (nat_eq d (d + 1)) refl
            where
              by_same : (t : Bool) → nat_eq d (d + 1) ≡ t → nat_eq d (d + 1) ≡ false
              by_same false f = f
              by_same true f = (let bad = eqb-true d (d + 1) f in absurd (omega (arith, bad)))
      by_end false e =
          let r = q % S in
          let most = ltb-false (r + 1) S e in
          let low : r < S = mod-lt q some_in_span in
          let whole = parts q S in
          let sum = add-mul (q / S) 1 S in
          let one = one-mul S in
          let here : touch_at q ≡ record { word = r / many; offset = r * b } = touch_by q r (q / S) whole low in
          let there : touch_at (suc q) ≡ record { word = 0 / many; offset = 0 * b } = touch_by (suc q) 0 (q / S + 1) (omega (arith, whole, most, low, sum, one)) some_in_span in
          let none = zero-mul b in
          ap₂ (λ t u. goes_on (Some t) u) here there ∙ ap (λ n. nat_eq (r / many) (0 / many) && nat_lt (r * b) n) none ∙ never_less (nat_eq (r / many) (0 / many)) (r * b) (le-ltb (r * b) 0 (omega arith))
        where
          never_less : (x : Bool) (n : ℕ) → nat_lt n 0 ≡ false → x && nat_lt n 0 ≡ false
          never_less true n f = f
          never_less false n f = refl
