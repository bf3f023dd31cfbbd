-- A cutter at wide words makes one burst of each touch.
use Rattle.std.proofs.Common.{ℕ, zero, suc, ◌<◌, ◌≤◌, ◌≡◌, ◌+◌, ◌-◌, ◌*◌, ◌/◌, ◌%◌, Bool, true, false, List, [], ◌∷◌, ◌++◌, if◌then◌else◌, arith, refl, sym, ap, ap₂, ◌∙◌, length, map, flat_map, nat_eq, nat_lt, length-append, zero-mul, one-mul, add-mul, Option, Some, None, mul_assoc}
use Rattle.std.proofs.lemmas.Bool.{eqb-true}
use Rattle.std.proofs.lemmas.List.{length-map}
use Rattle.std.proofs.lemmas.Nat.{mod-mul-add}
use Rattle.std.proofs.Math.Nat.{mod-eq-sub-div-mul, div-mul-le_self, add-mul-div_right}
use Rattle.histories.specs.History.{numbers}
use Rattle.memory_runs.specs.Views.{Shape, Levels}
use Rattle.memory_runs.specs.Operations.{Beat, operation_at, filled_lanes}
use Rattle.memory_runs.specs.Commands.{read_beat, byte_address}
use Rattle.memory_runs.specs.Packed.{Touch, goes_on}
use Rattle.memory_machines.specs.Link.{Target, beat_operations}
use Rattle.memory_links.specs.Packs.{touch_in, touches_from, acting}
use Rattle.memory_links.proofs.TouchNumbers.{touch_at, goes_in_word, stops_at_word}

module _ (target : Target) (shape : Shape) (many s : ℕ) (some : 0 < shape.word_bytes) (more : 0 < many) (spans : 0 < s)
    (word : target.shape.word_bytes ≡ many * shape.word_bytes) (span : target.span ≡ s * target.shape.word_bytes) (levels : Levels) where
  abbrev b : ℕ
  b = shape.word_bytes

  abbrev pub beat : ℕ → Beat
  beat k = read_beat shape levels k

  -- how many operations each beat has
  abbrev pub p : ℕ
  p = length (filled_lanes shape target.shape levels.enables)

  pub ops_are : (k : ℕ) → length (beat_operations target shape (beat k)) ≡ p
  ops_are k = length-map (filled_lanes shape target.shape levels.enables) (operation_at target.span (beat k))

  pub ops_of : (k n : ℕ) → length (flat_map (beat_operations target shape) (map beat (numbers k n))) ≡ n * p
  ops_of k zero = sym (zero-mul p)
  ops_of k (suc n) =
      let one = ops_are k in
      let rest = ops_of (suc k) n in
      let both = length-append (beat_operations target shape (beat k)) (flat_map (beat_operations target shape) (map beat (numbers (suc k) n))) in
      let next : suc n ≡ 1 + n = omega arith in
      let sum = ap (λ m. m * p) next ∙ add-mul 1 n p in
      let unit = one-mul p in
      omega (arith, one, rest, both, sum, unit)

  -- the number of a narrow word
  abbrev pub q : ℕ → ℕ
  q k = byte_address shape levels.address / b + k

  pub address_is : (k : ℕ) → (beat k).address ≡ q k * b
  address_is k =
      let x = levels.address * shape.unit_bytes in
      let multiple : x - x % b ≡ x / b * b = (let low = mod-eq-sub-div-mul x b in let fits = div-mul-le_self x b in omega (arith, low, fits)) in
      let none : 0 + x / b * b ≡ x / b * b = omega arith in
      let whole : (x - x % b) / b ≡ x / b = ap (λ n. n / b) (multiple ∙ sym none) ∙ add-mul-div_right 0 (x / b) some ∙ zeros (x / b) in
      let sum = add-mul ((x - x % b) / b) k b in
      let same = ap (λ n. n * b) whole in
      omega (arith, multiple, sum, same)
    where
      zeros : (n : ℕ) → 0 / b + n ≡ n
      zeros n = (let low : 0 / b ≡ 0 = (let fits = div-mul-le_self 0 b in by_zero (0 / b) fits) in omega (arith, low))
        where
          by_zero : (d : ℕ) → d * b ≤ 0 → d ≡ 0
          by_zero zero h = refl
          by_zero (suc d) h = (let next : suc d ≡ 1 + d = omega arith in let sum = ap (λ m. m * b) next ∙ add-mul 1 d b in let unit = one-mul b in absurd (omega (arith, h, sum, unit, some)))

  abbrev touch : ℕ → Touch
  touch j = touch_at b many s some more spans j

  touch_is : (k : ℕ) → touch_in target (beat k) ≡ touch (q k)
  touch_is k =
      let whole : target.span ≡ s * many * b = span ∙ ap (λ n. s * n) word ∙ sym (mul_assoc s many b) in
      ap₂ (λ (a m : ℕ). by a m) (address_is k) whole ∙ ap (λ w. record { word = ((q k * b) % (s * many * b)) / w; offset = (q k * b) % (s * many * b) }) word
    where
      by : ℕ → ℕ → Touch
      by a m = record { word = (a % m) / target.shape.word_bytes; offset = a % m }

  pub q_next : (k : ℕ) → q (suc k) ≡ suc (q k)
  q_next k = omega arith

  goes : (k : ℕ) → q k % many + 1 < many → goes_on (Some (touch_in target (beat k))) (touch_in target (beat (suc k))) ≡ true
  goes k h = ap₂ (λ t u. goes_on (Some t) u) (touch_is k) (touch_is (suc k) ∙ ap touch (q_next k)) ∙ goes_in_word b many s some more spans (q k) h

  pub stops : (k : ℕ) → q k % many + 1 ≡ many → goes_on (Some (touch_in target (beat k))) (touch_in target (beat (suc k))) ≡ false
  stops k h = ap₂ (λ t u. goes_on (Some t) u) (touch_is k) (touch_is (suc k) ∙ ap touch (q_next k)) ∙ stops_at_word b many s some more spans (q k) h

  -- within a word the place rises by one
  pub place_rises : (x n : ℕ) → x % many + n < many → (x + n) % many ≡ x % many + n
  place_rises x n h = (let low = mod-eq-sub-div-mul x many in let fits = div-mul-le_self x many in let whole : x + n ≡ x / many * many + (x % many + n) = omega (arith, low, fits) in ap (λ m. m % many) whole ∙ mod-mul-add (x / many) many (x % many + n) h)

  -- ---- beats with operations

  module _ (acts : 0 < p) where
    not_none : (k : ℕ) → nat_eq (length (beat_operations target shape (beat k))) 0 ≡ false
    not_none k = by_none (nat_eq (length (beat_operations target shape (beat k))) 0) refl
      where
        by_none : (t : Bool) → nat_eq (length (beat_operations target shape (beat k))) 0 ≡ t → nat_eq (length (beat_operations target shape (beat k))) 0 ≡ false
        by_none false e = e
        by_none true e = (let none = eqb-true (length (beat_operations target shape (beat k))) 0 e in let is = ops_are k in absurd (omega (arith, none, is, acts)))

    -- further beats of an open touch
    open_on : (k n size : ℕ) (rest : List Beat) → q k % many + n < many →
        touches_from target shape (Some (touch_in target (beat k))) size (map beat (numbers (suc k) n) ++ rest) ≡ touches_from target shape (Some (touch_in target (beat (k + n)))) (size + n * p) rest
    open_on k zero size rest h =
        let here : k + 0 ≡ k = omega arith in
        let none = zero-mul p in
        let same : size + 0 * p ≡ size = omega (arith, none) in
        ap₂ (λ j m. touches_from target shape (Some (touch_in target (beat j))) m rest) (sym here) (sym same)
    open_on k (suc n) size rest h =
        let on = goes k (omega (arith, h)) in
        let later = map beat (numbers (suc (suc k)) n) ++ rest in
        let next = q_next k in
        let place : q (suc k) % many ≡ q k % many + 1 = (let e : q (suc k) ≡ q k + 1 = omega arith in ap (λ m. m % many) e ∙ place_rises (q k) 1 (omega (arith, h))) in
        let rest_on = open_on (suc k) n (size + length (beat_operations target shape (beat (suc k)))) rest (omega (arith, place, h)) in
        let at : suc k + n ≡ k + suc n = omega arith in
        let one = ops_are (suc k) in
        let e2 : suc n ≡ 1 + n = omega arith in
        let sum = ap (λ m. m * p) e2 ∙ add-mul 1 n p in
        let unit = one-mul p in
        let total : (size + length (beat_operations target shape (beat (suc k)))) + n * p ≡ size + suc n * p = omega (arith, one, sum, unit) in
        ap₂ (λ x y. if x then size ∷ touches_from target shape None 0 later
        else if y then touches_from target shape (Some (touch_in target (beat (suc k)))) (size + length (beat_operations target shape (beat (suc k)))) later
        else size ∷ touches_from target shape (Some (touch_in target (beat (suc k)))) (length (beat_operations target shape (beat (suc k)))) later) (not_none (suc k)) on
        ∙ rest_on ∙ ap₂ (λ j m. touches_from target shape (Some (touch_in target (beat j))) m rest) at total

    -- a touch that begins: it is as long as the burst
    pub one_touch : (last : Option Touch) (size k n : ℕ) (rest : List Beat) → goes_on last (touch_in target (beat k)) ≡ false → q k % many + n < many →
        touches_from target shape last size (map beat (numbers k (suc n)) ++ rest) ≡ size ∷ touches_from target shape (Some (touch_in target (beat (k + n)))) (suc n * p) rest
    one_touch last size k n rest off h =
        let later = map beat (numbers (suc k) n) ++ rest in
        let one = ops_are k in
        let e2 : suc n ≡ 1 + n = omega arith in
        let sum = ap (λ m. m * p) e2 ∙ add-mul 1 n p in
        let unit = one-mul p in
        let total : length (beat_operations target shape (beat k)) + n * p ≡ suc n * p = omega (arith, one, sum, unit) in
        ap₂ (λ x y. if x then size ∷ touches_from target shape None 0 later
        else if y then touches_from target shape (Some (touch_in target (beat k))) (size + length (beat_operations target shape (beat k))) later
        else size ∷ touches_from target shape (Some (touch_in target (beat k))) (length (beat_operations target shape (beat k))) later) (not_none k) off
        ∙ ap (λ l. size ∷ l) (open_on k n (length (beat_operations target shape (beat k))) rest h ∙ ap (λ m. touches_from target shape (Some (touch_in target (beat (k + n)))) m rest) total)

  -- without operations there are no touches
  pub no_touches : p ≡ 0 → (last : Option Touch) (size k n : ℕ) → acting (touches_from target shape last size (map beat (numbers k n))) ≡ acting (size ∷ [])
  no_touches none last size k zero = refl
  no_touches none last size k (suc n) =
      let is : nat_eq (length (beat_operations target shape (beat k))) 0 ≡ true = ap (λ m. nat_eq m 0) (ops_are k ∙ none) in
      let later = map beat (numbers (suc k) n) in
      let rest = no_touches none None 0 (suc k) n in
      ap (λ x. acting (if x then size ∷ touches_from target shape None 0 later
      else if goes_on last (touch_in target (beat k)) then touches_from target shape (Some (touch_in target (beat k))) (size + length (beat_operations target shape (beat k))) later
      else size ∷ touches_from target shape (Some (touch_in target (beat k))) (length (beat_operations target shape (beat k))) later)) is
      ∙ by_size (nat_lt 0 size) rest
    where
      by_size : (t : Bool) → acting (touches_from target shape None 0 (map beat (numbers (suc k) n))) ≡ [] →
          (if t then size ∷ acting (touches_from target shape None 0 (map beat (numbers (suc k) n))) else acting (touches_from target shape None 0 (map beat (numbers (suc k) n)))) ≡ (if t then size ∷ [] else [])
      by_size true e = ap (λ l. size ∷ l) e
      by_size false e = e
