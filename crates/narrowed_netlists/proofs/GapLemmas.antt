-- Words without the bits in a gap, and with zeros there.
use Rattle.std.proofs.Common.{◌≡◌, ℕ, ◌+◌, ◌-◌, ◌*◌, ◌/◌, ◌%◌, ◌^◌, ◌<◌, ◌≤◌, sym, ap, subst, ◌∙◌, arith}
use Rattle.std.proofs.Math.Nat.{mul-mod_left, mod-eq_of_lt, div-eq_of_lt}
use Rattle.std.proofs.lemmas.Nat.{pow_pos, pow-add, shr_split, shr_high, mod_low, mod_below, shr_below, mod-pow-add, mul-add-lt, mul-le}
use Rattle.narrowed_netlists.specs.declared.gaps.Gap.{Gap}
use Rattle.narrowed_netlists.specs.Gaps.{narrowed, widened, IsOpen, FitsIn}

-- 2 ^ (l + z) as a product
apart : (a l z : ℕ) → a * 2 ^ (l + z) ≡ a * 2 ^ z * 2 ^ l
apart a l z = ap (λ t. a * t) (pow-add 2 l z) ∙ grind arith

pub widened_open : (gap : Gap) (n : ℕ) → IsOpen gap (widened gap n)
widened_open gap n =
    let l = gap.low in
    let z = gap.zeros in
    let low : n % 2 ^ l < 2 ^ l = mod_below n (2 ^ l) (pow_pos l) in
    ap (λ t. (t + n % 2 ^ l) / 2 ^ l % 2 ^ z) (apart (n / 2 ^ l) l z) ∙ ap (λ t. t % 2 ^ z) (shr_high (n / 2 ^ l * 2 ^ z) l (n % 2 ^ l) low) ∙ mul-mod_left (n / 2 ^ l) (2 ^ z)

pub widened_narrowed : (gap : Gap) (n : ℕ) → IsOpen gap n → widened gap (narrowed gap n) ≡ n
widened_narrowed gap n open_is =
    let l = gap.low in
    let z = gap.zeros in
    let low : n % 2 ^ l < 2 ^ l = mod_below n (2 ^ l) (pow_pos l) in
    let high : narrowed gap n / 2 ^ l ≡ n / 2 ^ (l + z) = shr_high (n / 2 ^ (l + z)) l (n % 2 ^ l) low in
    let rest : narrowed gap n % 2 ^ l ≡ n % 2 ^ l = mod_low (n / 2 ^ (l + z)) l (n % 2 ^ l) low in
    let turned : n % 2 ^ (l + z) ≡ n % 2 ^ (z + l) = ap (λ t. n % 2 ^ t) (sums l z) in
    let nothing : n % 2 ^ (z + l) ≡ 0 * 2 ^ l + n % 2 ^ l = mod-pow-add n z l ∙ ap (λ t. t * 2 ^ l + n % 2 ^ l) open_is in
    ap (λ t. t * 2 ^ (l + z) + narrowed gap n % 2 ^ l) high ∙ ap (λ t. n / 2 ^ (l + z) * 2 ^ (l + z) + t) (rest ∙ sym (turned ∙ nothing ∙ plain (n % 2 ^ l) (2 ^ l))) ∙ shr_split n (l + z)
  where
    sums : (l z : ℕ) → l + z ≡ z + l
    sums l z = omega arith

    plain : (a m : ℕ) → 0 * m + a ≡ a
    plain a m = omega arith

-- the powers of a word of this width
record HasParts (gap : Gap) (width : ℕ) : Type 0 where
  pub above : ℕ
  pub whole : width ≡ above + (gap.low + gap.zeros)
  pub core : width - gap.zeros ≡ above + gap.low

has_parts : (gap : Gap) (width : ℕ) → FitsIn gap width → HasParts gap width
has_parts gap width h =
    let inside = h.inside in
    record { above = width - (gap.low + gap.zeros); whole = omega (arith, inside); core = omega (arith, inside) }

joined : (a k m b j : ℕ) → a < 2 ^ m → b < 2 ^ k → j ≡ m + k → a * 2 ^ k + b < 2 ^ j
joined a k m b j p q e =
    let low = mul-add-lt a (2 ^ k) b (2 ^ m) p q in
    subst (λ t. a * 2 ^ k + b < t) (turned (2 ^ k) (2 ^ m) ∙ sym (pow-add 2 m k) ∙ ap (λ t. 2 ^ t) (sym e)) low
  where
    turned : (x y : ℕ) → x * y ≡ y * x
    turned x y = grind arith

pub narrowed_fits : (gap : Gap) (n width : ℕ) → FitsIn gap width → n < 2 ^ width → narrowed gap n < 2 ^ (width - gap.zeros)
narrowed_fits gap n width h fits =
    let parts = has_parts gap width h in
    joined (n / 2 ^ (gap.low + gap.zeros)) gap.low parts.above (n % 2 ^ gap.low) (width - gap.zeros)
    (shr_below n parts.above (gap.low + gap.zeros) (subst (λ t. n < 2 ^ t) parts.whole fits)) (mod_below n (2 ^ gap.low) (pow_pos gap.low)) parts.core

pub widened_fits : (gap : Gap) (n width : ℕ) → FitsIn gap width → n < 2 ^ (width - gap.zeros) → widened gap n < 2 ^ width
widened_fits gap n width h fits =
    let parts = has_parts gap width h in
    joined (n / 2 ^ gap.low) (gap.low + gap.zeros) parts.above (n % 2 ^ gap.low) width (shr_below n parts.above gap.low (subst (λ t. n < 2 ^ t) parts.core fits))
    (below (n % 2 ^ gap.low) (2 ^ gap.low) (2 ^ gap.zeros) (2 ^ (gap.low + gap.zeros)) (mod_below n (2 ^ gap.low) (pow_pos gap.low)) (pow_pos gap.zeros) (pow-add 2 gap.low gap.zeros)) parts.whole
  where
    below : (a m k j : ℕ) → a < m → 0 < k → j ≡ m * k → a < j
    below a m k j p q e = let r : m * 1 ≤ m * k = mul-le m 1 m k (omega arith) (omega (arith, q)) in omega (arith, p, r, e)

-- ---- by slices and concatenations

pub high_slice : (n w a : ℕ) → a < w → n < 2 ^ w → n / 2 ^ a % 2 ^ (w - 1 - a + 1) ≡ n / 2 ^ a
high_slice n w a less fits =
    let whole : w ≡ w - 1 - a + 1 + a = omega (arith, less) in
    mod-eq_of_lt (shr_below n (w - 1 - a + 1) a (subst (λ t. n < 2 ^ t) whole fits))

pub low_slice : (n l : ℕ) → 1 ≤ l → n / 2 ^ 0 % 2 ^ (l - 1 - 0 + 1) ≡ n % 2 ^ l
low_slice n l some =
    let same : l - 1 - 0 + 1 ≡ l = omega (arith, some) in
    let one : n / 1 ≡ n = omega arith in
    ap (λ t. n / 1 % 2 ^ t) same ∙ ap (λ t. t % 2 ^ l) one

at_none : (x n : ℕ) → x * 2 ^ 0 + n % 2 ^ 0 ≡ x
at_none x n = omega arith

pub narrowed_none : (gap : Gap) (n : ℕ) → gap.zeros ≡ 0 → n ≡ narrowed gap n
narrowed_none gap n e =
    let same : gap.low + gap.zeros ≡ gap.low = omega (arith, e) in
    sym (ap (λ t. n / 2 ^ t * 2 ^ gap.low + n % 2 ^ gap.low) same ∙ shr_split n gap.low)

pub narrowed_from_low : (gap : Gap) (n w : ℕ) → gap.low ≡ 0 → gap.low + gap.zeros < w → n < 2 ^ w → n / 2 ^ (gap.low + gap.zeros) % 2 ^ (w - 1 - (gap.low + gap.zeros) + 1) ≡ narrowed gap n
narrowed_from_low gap n w e less fits =
    high_slice n w (gap.low + gap.zeros) less fits ∙ sym (ap (λ t. n / 2 ^ (gap.low + gap.zeros) * 2 ^ t + n % 2 ^ t) e ∙ at_none (n / 2 ^ (gap.low + gap.zeros)) n)

pub narrowed_to_top : (gap : Gap) (n w : ℕ) → gap.low + gap.zeros ≡ w → 1 ≤ gap.low → n < 2 ^ w → n / 2 ^ 0 % 2 ^ (gap.low - 1 - 0 + 1) ≡ narrowed gap n
narrowed_to_top gap n w e some fits =
    let none : n / 2 ^ (gap.low + gap.zeros) ≡ 0 = ap (λ t. n / 2 ^ t) e ∙ div-eq_of_lt fits in
    low_slice n gap.low some ∙ sym (ap (λ t. t * 2 ^ gap.low + n % 2 ^ gap.low) none ∙ plain (2 ^ gap.low) (n % 2 ^ gap.low))
  where
    plain : (x y : ℕ) → 0 * x + y ≡ y
    plain x y = omega arith

pub narrowed_middle : (gap : Gap) (n w : ℕ) → 1 ≤ gap.low → gap.low + gap.zeros < w → n < 2 ^ w
    → (n / 2 ^ (gap.low + gap.zeros) % 2 ^ (w - 1 - (gap.low + gap.zeros) + 1)) * 2 ^ (gap.low - 1 - 0 + 1) + n / 2 ^ 0 % 2 ^ (gap.low - 1 - 0 + 1) ≡ narrowed gap n
narrowed_middle gap n w some less fits =
    let same : gap.low - 1 - 0 + 1 ≡ gap.low = omega (arith, some) in
    ap (λ t. t * 2 ^ (gap.low - 1 - 0 + 1) + n / 2 ^ 0 % 2 ^ (gap.low - 1 - 0 + 1)) (high_slice n w (gap.low + gap.zeros) less fits)
    ∙ ap (λ t. n / 2 ^ (gap.low + gap.zeros) * 2 ^ t + n / 2 ^ 0 % 2 ^ (gap.low - 1 - 0 + 1)) same ∙ ap (λ t. n / 2 ^ (gap.low + gap.zeros) * 2 ^ gap.low + t) (low_slice n gap.low some)

pub widened_none : (gap : Gap) (n : ℕ) → gap.zeros ≡ 0 → n ≡ widened gap n
widened_none gap n e =
    let same : gap.low + gap.zeros ≡ gap.low = omega (arith, e) in
    sym (ap (λ t. n / 2 ^ gap.low * 2 ^ t + n % 2 ^ gap.low) same ∙ shr_split n gap.low)

pub widened_from_low : (gap : Gap) (n absent : ℕ) → gap.low ≡ 0 → absent ≡ 0 → n * 2 ^ gap.zeros + absent ≡ widened gap n
widened_from_low gap n absent e f =
    let one : n / 1 ≡ n = omega arith in
    let none : n % 1 ≡ 0 = omega arith in
    ap (λ t. n * 2 ^ gap.zeros + t) f
    ∙ sym (ap (λ t. n / 2 ^ t * 2 ^ (t + gap.zeros) + n % 2 ^ t) e ∙ ap (λ t. t * 2 ^ (0 + gap.zeros) + n % 1) one ∙ ap (λ t. n * 2 ^ (0 + gap.zeros) + t) none ∙ ap (λ t. n * 2 ^ t + 0) (plain gap.zeros))
  where
    plain : (x : ℕ) → 0 + x ≡ x
    plain x = omega arith

pub widened_to_top : (gap : Gap) (n absent w : ℕ) → gap.low ≡ w → n < 2 ^ w → absent ≡ 0 → absent * 2 ^ w + n ≡ widened gap n
widened_to_top gap n absent w e fits f =
    let none : n / 2 ^ gap.low ≡ 0 = ap (λ t. n / 2 ^ t) e ∙ div-eq_of_lt fits in
    let whole : n % 2 ^ gap.low ≡ n = ap (λ t. n % 2 ^ t) e ∙ mod-eq_of_lt fits in
    ap (λ t. t * 2 ^ w + n) f ∙ plain (2 ^ w) n ∙ sym (ap (λ t. t * 2 ^ (gap.low + gap.zeros) + n % 2 ^ gap.low) none ∙ plain (2 ^ (gap.low + gap.zeros)) (n % 2 ^ gap.low) ∙ whole)
  where
    plain : (x y : ℕ) → 0 * x + y ≡ y
    plain x y = omega arith

pub widened_middle : (gap : Gap) (n absent w : ℕ) → 1 ≤ gap.low → gap.low < w → n < 2 ^ w → absent ≡ 0
    → ((n / 2 ^ gap.low % 2 ^ (w - 1 - gap.low + 1)) * 2 ^ gap.zeros + absent) * 2 ^ (gap.low - 1 - 0 + 1) + n / 2 ^ 0 % 2 ^ (gap.low - 1 - 0 + 1) ≡ widened gap n
widened_middle gap n absent w some less fits f =
    let same : gap.low - 1 - 0 + 1 ≡ gap.low = omega (arith, some) in
    ap (λ t. (t * 2 ^ gap.zeros + absent) * 2 ^ (gap.low - 1 - 0 + 1) + n / 2 ^ 0 % 2 ^ (gap.low - 1 - 0 + 1)) (high_slice n w gap.low less fits)
    ∙ ap (λ t. (n / 2 ^ gap.low * 2 ^ gap.zeros + t) * 2 ^ (gap.low - 1 - 0 + 1) + n / 2 ^ 0 % 2 ^ (gap.low - 1 - 0 + 1)) f
    ∙ ap (λ t. (n / 2 ^ gap.low * 2 ^ gap.zeros + 0) * 2 ^ t + n / 2 ^ 0 % 2 ^ (gap.low - 1 - 0 + 1)) same
    ∙ ap (λ t. (n / 2 ^ gap.low * 2 ^ gap.zeros + 0) * 2 ^ gap.low + t) (low_slice n gap.low some)
    ∙ ap (λ t. t * 2 ^ gap.low + n % 2 ^ gap.low) (more (n / 2 ^ gap.low * 2 ^ gap.zeros)) ∙ ap (λ t. t + n % 2 ^ gap.low) (sym (apart (n / 2 ^ gap.low) gap.low gap.zeros))
  where
    more : (x : ℕ) → x + 0 ≡ x
    more x = omega arith
