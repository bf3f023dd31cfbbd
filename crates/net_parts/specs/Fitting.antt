-- A net in another width. No contract reads a proof of these.
use Rattle.std.proofs.Common.{◌≡◌, ℕ, Bool, true, false, if◌then◌else◌, ◌==◌, ◌+◌, ◌-◌, ◌*◌, ◌/◌, ◌%◌, ◌^◌, ◌<◌, ◌≤◌, refl, sym, ap, ◌∙◌, arith}
use Rattle.std.proofs.lemmas.Bool.{ne_eqb}
use Rattle.std.proofs.Math.Nat.{mod-eq_of_lt}
use Rattle.std.proofs.Math.Pow.{pow_mono}
use Rattle.net_parts.specs.Growth.{fit_nets}

-- a number of fewer bits is not cut
pub fits_more : (n bits wanted : ℕ) → n < 2 ^ bits → bits ≤ wanted → n % 2 ^ wanted ≡ n
fits_more n bits wanted h le = mod-eq_of_lt (let more = pow_mono le in omega (arith, h, more))

-- zeros above a channel
pub widened : (high channel net width bits wanted : ℕ) → net ≡ high * 2 ^ width + channel → high ≡ 0 → width ≡ bits
    → channel < 2 ^ width → bits ≤ wanted → net ≡ channel % 2 ^ wanted
widened high channel net width bits wanted is none same h le =
    let low : 0 * 2 ^ width + channel ≡ channel = omega arith in
    is ∙ ap (λ z. z * 2 ^ width + channel) none ∙ low ∙ sym (fits_more channel width wanted h (omega (arith, same, le)))

-- the lowest bits of a number
pub cut_low : (n wanted : ℕ) → 1 ≤ wanted → n / 2 ^ 0 % 2 ^ (wanted - 1 - 0 + 1) ≡ n % 2 ^ wanted
cut_low n wanted h =
    let same : wanted - 1 - 0 + 1 ≡ wanted = omega arith in
    let whole : n / 2 ^ 0 ≡ n = omega arith in
    ap (λ k. n / 2 ^ 0 % 2 ^ k) same ∙ ap (λ m. m % 2 ^ wanted) whole

pub two_nets : (bits wanted : ℕ) → (bits ≡ wanted → ⊥) → 2 ≡ fit_nets bits wanted
two_nets bits wanted other = rw (ne_eqb bits wanted other) refl

-- fitting takes two nets at most
pub fits_in_two : (bits wanted : ℕ) → fit_nets bits wanted ≤ 2
fits_in_two bits wanted = by_test (bits == wanted)
  where
    by_test : (t : Bool) → (if t then 0 else 2) ≤ 2
    by_test true = omega arith
    by_test false = omega arith
