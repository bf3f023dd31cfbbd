-- Counts, pointers and bits.
use Rattle.std.proofs.Common.{◌≡◌, ℕ, zero, suc, ◌+◌, ◌-◌, ◌%◌, ◌^◌, ◌<◌, ◌≤◌, Bool, true, false, if◌then◌else◌, ◌==◌, nat_lt, bit_or, refl, ap, ◌∙◌, arith}
use Rattle.std.proofs.Math.Nat.{mod-eq_of_lt, add-mod_right}
use Rattle.std.proofs.Math.Pow.{pow_mono}
use Rattle.std.proofs.lemmas.Bool.{ltb-true, ltb-false}
use Rattle.histories.specs.History.{one_if}
use Rattle.item_queues.specs.Steps.{IsNextCount}

less_by : (s f limit : ℕ) → f ≤ s → s < limit → (s + (limit - f)) % limit ≡ s - f
less_by s f limit le lt = let e : s + (limit - f) ≡ (s - f) + limit = omega arith in ap (λ k. k % limit) e ∙ add-mod_right (s - f) limit ∙ mod-eq_of_lt (omega arith)

one_high : (x : ℕ) → x < 2 → x ≡ one_if (x == 1)
one_high zero h = refl
one_high (suc zero) h = refl
one_high (suc (suc x)) h = absurd (omega arith)

-- a bit in more bits
fitted : (w t more : ℕ) → 1 ≤ w → t < 2 → more ≡ t % 2 ^ w → more ≡ one_if (t == 1)
fitted w t more some h e = let two : 2 ^ 1 ≤ 2 ^ w = pow_mono some in e ∙ mod-eq_of_lt (omega (arith, two)) ∙ one_high t h

-- no carry is lost where the sum fits
pub next_counted : (w u t g more fewer sum next : ℕ) → 1 ≤ w → t < 2 → g < 2 → more ≡ t % 2 ^ w → fewer ≡ g % 2 ^ w → sum ≡ (u + more) % 2 ^ w → next ≡ (sum + (2 ^ w - fewer)) % 2 ^ w → IsNextCount w u t g next
next_counted w u t g more fewer sum next some ht hg e1 e2 e3 e4 few within =
    let more_is = fitted w t more some ht e1 in
    let fewer_is = fitted w g fewer some hg e2 in
    let sum_is : sum ≡ u + one_if (t == 1) = e3 ∙ ap (λ k. (u + k) % 2 ^ w) more_is ∙ mod-eq_of_lt few in
    e4 ∙ ap (λ k. (k + (2 ^ w - fewer)) % 2 ^ w) sum_is ∙ ap (λ k. ((u + one_if (t == 1)) + (2 ^ w - k)) % 2 ^ w) fewer_is ∙ less_by (u + one_if (t == 1)) (one_if (g == 1)) (2 ^ w) within few

pub moved : (w p m step next : ℕ) → 1 ≤ w → m < 2 → step ≡ m % 2 ^ w → next ≡ (p + step) % 2 ^ w → next ≡ (p + one_if (m == 1)) % 2 ^ w
moved w p m step next some h e f = f ∙ ap (λ k. (p + k) % 2 ^ w) (fitted w m step some h e)

pub high_if : (t : Bool) (x : ℕ) → x ≡ (if t then 1 else 0) → (x == 1) ≡ t
high_if true x e = ap (λ k. k == 1) e
high_if false x e = ap (λ k. k == 1) e

-- fewer address bits than these reach too few words
pub least_bits : (words bits fewer largest : ℕ) → words ≤ 2 ^ bits → 2 ^ fewer ≡ largest → largest < words → suc fewer ≤ bits
least_bits words bits fewer largest fits is more = by_case (nat_lt fewer bits) refl
  where
    by_case : (t : Bool) → nat_lt fewer bits ≡ t → suc fewer ≤ bits
    by_case true e = (let lt = ltb-true fewer bits e in omega (arith, lt))
    by_case false e = absurd (let le = ltb-false fewer bits e in let low : 2 ^ bits ≤ 2 ^ fewer = pow_mono le in omega (arith, low, fits, is, more))

-- ---- what a queue shows

-- the bit that something is shown
pub shown_full : (some full shown count : ℕ) → some ≡ (if count == 0 then 0 else 1) → full < 2 → shown ≡ bit_or some full → shown ≡ (if count == 0 then full else 1)
shown_full some full shown count e h f = by_case (count == 0) full h (f ∙ ap (λ k. bit_or k full) e)
  where
    by_case : (t : Bool) (full : ℕ) → full < 2 → shown ≡ bit_or (if t then 0 else 1) full → shown ≡ (if t then full else 1)
    by_case true zero h e = e
    by_case true (suc zero) h e = e
    by_case false zero h e = e
    by_case false (suc zero) h e = e
    by_case t (suc (suc x)) h e = absurd (omega arith)
