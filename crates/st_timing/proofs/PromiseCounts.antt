-- Sums of bits, and counts of free places.
use Rattle.std.proofs.Common.{◌≡◌, ℕ, zero, suc, ◌+◌, ◌-◌, ◌%◌, ◌^◌, ◌<◌, ◌≤◌, Bool, true, false, not, ◌&&◌, ◌==◌, nat_lt, if◌then◌else◌, pow_mono, refl, sym, ap, ◌∙◌, arith}
use Rattle.std.proofs.Math.Nat.{mod-eq_of_lt, add-mod_right}
use Rattle.std.proofs.Math.Dec.{eqb-suc-zero}
use Rattle.std.proofs.lemmas.Bool.{lt-ltb, ltb-true}
use Rattle.histories.specs.History.{one_if}
use Rattle.st_timing.specs.PromiseNets.{IsNextFree}

one_high : (x : ℕ) → x < 2 → x ≡ one_if (x == 1)
one_high zero h = refl
one_high (suc zero) h = refl
one_high (suc (suc x)) h = absurd (omega arith)

-- a bit in more bits
fitted : (w t step : ℕ) → 1 ≤ w → t < 2 → step ≡ t % 2 ^ w → step ≡ one_if (t == 1)
fitted w t step some h e = let two : 2 ^ 1 ≤ 2 ^ w = pow_mono some in e ∙ mod-eq_of_lt (omega (arith, two)) ∙ one_high t h

pub more_counted : (w count t step more : ℕ) → 1 ≤ w → t < 2 → step ≡ t % 2 ^ w → more ≡ (count + step) % 2 ^ w → count + one_if (t == 1) < 2 ^ w → more ≡ count + one_if (t == 1)
more_counted w count t step more some h e is few = is ∙ ap (λ k. (count + k) % 2 ^ w) (fitted w t step some h e) ∙ mod-eq_of_lt few

less_by : (s f limit : ℕ) → f ≤ s → s < limit → (s + (limit - f)) % limit ≡ s - f
less_by s f limit le lt = let e : s + (limit - f) ≡ (s - f) + limit = omega arith in ap (λ k. k % limit) e ∙ add-mod_right (s - f) limit ∙ mod-eq_of_lt (omega arith)

pub fewer_counted : (w count t step fewer : ℕ) → 1 ≤ w → t < 2 → count < 2 ^ w → step ≡ t % 2 ^ w → fewer ≡ (count + (2 ^ w - step)) % 2 ^ w → one_if (t == 1) ≤ count → fewer ≡ count - one_if (t == 1)
fewer_counted w count t step fewer some h fits e is within = is ∙ ap (λ k. (count + (2 ^ w - k)) % 2 ^ w) (fitted w t step some h e) ∙ less_by count (one_if (t == 1)) (2 ^ w) within fits

-- the three steps of the count
pub free_counted : (bits free left again next : ℕ) (promised unused goes : Bool) → (one_if promised ≤ free → left ≡ free - one_if promised) → (left + one_if unused < 2 ^ bits → again ≡ left + one_if unused) → (again + one_if goes < 2 ^ bits → next ≡ again + one_if goes) → IsNextFree bits free promised unused goes next
free_counted bits free left again next promised unused goes one two three within fits =
    let left_is = one within in
    let again_is = two (omega (arith, left_is, fits)) in
    let next_is = three (omega (arith, left_is, again_is, fits)) in
    omega (arith, left_is, again_is, next_is)

-- some bit of a net is high where the net isn't 0
pub high_above : (free ready : ℕ) → ready ≡ (if free == 0 then 0 else 1) → (ready == 1) ≡ nat_lt 0 free
high_above zero ready e = ap (λ n. n == 1) e
high_above (suc free) ready e = ap (λ n. n == 1) (e ∙ ap (λ t. if t then 0 else 1) (eqb-suc-zero free)) ∙ sym (lt-ltb 0 (suc free) (omega arith))

-- ---- free places, held beats and promises

one_at_most : (t : Bool) → one_if t ≤ 1
one_at_most true = omega arith
one_at_most false = omega arith

-- a place is promised only where one is free
one_free : (t : Bool) (free : ℕ) → t ≡ nat_lt 0 free → one_if t ≤ free
one_free true free e = let some = ltb-true 0 free (sym e) in omega (arith, some)
one_free false free e = omega arith

-- a beat comes only of a promise; one that isn't used is free again
one_unused : (due comes : Bool) → (comes ≡ true → due ≡ true) → one_if (due && not comes) + one_if comes ≡ one_if due
one_unused true true h = omega arith
one_unused true false h = omega arith
one_unused false false h = omega arith
one_unused false true h = let high = h refl in cc

-- each place is free, taken or promised, from cycle to cycle
pub places_kept : (bits free count owed free' count' owed' places : ℕ) (promised due comes goes : Bool) → free + count + owed ≡ places → places < 2 ^ bits → promised ≡ nat_lt 0 free → (comes ≡ true → due ≡ true) → one_if goes ≤ count + one_if comes
    → owed' + one_if due ≡ owed + one_if promised → count' ≡ count + one_if comes - one_if goes → IsNextFree bits free promised (due && not comes) goes free' → free' + count' + owed' ≡ places
places_kept bits free count owed free' count' owed' places promised due comes goes sum few asks legal within owes counts next =
    let left = one_free promised free asks in
    let again = one_unused due comes legal in
    let is = next left (omega (arith, sum, few, left, again, within, owes, counts)) in
    omega (arith, sum, left, again, within, owes, counts, is)

-- a bit turned round is a bit
pub turned_bit : (w x y : ℕ) → w ≡ 1 → y ≡ 2 ^ w - 1 - x → y < 2
turned_bit w x y one e = let two : 2 ^ w ≡ 2 ^ 1 = ap (λ k. 2 ^ k) one in omega (arith, e, two)
