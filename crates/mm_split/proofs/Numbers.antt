-- The numbers of a splitter, from its words.
use Rattle.std.proofs.Common.{ℕ, suc, ◌<◌, ◌≤◌, ◌≡◌, ◌+◌, ◌-◌, ◌*◌, ◌/◌, ◌^◌, Bool, true, false, nat_lt, arith, refl, sym, ap, ap₂, ◌∙◌}
use Rattle.std.proofs.lemmas.Bool.{ltb-true, ltb-false}
use Rattle.std.proofs.lemmas.Nat.{pow-add, pow_pos, shl-shr}
use Rattle.std.proofs.Math.Pow.{pow_mono}
use Rattle.std.proofs.Math.Nat.{pow-suc}

power_less : (i j : ℕ) → 2 ^ j < 2 ^ i → j < i
power_less i j h = by_less (nat_lt j i) refl
  where
    by_less : (b : Bool) → nat_lt j i ≡ b → j < i
    by_less true e = ltb-true j i e
    by_less false e = absurd (let more = pow_mono (ltb-false j i e) in omega (arith, h, more))

pub less_bits : (wide narrow i j : ℕ) → wide ≡ 2 ^ i → narrow ≡ 2 ^ j → narrow < wide → j < i
less_bits wide narrow i j w n h = power_less i j (omega (arith, w, n, h))

pub pieces_are : (wide narrow i j : ℕ) → wide ≡ 2 ^ i → narrow ≡ 2 ^ j → narrow < wide → wide / narrow ≡ 2 ^ (i - j)
pieces_are wide narrow i j w n h =
    let less = less_bits wide narrow i j w n h in
    let sum : i - j + j ≡ i = omega (arith, less) in
    ap₂ (λ x y. x / y) (w ∙ ap (λ k. 2 ^ k) (sym sum) ∙ pow-add 2 (i - j) j) n ∙ shl-shr (2 ^ (i - j)) j

pub pieces_whole : (wide narrow i j : ℕ) → wide ≡ 2 ^ i → narrow ≡ 2 ^ j → narrow < wide → wide / narrow * narrow ≡ 2 ^ i
pieces_whole wide narrow i j w n h =
    let less = less_bits wide narrow i j w n h in
    let sum : i - j + j ≡ i = omega (arith, less) in
    ap₂ (λ x y. x * y) (pieces_are wide narrow i j w n h) n ∙ sym (pow-add 2 (i - j) j) ∙ ap (λ k. 2 ^ k) sum

pub power_most : (i : ℕ) → i ≤ 4 → 2 ^ i ≤ 16
power_most i h = let most : 2 ^ i ≤ 2 ^ 4 = pow_mono h in omega (arith, most)

pub power_least : (i : ℕ) → 1 ≤ i → 2 ≤ 2 ^ i
power_least i h = let least : 2 ^ 1 ≤ 2 ^ i = pow_mono h in omega (arith, least)

pub power_some : (i : ℕ) → 1 ≤ 2 ^ i
power_some i = let some = pow_pos i in omega (arith, some)

pub power_within : (i j : ℕ) → 2 ^ i ≤ 2 ^ j → i ≤ j
power_within i j h = by_less (nat_lt j i) refl
  where
    by_less : (b : Bool) → nat_lt j i ≡ b → i ≤ j
    by_less true e = absurd (let less = ltb-true j i e in let more : 2 ^ suc j ≤ 2 ^ i = pow_mono (omega (arith, less)) in let double = pow-suc 2 j in let some = pow_pos j in omega (arith, h, more, double, some))
    by_less false e = ltb-false j i e
