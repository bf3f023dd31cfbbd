-- Signals of one bit. No contract reads a proof of these.
use Rattle.std.proofs.Common.{◌≡◌, ℕ, zero, suc, ◌-◌, ◌^◌, ◌<◌, Bool, true, false, not, ◌&&◌, ◌||◌, ◌==◌, if◌then◌else◌, bit_and, bit_or, refl, subst, ap, ◌∙◌, arith}

-- a bit that isn't 0 is 1
pub bit_zero : (x : ℕ) → x < 2 → (x == 0) ≡ not (x == 1)
bit_zero zero h = refl
bit_zero (suc zero) h = refl
bit_zero (suc (suc x)) h = absurd (omega arith)

pub high_not : (x y : ℕ) → x < 2 → y ≡ 2 ^ 1 - 1 - x → (y == 1) ≡ not (x == 1)
high_not zero y h e = ap (λ k. k == 1) e
high_not (suc zero) y h e = ap (λ k. k == 1) e
high_not (suc (suc x)) y h e = absurd (omega arith)

pub high_or : (x y z : ℕ) → x < 2 → y < 2 → z ≡ bit_or x y → (z == 1) ≡ ((x == 1) || (y == 1))
high_or zero zero z h k e = ap (λ k. k == 1) e
high_or zero (suc zero) z h k e = ap (λ k. k == 1) e
high_or (suc zero) zero z h k e = ap (λ k. k == 1) e
high_or (suc zero) (suc zero) z h k e = ap (λ k. k == 1) e
high_or (suc (suc x)) y z h k e = absurd (omega arith)
high_or zero (suc (suc y)) z h k e = absurd (omega arith)
high_or (suc zero) (suc (suc y)) z h k e = absurd (omega arith)

pub high_and : (x y z : ℕ) → x < 2 → y < 2 → z ≡ bit_and x y → (z == 1) ≡ ((x == 1) && (y == 1))
high_and zero zero z h k e = ap (λ k. k == 1) e
high_and zero (suc zero) z h k e = ap (λ k. k == 1) e
high_and (suc zero) zero z h k e = ap (λ k. k == 1) e
high_and (suc zero) (suc zero) z h k e = ap (λ k. k == 1) e
high_and (suc (suc x)) y z h k e = absurd (omega arith)
high_and zero (suc (suc y)) z h k e = absurd (omega arith)
high_and (suc zero) (suc (suc y)) z h k e = absurd (omega arith)

-- a function of what is chosen
pub of_chosen : {X Y : Type 0} (f : X → Y) (t : Bool) (x y : X) → f (if t then x else y) ≡ (if t then f x else f y)
of_chosen f true x y = refl
of_chosen f false x y = refl

-- room for a beat, by an inverted bit
pub high_room : (w held empty ready room : ℕ) → w ≡ 1 → held < 2 → ready < 2 → empty ≡ 2 ^ w - 1 - held
    → room ≡ bit_or empty ready → (room == 1) ≡ (not (held == 1) || (ready == 1))
high_room w held empty ready room one h k e is =
    let inverted : empty ≡ 2 ^ 1 - 1 - held = subst (λ n. empty ≡ 2 ^ n - 1 - held) one e in
    let small : empty < 2 = omega (arith, inverted) in
    high_or empty ready room small k is ∙ ap (λ t. t || (ready == 1)) (high_not held empty h inverted)

-- a choice by a bit that isn't 0 is one by a bit that is high
pub chosen_high : {X : Type 0} (bit : ℕ) (x y : X) → bit < 2 → (if bit == 0 then y else x) ≡ (if bit == 1 then x else y)
chosen_high zero x y h = refl
chosen_high (suc zero) x y h = refl
chosen_high (suc (suc bit)) x y h = absurd (omega arith)

pub high_turned : (w x y : ℕ) → w ≡ 1 → x < 2 → y ≡ 2 ^ w - 1 - x → (y == 1) ≡ not (x == 1)
high_turned w x y one h e = high_not x y h (subst (λ n. y ≡ 2 ^ n - 1 - x) one e)
