-- Bits that are made of other bits, and what is none. No contract reads a proof of these.
use Rattle.std.proofs.Common.{◌≡◌, ℕ, zero, suc, ◌-◌, ◌^◌, ◌<◌, ◌≤◌, not, ◌&&◌, ◌||◌, if◌then◌else◌, ◌==◌, bit_and, bit_or, bit_xor, nat_eq, nat_lt, true, false, refl, sym, subst, ap, ◌∙◌, arith}
use Rattle.std.proofs.Math.Pow.{pow_mono}
use Rattle.std.proofs.lemmas.Bool.{lt-ltb, ne_eqb}
use Rattle.histories.specs.History.{is_raised, one_if}

pub level_and : (x y z : ℕ) → x < 2 → y < 2 → z ≡ bit_and x y → z ≡ (if is_raised x then y else 0)
level_and zero zero z h k e = e
level_and zero (suc zero) z h k e = e
level_and (suc zero) zero z h k e = e
level_and (suc zero) (suc zero) z h k e = e
level_and (suc (suc x)) y z h k e = absurd (omega arith)
level_and zero (suc (suc y)) z h k e = absurd (omega arith)
level_and (suc zero) (suc (suc y)) z h k e = absurd (omega arith)

pub raised_and : (x y z : ℕ) → x < 2 → y < 2 → z ≡ bit_and x y → is_raised z ≡ (is_raised x && is_raised y)
raised_and zero zero z h k e = ap is_raised e
raised_and zero (suc zero) z h k e = ap is_raised e
raised_and (suc zero) zero z h k e = ap is_raised e
raised_and (suc zero) (suc zero) z h k e = ap is_raised e
raised_and (suc (suc x)) y z h k e = absurd (omega arith)
raised_and zero (suc (suc y)) z h k e = absurd (omega arith)
raised_and (suc zero) (suc (suc y)) z h k e = absurd (omega arith)

pub raised_or : (x y z : ℕ) → x < 2 → y < 2 → z ≡ bit_or x y → is_raised z ≡ (is_raised x || is_raised y)
raised_or zero zero z h k e = ap is_raised e
raised_or zero (suc zero) z h k e = ap is_raised e
raised_or (suc zero) zero z h k e = ap is_raised e
raised_or (suc zero) (suc zero) z h k e = ap is_raised e
raised_or (suc (suc x)) y z h k e = absurd (omega arith)
raised_or zero (suc (suc y)) z h k e = absurd (omega arith)
raised_or (suc zero) (suc (suc y)) z h k e = absurd (omega arith)

pub raised_xor : (x y z : ℕ) → x < 2 → y < 2 → z ≡ bit_xor x y
    → is_raised z ≡ (if is_raised x then not (is_raised y) else is_raised y)
raised_xor zero zero z h k e = ap is_raised e
raised_xor zero (suc zero) z h k e = ap is_raised e
raised_xor (suc zero) zero z h k e = ap is_raised e
raised_xor (suc zero) (suc zero) z h k e = ap is_raised e
raised_xor (suc (suc x)) y z h k e = absurd (omega arith)
raised_xor zero (suc (suc y)) z h k e = absurd (omega arith)
raised_xor (suc zero) (suc (suc y)) z h k e = absurd (omega arith)

raised_turned : (x y : ℕ) → x < 2 → y ≡ 2 ^ 1 - 1 - x → is_raised y ≡ not (is_raised x)
raised_turned zero y h e = ap is_raised e
raised_turned (suc zero) y h e = ap is_raised e
raised_turned (suc (suc x)) y h e = absurd (omega arith)

pub raised_not : (w x y : ℕ) → w ≡ 1 → x < 2 → y ≡ 2 ^ w - 1 - x → is_raised y ≡ not (is_raised x)
raised_not w x y one h e = raised_turned x y h (subst (λ n. y ≡ 2 ^ n - 1 - x) one e)

pub none_is : (n : ℕ) → not (nat_lt 0 n) ≡ nat_eq n 0
none_is zero = refl
none_is (suc n) =
    let high : nat_lt 0 (suc n) ≡ true = lt-ltb 0 (suc n) (omega arith) in
    let some : nat_eq (suc n) 0 ≡ false = ne_eqb (suc n) 0 (omega arith) in rw (high, some) refl

pub level_is : (x : ℕ) → x < 2 → x ≡ one_if (is_raised x)
level_is zero h = refl
level_is (suc zero) h = refl
level_is (suc (suc x)) h = absurd (omega arith)

pub is_some : (u : ℕ) → ◌≡◌ {A = ℕ} (if suc u == 0 then 0 else 1) 1
is_some u = rw (ne_eqb (suc u) 0 (λ e. absurd (omega (arith, e)))) refl

pub one_fits : (k : ℕ) → 1 ≤ k → 1 < 2 ^ k
one_fits k some = let two : 2 ^ 1 ≤ 2 ^ k = pow_mono some in omega (arith, two)

pub bit_same : (x y : ℕ) → x < 2 → y < 2 → is_raised x ≡ is_raised y → x ≡ y
bit_same x y h k e = level_is x h ∙ ap one_if e ∙ sym (level_is y k)
