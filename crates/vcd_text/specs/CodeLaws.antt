-- Codes of ports and binary digits, step by step. No contract reads a proof of theirs; the crates above cite them.
use Rattle.std.proofs.Common.{◌≡◌, ◌≢◌, ℕ, zero, suc, ◌+◌, ◌-◌, ◌*◌, ◌/◌, ◌%◌, ◌^◌, ◌<◌, ◌≤◌, Bool, true, false, cond, List, [], ◌∷◌, ◌++◌, length, length-append, decimal, refl, sym, ap, ◌∙◌, arith}
use Rattle.std.specs.Prelude.{nat_lt}
use Rattle.std.proofs.lemmas.Bool.{lt-ltb, le-ltb, ne_eqb, cases_lt}
use Rattle.std.proofs.lemmas.Fmt.{decimal_step}
use Rattle.std.proofs.Common.{inl, inr}
use Rattle.vcd_text.specs.Text.{code, code_in, binary_digits}

code_by : (more k : ℕ) (t : Bool) → nat_lt k 94 ≡ t
    → code_in (suc more) k ≡ (33 + k % 94) ∷ elim t [ true ↦ [] | false ↦ code_in more (k / 94 - 1) ]
code_by more k t e = ap (λ (b : Bool). (33 + k % 94) ∷ elim b [ true ↦ [] | false ↦ code_in more (k / 94 - 1) ]) e

-- no byte is left out where so many are let in
same_code : (one other k : ℕ) → k < one → k < other → code_in one k ≡ code_in other k
same_code zero other k h g = absurd (omega arith)
same_code (suc one) zero k h g = absurd (omega arith)
same_code (suc one) (suc other) k h g =
    elim (cases_lt k 94) [
      | inl low ↦ code_by one k true (lt-ltb k 94 low) ∙ sym (code_by other k true (lt-ltb k 94 low))
      | inr high ↦
          code_by one k false (le-ltb k 94 high)
          ∙ ap (λ (bs : List ℕ). (33 + k % 94) ∷ bs) (same_code one other (k / 94 - 1) (omega arith) (omega arith))
          ∙ sym (code_by other k false (le-ltb k 94 high))
    ]

pub code_low : (k : ℕ) → k < 94 → code k ≡ (33 + k % 94) ∷ []
unfolding code
code_low k h = code_by k k true (lt-ltb k 94 h)

pub code_high : (k : ℕ) → 94 ≤ k → code k ≡ (33 + k % 94) ∷ code (k / 94 - 1)
unfolding code
code_high k h =
    code_by k k false (le-ltb k 94 h)
    ∙ ap (λ (bs : List ℕ). (33 + k % 94) ∷ bs) (same_code k (suc (k / 94 - 1)) (k / 94 - 1) (omega arith) (omega arith))

longer : (k n : ℕ) → 94 ≤ k → length (code (k / 94 - 1)) ≤ n → length (code k) ≤ n + 1
longer k n high h = omega (arith, ap length (code_high k high), h)

short_1 : (k : ℕ) → k < 94 → length (code k) ≤ 1
short_1 k h = omega (arith, ap length (code_low k h))

short_by : (k n bound : ℕ) → ((j : ℕ) → j < bound → length (code j) ≤ n) → 1 ≤ n → k < 94 * (bound + 1) → length (code k) ≤ n + 1
short_by k n bound below some h =
    elim (cases_lt k 94) [
      | inl low ↦ omega (arith, short_1 k low)
      | inr high ↦ longer k n high (below (k / 94 - 1) (omega arith))
    ]

short_2 : (k : ℕ) → k < 8930 → length (code k) ≤ 2
short_2 k h = short_by k 1 94 short_1 (omega arith) (omega arith)

short_3 : (k : ℕ) → k < 839514 → length (code k) ≤ 3
short_3 k h = short_by k 2 8930 short_2 (omega arith) (omega arith)

short_4 : (k : ℕ) → k < 78914410 → length (code k) ≤ 4
short_4 k h = short_by k 3 839514 short_3 (omega arith) (omega arith)

pub code_short : (k : ℕ) → k < 2 ^ 32 → length (code k) ≤ 5
code_short k h = short_by k 4 78914410 short_4 (omega arith) (omega arith)

pub code_some : (k : ℕ) → 1 ≤ length (code k)
code_some k =
    elim (cases_lt k 94)
    [ inl low ↦ omega (arith, ap length (code_low k low)) | inr high ↦ omega (arith, ap length (code_high k high)) ]

pub more_digits : (n : ℕ) → 10 ≤ n → n < 2 ^ 64 → length (decimal n) ≡ length (decimal (n / 10)) + 1
more_digits n h k = ap length (decimal_step n h k) ∙ length-append (decimal (n / 10)) _

pub digits_none : (count : ℕ) → binary_digits count 0 ≡ []
digits_none zero = refl
digits_none (suc count) = refl

pub digits_step : (count n : ℕ) → count ≢ 0 → n ≢ 0
    → binary_digits count n ≡ binary_digits (count - 1) (n / 2) ++ (48 + n % 2) ∷ []
digits_step zero n some more = absurd (some refl)
digits_step (suc count) n some more =
    let e : suc count - 1 ≡ count = omega arith in
    ap (λ (t : Bool). cond t [] (binary_digits count (n / 2) ++ (48 + n % 2) ∷ [])) (ne_eqb n 0 more)
    ∙ ap (λ (c : ℕ). binary_digits c (n / 2) ++ (48 + n % 2) ∷ []) (sym e)
