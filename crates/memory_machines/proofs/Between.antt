-- Word sizes in between: the pieces of the pieces are no more than the pieces.
use Rattle.std.proofs.Common.{ℕ, ◌<◌, ◌≤◌, ◌≡◌, ◌*◌, ◌/◌, arith, sym, ap, ◌∙◌, min, mul-le-mul_left, mul_assoc, mul_comm, div-mul-le_self, le-div_iff_mul-le, one-mul, mul-div_cancel}
use Rattle.memory_runs.specs.Views.{Shape}
use Rattle.memory_runs.specs.Operations.{pieces}

-- the word size in the middle lies between the two others
pub data IsBetween : ℕ → ℕ → ℕ → Type 0 where
  falling : {up middle down : ℕ} → 0 < down → down ≤ middle → middle ≤ up → IsBetween up middle down
  rising : {up middle down : ℕ} → 0 < up → up ≤ middle → middle ≤ down → IsBetween up middle down

quotients : (u m d : ℕ) → 0 < d → d ≤ m → (m / d) * (u / m) ≤ u / d
quotients u m d positive h =
    let inner : (m / d) * d ≤ m = div-mul-le_self m d in
    let outer : (u / m) * m ≤ u = div-mul-le_self u m in
    let step : (u / m) * ((m / d) * d) ≤ (u / m) * m = mul-le-mul_left (u / m) inner in
    let same : ((m / d) * (u / m)) * d ≡ (u / m) * ((m / d) * d) = ap (λ x. x * d) (mul_comm (m / d) (u / m)) ∙ mul_assoc (u / m) (m / d) d in
    (le-div_iff_mul-le positive).1 (omega (arith, same, step, outer))

pub pieces_between : (up middle down : Shape) → IsBetween up.word_bytes middle.word_bytes down.word_bytes →
    pieces middle down * pieces up middle ≤ pieces up down
pieces_between up middle down between = by_sizes up.word_bytes middle.word_bytes down.word_bytes between
  where
    by_sizes : (u m d : ℕ) → IsBetween u m d → (m / min m d) * (u / min u m) ≤ u / min u d
    by_sizes u m d (falling positive low high) =
        let a : min m d ≡ d = omega arith in
        let b : min u m ≡ m = omega arith in
        let c : min u d ≡ d = omega arith in
        rw (a, b, c) (quotients u m d positive low)
    by_sizes u m d (rising positive low high) =
        let a : min m d ≡ m = omega arith in
        let b : min u m ≡ u = omega arith in
        let c : min u d ≡ u = omega arith in
        let one : (n : ℕ) → 0 < n → n / n ≡ 1 = λ n h. ap (λ k. k / n) (sym (one-mul n)) ∙ mul-div_cancel 1 h in
        rw (a, b, c) (rw (one m (omega arith), one u positive) (omega arith))
