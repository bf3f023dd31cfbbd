-- The width of a count of bursts.
use Rattle.std.proofs.Common.{◌≡◌, ℕ, ◌≤◌, Bool, true, false, if◌then◌else◌, nat_eq, refl, arith}
use Rattle.std.proofs.lemmas.Bool.{eqb-false}
use Rattle.memory_runs.specs.Sides.{burst_width}

pub some_width : (bits : ℕ) → 1 ≤ burst_width bits
some_width bits = by (nat_eq bits 0) refl
  where
    by : (b : Bool) → nat_eq bits 0 ≡ b → 1 ≤ (if b then 1 else bits)
    by true e = omega arith
    by false e = let other = eqb-false bits 0 e in omega (arith, other)

pub few_bits : (bits : ℕ) → bits ≤ 11 → burst_width bits ≤ 11
few_bits bits few = by (nat_eq bits 0)
  where
    by : (b : Bool) → (if b then 1 else bits) ≤ 11
    by true = omega arith
    by false = few

-- where bursts may not go on there are single beats
pub width_or_one : (b : Bool) (bits : ℕ) → 1 ≤ (if b then burst_width bits else 1)
width_or_one true bits = some_width bits
width_or_one false bits = omega arith
