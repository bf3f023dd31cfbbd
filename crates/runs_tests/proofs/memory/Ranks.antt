-- A wire has no rank of at most 2 while a joined command is waited for.
use Rattle.std.proofs.Common.{ℕ, arith, refl, suc, ◌<◌, ◌≤◌}
use Rattle.runs_tests.specs.Laxer.{FallsLax}
use Rattle.runs_tests.specs.MoreExamples.{byte_target, joined_side}

-- a rank of at most 2 doesn't fall three times
pub never_three : (rank : ℕ → ℕ) (c : ℕ) → rank c ≤ 2 → rank (suc c) < rank c → rank (suc (suc c)) < rank (suc c) → rank (suc (suc (suc c))) < rank (suc (suc c)) → ⊥
never_three rank c most one two three = omega (arith, most, one, two, three)

pub no_rank : (rank : ℕ → ℕ) → FallsLax byte_target joined_side joined_side rank 2 5 → ⊥
no_rank rank f = never_three rank 1 (f.bounded 1 (omega arith)) (f.falls 1 (omega arith) refl refl refl) (f.falls 2 (omega arith) refl refl refl) (f.falls 3 (omega arith) refl refl refl)
