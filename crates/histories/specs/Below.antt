-- What holds of each number below a numeral.
use Rattle.std.specs.Prelude.{ℕ, zero, suc, ◌<◌, ◌≤◌}
use Rattle.std.proofs.Common.{sym, subst, inl, inr}
use Rattle.std.proofs.Math.Nat.{eq-or-lt_of_le, le_of_suc-le-suc, not-suc-le-zero, suc-le-suc_iff}

-- P holds of 0 to n - 1, one by one
abbrev pub OfEach : (ℕ → Type 0) → ℕ → Type 0
OfEach P zero = Unit {0}
OfEach P (suc n) = OfEach P n × P n

pub each_below : (P : ℕ → Type 0) (n c : ℕ) → OfEach P n → c < n → P c
each_below P zero c each below = absurd (not-suc-le-zero below)
each_below P (suc n) c each below =
    elim (eq-or-lt_of_le (le_of_suc-le-suc below)) [
      | inl same ↦ subst P (sym same) each.1
      | inr less ↦ each_below P n c each.0 less
    ]

-- P holds of each cycle up to `last` and each host below `hosts`
pub each_cycle_host : (P : ℕ → ℕ → Type 0) (last hosts c host : ℕ) → OfEach (λ c. OfEach (P c) hosts) (suc last) → c ≤ last
    → host < hosts → P c host
each_cycle_host P last hosts c host each below in_range =
    each_below (P c) hosts host (each_below (λ c. OfEach (P c) hosts) (suc last) c each (suc-le-suc_iff.1 below)) in_range
