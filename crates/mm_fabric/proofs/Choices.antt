-- One value for each number below a bound.
use Rattle.std.proofs.Common.{◌⊎◌, inl, inr, ℕ, ◌<◌, ◌≤◌, arith}
use Rattle.std.proofs.lemmas.Bool.{cases_lt}

abbrev pub pick : {X : Type 0} (P : ℕ → X → Type 0) (n : ℕ) → X → ((k : ℕ) → k < n → (x : X) × P k x) → (k : ℕ) → (k < n) ⊎ (n ≤ k) → X
pick P n other each k (inl low) = (each k low).0
pick P n other each k (inr high) = other

-- whatever each number has, one function has it at all of them
pub choose : {X : Type 0} (P : ℕ → X → Type 0) (n : ℕ) → X → ((k : ℕ) → k < n → (x : X) × P k x) → (f : ℕ → X) × ((k : ℕ) → k < n → P k (f k))
choose {X} P n other each = ((λ k. pick P n other each k (cases_lt k n)), (λ k low. by k low (cases_lt k n)))
  where
    by : (k : ℕ) → k < n → (s : (k < n) ⊎ (n ≤ k)) → P k (pick P n other each k s)
    by k low (inl below) = (each k below).1
    by k low (inr above) = absurd (omega (arith, low, above))
