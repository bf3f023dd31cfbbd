-- All numbers pass a test, or one is the first that doesn't.
use Rattle.std.proofs.Common.{◌≡◌, ℕ, ◌+◌, ◌<◌, ◌≤◌, zero, suc, List, [], ◌∷◌, Bool, true, false, IsTrue, length, slice_index_or, refl, subst, arith, ◌⊎◌, inl, inr}
use Rattle.std.proofs.lemmas.Bool.{cases_lt}
use Rattle.link_rules.specs.Pairs.{fails, KeepsAll, IsLeastFailing}

-- this number is one of Q, and all before it are of P
pub record First (P Q : ℕ → Type 0) : Type 0 where
  pub number : ℕ
  pub is : Q number
  pub before : (k : ℕ) → k < number → P k

one_more : (P : ℕ → Type 0) (n : ℕ) → ((k : ℕ) → k < n → P k) → P n → (k : ℕ) → k < suc n → P k
one_more P n all is k less = elim (cases_lt k n) [ inl below ↦ all k below | inr above ↦ let same : n ≡ k = omega arith in subst P same is ]

step : (P Q : ℕ → Type 0) (n : ℕ) → P n ⊎ Q n → ((k : ℕ) → k < n → P k) ⊎ First P Q → ((k : ℕ) → k < suc n → P k) ⊎ First P Q
step P Q n (inl p) (inl all) = inl (one_more P n all p)
step P Q n (inr q) (inl all) = inr (record { number = n; is = q; before = all })
step P Q n (inl p) (inr found) = inr found
step P Q n (inr q) (inr found) = inr found

first_below : (P Q : ℕ → Type 0) → ((k : ℕ) → P k ⊎ Q k) → (n : ℕ) → ((k : ℕ) → k < n → P k) ⊎ First P Q
first_below P Q test zero = inl (λ k less. absurd (omega arith))
first_below P Q test (suc n) = step P Q n (test n) (first_below P Q test n)

-- where all numbers from n on pass
pub all_or_first : (P Q : ℕ → Type 0) → ((k : ℕ) → P k ⊎ Q k) → (n : ℕ) → ((k : ℕ) → n ≤ k → P k) → ((k : ℕ) → P k) ⊎ First P Q
all_or_first P Q test n past =
    elim (first_below P Q test n) [ inl below ↦ inl (λ k. elim (cases_lt k n) [ inl less ↦ below k less | inr above ↦ past k above ]) | inr found ↦ inr found ]

-- a test is false or true
pub either : (b : Bool) → (b ≡ false) ⊎ IsTrue b
either false = inl refl
either true = inr refl

pub past_end : {X : Type 0} (xs : List X) (k : ℕ) (d : X) → length xs ≤ k → slice_index_or xs k d ≡ d
past_end [] k d h = refl
past_end (x ∷ xs) zero d h = absurd (omega arith)
past_end (x ∷ xs) (suc k) d h = past_end xs k d (omega arith)

fails_past : (tests : List Bool) (k : ℕ) → length tests + 1 ≤ k → fails tests k ≡ false
fails_past tests zero h = refl
fails_past tests (suc k) h = past_end tests k false (omega arith)

-- no test is true, or one is the first that is
pub kept_or_failing : (tests : List Bool) → KeepsAll tests ⊎ ((rule : ℕ) × IsLeastFailing tests rule)
kept_or_failing tests =
    elim (all_or_first (λ k. fails tests k ≡ false) (λ k. IsTrue (fails tests k)) (λ k. either (fails tests k)) (length tests + 1) (fails_past tests))
    [ inl all ↦ inl all | inr found ↦ inr (found.number, record { broken = found.is; least = found.before }) ]
