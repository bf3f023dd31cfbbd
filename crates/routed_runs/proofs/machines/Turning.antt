-- Turns, and how many of the inputs pass a test that one of them alone can pass.
use Rattle.std.specs.Prelude.{ℕ, zero, suc, ◌+◌, ◌-◌, ◌≤◌, ◌<◌, ◌≡◌, Bool, true, false, ◌⊎◌, nat_lt, [], ◌∷◌, filter, length}
use Rattle.std.proofs.Common.{refl, ap, ◌∙◌, inl, inr, arith}
use Rattle.std.proofs.lemmas.Bool.{cases_Bool, cases_lt, cond-true, cond-false, lt-ltb, le-ltb}
use Rattle.histories.specs.History.{numbers}
use Rattle.routed_runs.specs.Multiplexing.{turns_to}

ahead : (inputs holder i : ℕ) → holder < i → turns_to inputs holder i ≡ i - holder
ahead inputs holder i h = cond-true (nat_lt holder i) _ _ (lt-ltb holder i h)

behind : (inputs holder i : ℕ) → i ≤ holder → turns_to inputs holder i ≡ inputs + i - holder
behind inputs holder i h = cond-false (nat_lt holder i) _ _ (le-ltb holder i h)

-- no more turns than there are inputs, and at least one
pub turns_most : (inputs holder i : ℕ) → holder < inputs → i < inputs → turns_to inputs holder i ≤ inputs
turns_most inputs holder i h j = by_order (cases_lt holder i)
  where
    by_order : (holder < i) ⊎ (i ≤ holder) → turns_to inputs holder i ≤ inputs
    by_order (inl less) = let e = ahead inputs holder i less in omega (arith, e, j)
    by_order (inr more) = let e = behind inputs holder i more in omega (arith, e, h, more)

pub turns_some : (inputs holder i : ℕ) → holder < inputs → i < inputs → 1 ≤ turns_to inputs holder i
turns_some inputs holder i h j = by_order (cases_lt holder i)
  where
    by_order : (holder < i) ⊎ (i ≤ holder) → 1 ≤ turns_to inputs holder i
    by_order (inl less) = let e = ahead inputs holder i less in omega (arith, e, less)
    by_order (inr more) = let e = behind inputs holder i more in omega (arith, e, h, more)

-- from the holder to another one fewer
pub turns_fewer : (inputs holder i : ℕ) → holder < inputs → i < inputs → (holder ≡ i → ⊥) → turns_to inputs holder i + 1 ≤ inputs
turns_fewer inputs holder i h j apart = by_order (cases_lt holder i)
  where
    by_order : (holder < i) ⊎ (i ≤ holder) → turns_to inputs holder i + 1 ≤ inputs
    by_order (inl less) = let e = ahead inputs holder i less in omega (arith, e, j)
    by_order (inr more) = let e = behind inputs holder i more in let less : i < holder = omega (arith, more, apart) in omega (arith, e, h, less)

-- from one that comes no later fewer are left
pub turns_fall : (inputs holder next i : ℕ) → holder < inputs → next < inputs → i < inputs → (next ≡ i → ⊥) → turns_to inputs holder next ≤ turns_to inputs holder i
    → turns_to inputs next i + 1 ≤ turns_to inputs holder i
turns_fall inputs holder next i h k j apart no_later = by_order (cases_lt holder i) (cases_lt holder next) (cases_lt next i)
  where
    by_order : (holder < i) ⊎ (i ≤ holder) → (holder < next) ⊎ (next ≤ holder) → (next < i) ⊎ (i ≤ next) → turns_to inputs next i + 1 ≤ turns_to inputs holder i
    by_order (inl a) (inl b) (inl d) = let e = ahead inputs holder i a in let f = ahead inputs holder next b in let g = ahead inputs next i d in omega (arith, e, f, g, a, b, d, no_later)
    by_order (inl a) (inl b) (inr d) = let e = ahead inputs holder i a in let f = ahead inputs holder next b in let less : i < next = omega (arith, d, apart) in absurd (omega (arith, e, f, a, b, less, no_later))
    by_order (inl a) (inr b) d = let e = ahead inputs holder i a in let f = behind inputs holder next b in absurd (omega (arith, e, f, a, b, h, j, k, no_later))
    by_order (inr a) (inl b) (inl d) = let e = behind inputs holder i a in let f = ahead inputs holder next b in absurd (omega (arith, a, b, d))
    by_order (inr a) (inl b) (inr d) = let e = behind inputs holder i a in let f = ahead inputs holder next b in let g = behind inputs next i d in omega (arith, e, f, g, a, b, d, h, k)
    by_order (inr a) (inr b) (inl d) = let e = behind inputs holder i a in let f = behind inputs holder next b in let g = ahead inputs next i d in omega (arith, e, f, g, a, b, d, h, k)
    by_order (inr a) (inr b) (inr d) =
        let e = behind inputs holder i a in let f = behind inputs holder next b in let less : i < next = omega (arith, d, apart) in absurd (omega (arith, e, f, a, b, less, h, no_later))

-- none passes
pub none_of : (test : ℕ → Bool) (start n : ℕ) → ((j : ℕ) → j < start + n → test j ≡ false) → filter test (numbers start n) ≡ []
none_of test start zero fails = refl
none_of test start (suc n) fails = cond-false (test start) _ _ (fails start (omega arith)) ∙ none_of test (suc start) n (λ j h. fails j (omega (arith, h)))

-- one at most passes
pub one_of : (test : ℕ → Bool) (k start n : ℕ) → ((j : ℕ) → j < start + n → test j ≡ true → j ≡ k) → length (filter test (numbers start n)) ≤ 1
one_of test k start zero only = omega arith
one_of test k start (suc n) only = by_test (cases_Bool (test start)) (one_of test k (suc start) n (λ j h. only j (omega (arith, h))))
  where
    others : (test start ≡ true) → (m from : ℕ) → start < from → from + m ≤ start + suc n → filter test (numbers from m) ≡ []
    others here zero from past within = refl
    others here (suc m) from past within = cond-false (test from) _ _ (not_true (test from) refl) ∙ others here m (suc from) (omega arith) (omega (arith, within))
      where
        not_true : (b : Bool) → test from ≡ b → test from ≡ false
        not_true true e = let one = only from (omega (arith, within)) e in let two = only start (omega arith) here in absurd (omega (arith, one, two, past))
        not_true false e = e

    by_test : (test start ≡ true) ⊎ (test start ≡ false) → length (filter test (numbers (suc start) n)) ≤ 1 → length (filter test (numbers start (suc n))) ≤ 1
    by_test (inl here) rest =
        let e = ap length (cond-true (test start) (start ∷ filter test (numbers (suc start) n)) (filter test (numbers (suc start) n)) here) in
        let none = ap length (others here n (suc start) (omega arith) (omega arith)) in
        omega (arith, e, none)
    by_test (inr fails) rest =
        let e = ap length (cond-false (test start) (start ∷ filter test (numbers (suc start) n)) (filter test (numbers (suc start) n)) fails) in
        omega (arith, e, rest)
