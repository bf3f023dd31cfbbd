-- From good cycles to all cycles: while an agent owes, it took a read not long ago.
use Rattle.std.proofs.Common.{◌≡◌, ℕ, zero, suc, ◌+◌, ◌-◌, ◌*◌, ◌<◌, ◌≤◌, Bool, true, false, if◌then◌else◌, arith, tests, refl, sym, ap, ◌∙◌, subst, IsTrue, IsFalse, inl, inr, ◌⊎◌, nat_lt, ltb-true, ltb-false}
use Rattle.histories.specs.History.{one_if}
use Rattle.memory_awake.specs.Ways.{count_in}
use Rattle.memory_awake.proofs.Bits.{no_true}

module _ (good owing accepts : ℕ → Bool) (late from size : ℕ) (some : 1 ≤ late) (either : (c : ℕ) → from ≤ c → c < from + size → IsTrue (good c) ⊎ IsTrue (owing c))
    (answers : (c : ℕ) → from ≤ c → c + late ≤ from + size → ((k : ℕ) → c ≤ k → k < c + late → IsFalse (accepts k)) → IsFalse (owing (c + late - 1))) where
  -- how many cycles ago a beat was taken, or the stretch began
  since : ℕ → ℕ
  since zero = zero
  since (suc n) = if accepts (from + n) then zero else suc (since n)

  since_some : (n : ℕ) → IsTrue (accepts (from + n)) → since (suc n) ≡ zero
  unfolding since
  since_some n e = rw e refl

  since_none : (n : ℕ) → IsFalse (accepts (from + n)) → since (suc n) ≡ suc (since n)
  unfolding since
  since_none n e = rw e refl

  since_first : since zero ≡ zero
  unfolding since
  since_first = refl

  since_few : (n : ℕ) → since n ≤ n
  since_few zero = let e = since_first in omega (arith, e)
  since_few (suc n) = by_take (accepts (from + n)) refl (since_few n)
    where
      by_take : (b : Bool) → accepts (from + n) ≡ b → since n ≤ n → since (suc n) ≤ suc n
      by_take true e more = let s = since_some n e in omega (arith, s)
      by_take false e more = let s = since_none n e in omega (arith, s, more)

  -- nothing was taken since
  quiet : (n j : ℕ) → n ≤ j + since n → j < n → IsFalse (accepts (from + j))
  quiet zero j low high = absurd (omega (arith, high))
  quiet (suc n) j low high = by_take (accepts (from + n)) refl (quiet n j)
    where
      by_take : (b : Bool) → accepts (from + n) ≡ b → (n ≤ j + since n → j < n → IsFalse (accepts (from + j))) → IsFalse (accepts (from + j))
      by_take true e more = let s = since_some n e in absurd (omega (arith, s, low, high))
      by_take false e more = by_last (nat_lt j n) refl
        where
          by_last : (b : Bool) → nat_lt j n ≡ b → IsFalse (accepts (from + j))
          by_last true h = let s = since_none n e in more (omega (arith, s, low)) (ltb-true j n h)
          by_last false h = let most = ltb-false j n h in let same : n ≡ j = omega (arith, most, high) in subst (λ x. IsFalse (accepts (from + x))) same e

  owed_lately : (n : ℕ) → n < size → IsTrue (owing (from + n)) → since (suc n) < late
  owed_lately n h owed = by_test (nat_lt (since (suc n)) late) refl
    where
      by_test : (b : Bool) → nat_lt (since (suc n)) late ≡ b → since (suc n) < late
      by_test true e = ltb-true (since (suc n)) late e
      by_test false e =
          let more = ltb-false (since (suc n)) late e in
          let few = since_few (suc n) in
          let first : from + (suc n - late) + late - 1 ≡ from + n = omega (arith, more, few, some) in
          let none = answers (from + (suc n - late)) (omega arith) (omega (arith, more, few, h)) (λ k low high.
          let place : from + (k - from) ≡ k = omega (arith, low) in
          subst (λ x. IsFalse (accepts x)) place (quiet (suc n) (k - from) (omega (arith, low, more, few)) (omega (arith, low, high, more, few)))) in
          absurd (no_true (sym (subst (λ x. IsFalse (owing x)) first none) ∙ owed))

  -- the time since the last beat, as far as it may be owed
  capped : ℕ → ℕ
  capped k = if nat_lt k late then k else late - 1

  capped_low : (k : ℕ) → k < late → capped k ≡ k
  unfolding capped
  capped_low k h = let e : nat_lt k late ≡ true = grind (arith, tests, h) in rw e refl

  capped_most : (k : ℕ) → capped k + 1 ≤ late
  unfolding capped
  capped_most k = by_test (nat_lt k late) refl
    where
      by_test : (b : Bool) → nat_lt k late ≡ b → (if b then k else late - 1) + 1 ≤ late
      by_test true e = let h = ltb-true k late e in omega (arith, h)
      by_test false e = omega (arith, some)

  capped_grows : (k : ℕ) → capped k ≤ capped (suc k)
  unfolding capped
  capped_grows k = by_tests (nat_lt k late) refl (nat_lt (suc k) late) refl
    where
      by_tests : (a : Bool) → nat_lt k late ≡ a → (b : Bool) → nat_lt (suc k) late ≡ b → (if a then k else late - 1) ≤ (if b then suc k else late - 1)
      by_tests true ea true eb = omega arith
      by_tests true ea false eb = let h = ltb-true k late ea in omega (arith, h)
      by_tests false ea true eb = let h = ltb-true (suc k) late eb in let l = ltb-false k late ea in absurd (omega (arith, h, l))
      by_tests false ea false eb = omega arith

  -- cycles so far: those good, and what the taken beats and the time since the last one allow
  within : (n : ℕ) → n ≤ size → n ≤ count_in good from n + late * count_in accepts from n + capped (since n)
  within zero h = omega arith
  within (suc n) h = by_take (accepts (from + n)) refl (good (from + n)) refl (within n (omega (arith, h)))
    where
      grown : (b : Bool) → late * (count_in accepts from n + one_if b) ≡ late * count_in accepts from n + late * one_if b
      grown b = omega arith

      by_take : (b : Bool) → accepts (from + n) ≡ b → (g : Bool) → good (from + n) ≡ g → n ≤ count_in good from n + late * count_in accepts from n + capped (since n) →
          suc n ≤ (count_in good from n + one_if (good (from + n))) + late * (count_in accepts from n + one_if (accepts (from + n))) + capped (since (suc n))
      by_take true e g eg more =
          let one : late * (count_in accepts from n + one_if (accepts (from + n))) ≡ late * count_in accepts from n + late = ap (λ b. late * (count_in accepts from n + one_if b)) e ∙ (omega arith) in
          let most = capped_most (since n) in
          omega (arith, one, most, more)
      by_take false e true eg more =
          let none : late * (count_in accepts from n + one_if (accepts (from + n))) ≡ late * count_in accepts from n = ap (λ b. late * (count_in accepts from n + one_if b)) e ∙ (omega arith) in
          let here : one_if (good (from + n)) ≡ 1 = ap one_if eg in
          let grows = capped_grows (since n) in
          let next = ap capped (since_none n e) in
          omega (arith, none, here, grows, next, more)
      by_take false e false eg more = elim (either (from + n) (omega arith) (omega (arith, h))) [
        | inl fine ↦ absurd (no_true (sym eg ∙ fine))
        | inr owed ↦
            let none : late * (count_in accepts from n + one_if (accepts (from + n))) ≡ late * count_in accepts from n = ap (λ b. late * (count_in accepts from n + one_if b)) e ∙ (omega arith) in
            let lately = owed_lately n h owed in
            let next = since_none n e in
            let now = capped_low (since (suc n)) lately in
            let was = capped_low (since n) (omega (arith, lately, next)) in
            omega (arith, none, next, now, was, more)
      ]

  pub all_cycles : size + 1 ≤ count_in good from size + late * count_in accepts from size + late
  all_cycles =
      let all = within size (omega arith) in
      let most = capped_most (since size) in
      omega (arith, all, most)
