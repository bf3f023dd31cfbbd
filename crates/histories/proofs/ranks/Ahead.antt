-- Straight, the sentence on the pipeline and that on the translator give an acceptance within the stages and the wait states.
use Rattle.std.proofs.Common.{◌≡◌, ℕ, zero, suc, ◌+◌, ◌*◌, ◌<◌, ◌≤◌, Bool, true, false, ◌||◌, arith, refl, IsTrue, inl, inr, ◌⊎◌}
use Rattle.histories.specs.Ahead.{Ahead, IsStraightThrough}
use Rattle.histories.proofs.ranks.Cases.{same_or_less}

or_cases : (a b : Bool) → IsTrue (a || b) → IsTrue a ⊎ IsTrue b
or_cases true b h = inl refl
or_cases false b h = inr h

-- a beat below the pipeline is accepted within so many cycles, or stands through them
stays : (run : Ahead) (stages wait size d k : ℕ) → IsStraightThrough run stages wait size → d + k < size → IsTrue (run.shown_low d) →
    ((e : ℕ) × (d ≤ e) × (e < d + k) × IsTrue (run.accepts e)) ⊎ ((e : ℕ) → d ≤ e → e ≤ d + k → IsTrue (run.shown_low e))
stays run stages wait size d zero law h shown = inr (λ e low high. let same : e ≡ d = omega (arith, low, high) in rw same shown)
stays run stages wait size d (suc k) law h shown = go (stays run stages wait size d k law (omega (arith, h)) shown)
  where
    by_test : (b : Bool) → run.accepts (d + k) ≡ b → ((e : ℕ) → d ≤ e → e ≤ d + k → IsTrue (run.shown_low e)) → ((e : ℕ) × (d ≤ e) × (e < d + suc k) × IsTrue (run.accepts e)) ⊎ ((e : ℕ) → d ≤ e → e ≤ d + suc k → IsTrue (run.shown_low e))
    by_test true e stood = inl (d + k, omega arith, omega arith, e)
    by_test false e stood = inr (λ x low high. elim (same_or_less x (d + k) (omega (arith, high))) [
      | inl less ↦ stood x low less
      | inr same ↦ rw same (law.stands (d + k) (omega (arith, h)) (stood (d + k) (omega arith) (omega arith)) e)
    ])

    go : ((e : ℕ) × (d ≤ e) × (e < d + k) × IsTrue (run.accepts e)) ⊎ ((e : ℕ) → d ≤ e → e ≤ d + k → IsTrue (run.shown_low e)) →
        ((e : ℕ) × (d ≤ e) × (e < d + suc k) × IsTrue (run.accepts e)) ⊎ ((e : ℕ) → d ≤ e → e ≤ d + suc k → IsTrue (run.shown_low e))
    go (inl found) = inl (found.0, found.1, omega (arith, found.2), found.3)
    go (inr stood) = by_test (run.accepts (d + k)) refl stood

pub ahead_is_accepted : (run : Ahead) (stages wait size : ℕ) → IsStraightThrough run stages wait size → 2 * stages + wait < size →
    (c : ℕ) × (c < size) × IsTrue (run.accepts c)
ahead_is_accepted run stages wait size law h =
    let inside : (d : ℕ) → 0 ≤ d → d ≤ 0 + 2 * stages → IsTrue (run.inside d) = λ d low high. elim (or_cases (run.asks d) (run.inside d) (law.wanted d (omega (arith, high, h)))) [
      | inl asked ↦ law.arbiter d (omega (arith, high, h)) asked
      | inr there ↦ there
    ] in
    from_low (law.pipeline 0 (omega (arith, h)) inside)
  where
    from_shown : (d : ℕ) → d ≤ 2 * stages → ((e : ℕ) × (d ≤ e) × (e < d + wait) × IsTrue (run.accepts e)) ⊎ ((e : ℕ) → d ≤ e → e ≤ d + wait → IsTrue (run.shown_low e)) → (c : ℕ) × (c < size) × IsTrue (run.accepts c)
    from_shown d low (inl found) = let less = found.2 in (found.0, omega (arith, less, low, h), found.3)
    from_shown d low (inr stood) =
        let taken = law.agent d (omega (arith, low, h)) (λ e from to. law.translator e (omega (arith, to, low, h)) (stood e from to)) in
        let last = taken.2 in
        (taken.0, omega (arith, last, low, h), taken.3)

    from_low : (d : ℕ) × (0 ≤ d) × (d ≤ 0 + 2 * stages) × IsTrue (run.shown_low d) → (c : ℕ) × (c < size) × IsTrue (run.accepts c)
    from_low found = let low = found.2 in from_shown found.0 (omega (arith, low)) (stays run stages wait size found.0 wait law (omega (arith, low, h)) found.3)
