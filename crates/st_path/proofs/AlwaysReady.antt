-- A source without ready is as legal behind a ready that it doesn't see, since that is always high.
use Rattle.std.proofs.Common.{◌≡◌, ◌⊎◌, inl, inr, ℕ, zero, suc, ◌≤◌, ◌<◌, Bool, true, IsTrue, subst, sym, arith}
use Rattle.std.proofs.Math.Nat.{eq-or-lt_of_le, le_of_suc-le-suc}
use Rattle.stream_runs.specs.View.{EndView, Side, is_high, IsReadyBefore}
use Rattle.stream_runs.specs.Source.{IsLegalAt, IsLegalSource}
use Rattle.stream_machines.specs.Stage.{KeepsStageLaw}
use Rattle.stream_machines.specs.Buffers.{direct_side}
use Rattle.stream_machines.specs.Parts.{plain_run}
use Rattle.stream_machines.specs.Wires.{wire_shape}

-- the same end, always ready
abbrev pub always_ready : EndView → EndView
always_ready view = record view { ready = λ _. 1 }

module _ (side : Side) (passes : ℕ → Bool) (up : EndView)
    (tied : KeepsStageLaw (wire_shape passes side (direct_side side) 0 true) (plain_run (always_ready up) up))
    (direct : direct_side side ≡ side) (count : ℕ) (legal : IsLegalSource side (always_ready up) count)
    (passed : (c : ℕ) → IsLegalSource side up (suc c) → IsTrue (is_high up.ready c)) where
  legal_next : (n : ℕ) → n < count → IsReadyBefore up n → IsLegalSource side up (suc n)
  legal_next n lt before c below =
      subst (λ s. IsLegalAt s up c) direct (tied.legal c (λ k at. legal k (omega arith)) (λ needs k at. before k (omega arith)))

  pub ready_before : (n : ℕ) → n ≤ count → IsReadyBefore up n
  ready_before zero h c below = absurd (omega arith)
  ready_before (suc n) h c below = by_place (ready_before n (omega arith)) (eq-or-lt_of_le (le_of_suc-le-suc below))
    where
      by_place : IsReadyBefore up n → (c ≡ n) ⊎ (c < n) → IsTrue (is_high up.ready c)
      by_place before (inl same) = subst (λ k. IsTrue (is_high up.ready k)) (sym same) (passed n (legal_next n h before))
      by_place before (inr less) = before c less
