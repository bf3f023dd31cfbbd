-- When a beat transfers, as a test.
use Rattle.std.proofs.Common.{◌≡◌, ℕ, zero, suc, ◌<◌, Bool, true, false, ◌&&◌, ◌||◌, ◌==◌, nat_lt, if◌then◌else◌, bit_and, refl, sym, ap, ◌∙◌, arith}
use Rattle.st_timing.specs.TransferNets.{moving}

shown_where : (t : Bool) (v : ℕ) → ((if t then v else 0) == 1) ≡ ((v == 1) && t)
shown_where t v = by_test t (v == 1) refl
  where
    by_test : (t s : Bool) → (v == 1) ≡ s → ((if t then v else 0) == 1) ≡ (s && t)
    by_test true true e = e
    by_test true false e = e
    by_test false true e = refl
    by_test false false e = refl

pub moving_high : (latency valid ready : ℕ) → (moving latency valid ready == 1) ≡ ((valid == 1) && (nat_lt 0 latency || (ready == 1)))
moving_high latency valid ready = shown_where (nat_lt 0 latency || (ready == 1)) valid

-- two bits of which one gates the other
and_gates : (v r : ℕ) → v < 2 → r < 2 → bit_and v r ≡ moving 0 v r
and_gates zero zero h k = refl
and_gates zero (suc zero) h k = refl
and_gates (suc zero) zero h k = refl
and_gates (suc zero) (suc zero) h k = refl
and_gates (suc (suc v)) r h k = absurd (omega arith)
and_gates zero (suc (suc r)) h k = absurd (omega arith)
and_gates (suc zero) (suc (suc r)) h k = absurd (omega arith)

pub moving_and : (latency v r m : ℕ) → latency ≡ 0 → v < 2 → r < 2 → m ≡ bit_and v r → m ≡ moving latency v r
moving_and latency v r m direct h k is = is ∙ and_gates v r h k ∙ ap (λ n. moving n v r) (sym direct)
