-- How many ready cycles are still to come of the ready that was shown, and the places that their beats find. No contract reads a
-- proof of these.
use Rattle.std.proofs.Common.{◌≡◌, ◌⊎◌, ℕ, zero, suc, ◌+◌, ◌-◌, ◌≤◌, ◌<◌, Bool, true, false, cond, ◌||◌, ◌&&◌, List, [], length, refl, ap, sym, ◌∙◌, subst, inl, inr, arith, nat_lt, nat_le, eqb}
use Rattle.std.proofs.lemmas.Bool.{cases_Bool, cases_lt, and_parts, and_from, ltb-true, le-leb, lt-leb, leb-true, leb-false, ne_eqb, cond-false, le-ltb, lt-ltb}
use Rattle.stream_runs.specs.View.{Pace, EndView, Side, Beat, is_high, is_transfer, is_ready_cycle}
use Rattle.stream_runs.specs.Source.{IsLegalSource, IsLegalAt, may_show, is_allowed_late}
use Rattle.stream_machines.specs.Stage.{ready_cycles}

-- a high signal counts as one
abbrev pub one_if : Bool → ℕ
one_if b = cond b 1 0

suc_le : (a b : ℕ) → nat_le (suc a) (suc b) ≡ nat_le a b
suc_le a b = by_test (cases_Bool (nat_le a b))
  where
    by_test : (nat_le a b ≡ true) ⊎ (nat_le a b ≡ false) → nat_le (suc a) (suc b) ≡ nat_le a b
    by_test (inl below) = le-leb (suc a) (suc b) (omega (arith, leb-true a b below)) ∙ sym below
    by_test (inr above) = lt-leb (suc a) (suc b) (omega (arith, leb-false a b above)) ∙ sym above

pub ready_cycles_step : (length : ℕ) (view : EndView) (c : ℕ)
    → ready_cycles length view (suc c) + one_if (nat_le length c && is_high view.ready (c - length))
    ≡ ready_cycles length view c + one_if (is_high view.ready c)
ready_cycles_step zero view c =
    let same : c - 0 ≡ c = omega arith in let low : nat_le 0 c ≡ true = le-leb 0 c (omega arith) in rw (low, same) refl
ready_cycles_step (suc length) view zero = by_length length
  where
    by_length : (n : ℕ)
        → one_if (is_high view.ready 0) + ready_cycles n view 0 + one_if (nat_le (suc n) 0 && is_high view.ready (0 - suc n))
        ≡ 0 + one_if (is_high view.ready 0)
    by_length zero = omega arith
    by_length (suc n) = rw (lt-leb (suc (suc n)) 0 (omega arith)) (omega arith)
ready_cycles_step (suc length) view (suc c) =
    let same : suc c - suc length ≡ c - length = omega arith in
    let test : (nat_le (suc length) (suc c) && is_high view.ready (suc c - suc length)) ≡ (nat_le length c && is_high view.ready (c - length)) =
    ap (λ b. b && is_high view.ready (suc c - suc length)) (suc_le length c)
    ∙ ap (λ n. nat_le length c && is_high view.ready n) same in
    let earlier = ready_cycles_step length view c in
    omega (arith, earlier, ap one_if test)

pub ready_cycles_le : (length : ℕ) (view : EndView) (c : ℕ) → ready_cycles length view c ≤ length
ready_cycles_le zero view c = omega arith
ready_cycles_le (suc length) view zero = omega arith
ready_cycles_le (suc length) view (suc c) = let earlier = ready_cycles_le length view c in by_ready (is_high view.ready c) earlier
  where
    by_ready : (b : Bool) → ready_cycles length view c ≤ length → one_if b + ready_cycles length view c ≤ suc length
    by_ready true h = omega arith
    by_ready false h = omega arith

-- where the allowance is the latency, above 0, a beat is shown in ready cycles alone
pub strict_shows : (pace : Pace) (view : EndView) (c : ℕ) → pace.allowance ≡ pace.latency → nat_lt 0 pace.latency ≡ true
    → may_show pace view c ≡ true → is_ready_cycle pace view c ≡ true
strict_shows pace view c strict delayed allowed =
    let above : 0 < pace.latency = ltb-true 0 pace.latency delayed in
    let some_latency : eqb pace.latency 0 ≡ false = ne_eqb pace.latency 0 (λ e. omega arith) in
    let second = subst
    (λ b. (b || cond (nat_lt pace.latency pace.allowance) (is_allowed_late pace view c) (is_ready_cycle pace view c))
    ≡ true) some_latency allowed in
    sym
    (cond-false (nat_lt pace.latency pace.allowance) (is_allowed_late pace view c) (is_ready_cycle pace view c)
    (le-ltb pace.latency pace.allowance (omega arith)))
    ∙ second

-- a beat comes in a ready cycle
pub comes_in_ready : (side : Side) (up : EndView) (c : ℕ) → side.pace.allowance ≡ side.pace.latency → IsLegalAt side up c
    → is_transfer side.pace up c ≡ true → is_ready_cycle side.pace up c ≡ true
comes_in_ready side up c strict legal moves = by_latency (cases_lt 0 side.pace.latency)
  where
    parts : (is_high up.valid c ≡ true) × ((nat_lt 0 side.pace.latency || is_high up.ready c) ≡ true)
    parts = and_parts (is_high up.valid c) (nat_lt 0 side.pace.latency || is_high up.ready c) moves

    by_latency : (0 < side.pace.latency) ⊎ (side.pace.latency ≤ 0) → is_ready_cycle side.pace up c ≡ true
    by_latency (inl delayed) =
        strict_shows side.pace up c strict (lt-ltb 0 side.pace.latency delayed) (legal.paced.allowed parts.0)
    by_latency (inr direct) =
        let none : side.pace.latency ≡ 0 = omega arith in
        let ready : is_high up.ready c ≡ true = subst
        (λ b. (b || is_high up.ready c) ≡ true) (le-ltb 0 side.pace.latency direct) parts.1 in
        let same : c - side.pace.latency ≡ c = omega arith in
        and_from _ _ (le-leb side.pace.latency c (omega arith)) (subst (λ n. is_high up.ready n ≡ true) (sym same) ready)

-- what holds one more at most where a beat comes, and shows ready where what it holds leaves a place
module _ (side : Side) (up : EndView) (held : ℕ → List Beat) (strict : side.pace.allowance ≡ side.pace.latency)
    (starts : held 0 ≡ [])
    (grows : (c : ℕ) → IsLegalSource side up (suc c)
    → length (held (suc c)) ≤ length (held c) + one_if (is_transfer side.pace up c))
    (asks : (c : ℕ) → IsLegalSource side up c
    → is_high up.ready c ≡ nat_lt (length (held c) + ready_cycles side.pace.latency up c) (side.pace.latency + 1)) where
  -- the beats that are held and those that may still come have their places
  pub room : (c : ℕ) → IsLegalSource side up c → length (held c) + ready_cycles side.pace.latency up c ≤ side.pace.latency + 1
  room zero legal = omega (arith, ap length starts, ready_cycles_le side.pace.latency up 0)
  room (suc c) legal =
      by_transfer (room c (λ b h. legal b (omega arith))) (ready_cycles_step side.pace.latency up c)
      (is_transfer side.pace up c) refl (grows c legal)
    where
      one_at_most : (b : Bool) → one_if b ≤ 1
      one_at_most true = omega arith
      one_at_most false = omega arith

      by_ready : (a b : Bool) → length (held c) + ready_cycles side.pace.latency up c ≤ side.pace.latency + 1
          → ready_cycles side.pace.latency up (suc c) + one_if b ≤ ready_cycles side.pace.latency up c + one_if a
          → is_high up.ready c ≡ a → length (held (suc c)) ≤ length (held c) + one_if b
          → length (held (suc c)) + ready_cycles side.pace.latency up (suc c) ≤ side.pace.latency + 1
      by_ready true b r s e n =
          let below : length (held c) + ready_cycles side.pace.latency up c < side.pace.latency + 1 = ltb-true _ _ (sym (asks c
          (λ b h. legal b (omega arith))) ∙ e) in
          omega (arith, below, s, n)
      by_ready false b r s e n = omega (arith, r, s, n)

      by_transfer : length (held c) + ready_cycles side.pace.latency up c ≤ side.pace.latency + 1
          → ready_cycles side.pace.latency up (suc c) + one_if (is_ready_cycle side.pace up c)
          ≡ ready_cycles side.pace.latency up c + one_if (is_high up.ready c)
          → (b : Bool) → is_transfer side.pace up c ≡ b → length (held (suc c)) ≤ length (held c) + one_if b
          → length (held (suc c)) + ready_cycles side.pace.latency up (suc c) ≤ side.pace.latency + 1
      by_transfer r s true moves n =
          let ready : is_ready_cycle side.pace up c ≡ true = comes_in_ready side up c strict (legal c (omega arith)) moves in
          let s' : ready_cycles side.pace.latency up (suc c) + 1 ≡ ready_cycles side.pace.latency up c + one_if (is_high up.ready c) =
          subst (λ b. ready_cycles side.pace.latency up (suc c) + one_if b
          ≡ ready_cycles side.pace.latency up c + one_if (is_high up.ready c)) ready s in
          by_ready (is_high up.ready c) true r (omega (arith, s')) refl n
      by_transfer r s false stays n = by_ready (is_high up.ready c) false r (omega (arith, s)) refl n

  -- a beat that comes finds a place
  pub has_place : (c : ℕ) → IsLegalSource side up (suc c) → is_transfer side.pace up c ≡ true
      → length (held c) ≤ side.pace.latency
  has_place c legal moves =
      by_ready (room c (λ b h. legal b (omega arith))) (ready_cycles_step side.pace.latency up c) (is_high up.ready c) refl
    where
      ready : is_ready_cycle side.pace up c ≡ true
      ready = comes_in_ready side up c strict (legal c (omega arith)) moves

      by_ready : length (held c) + ready_cycles side.pace.latency up c ≤ side.pace.latency + 1
          → ready_cycles side.pace.latency up (suc c) + one_if (is_ready_cycle side.pace up c)
          ≡ ready_cycles side.pace.latency up c + one_if (is_high up.ready c)
          → (b : Bool) → is_high up.ready c ≡ b → length (held c) ≤ side.pace.latency
      by_ready r s true e =
          let below : length (held c) + ready_cycles side.pace.latency up c < side.pace.latency + 1 = ltb-true _ _ (sym (asks c
          (λ b h. legal b (omega arith))) ∙ e) in
          omega (arith, below)
      by_ready r s false e = omega (arith, r, s, ap one_if ready, ap one_if e)
