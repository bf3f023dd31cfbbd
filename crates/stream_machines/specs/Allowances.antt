-- How many beats came since the last ready, and the places that those find which an allowance above the ready latency lets come.
-- No contract reads a proof of these.
use Rattle.std.proofs.Common.{◌≡◌, ◌⊎◌, ℕ, zero, suc, ◌+◌, ◌-◌, ◌≤◌, ◌<◌, Bool, true, false, cond, ◌||◌, ◌&&◌, refl, ap, sym, ◌∙◌, subst, inl, inr, arith, nat_lt, nat_le, eqb}
use Rattle.std.specs.Prelude.{IsTrue}
use Rattle.std.proofs.lemmas.Bool.{cases_lt, and_parts, and_from, or_left, or_right, ltb-true, lt-ltb, le-ltb, le-leb, leb-true, eq-eqb, ne_eqb, cond-true, cond-false}
use Rattle.stream_runs.specs.View.{Pace, EndView, Side, is_high, is_transfer, is_ready_cycle}
use Rattle.stream_runs.specs.Source.{IsLegalSource, IsLegalAt, was_ready, beats_since_ready, is_allowed_late, may_show}
use Rattle.stream_machines.specs.Stage.{ready_cycles}
use Rattle.stream_machines.specs.ReadyCycles.{one_if, ready_cycles_step, ready_cycles_le, strict_shows}

-- how many beats came before the cycle since the last ready
abbrev pub since : Pace → EndView → ℕ → ℕ
since pace view zero = 0
since pace view (suc c) = beats_since_ready pace view c

pub since_next : (pace : Pace) (view : EndView) (c : ℕ)
    → beats_since_ready pace view c ≡ cond (is_high view.ready c) 0 (since pace view c + one_if (is_transfer pace view c))
since_next pace view zero = ap (λ k. cond (is_high view.ready 0) 0 k) (zero_more (one_if (is_transfer pace view 0)))
  where
    zero_more : (k : ℕ) → k ≡ 0 + k
    zero_more k = omega arith
since_next pace view (suc c) = refl

pub one_at_most : (b : Bool) → one_if b ≤ 1
one_at_most true = omega arith
one_at_most false = omega arith

module _ (side : Side) (up : EndView) (delayed : 0 < side.pace.latency) (above : side.pace.latency < side.pace.allowance) where
  -- a beat that comes is one of those that the allowance leaves
  pub allowed : (c : ℕ) → IsLegalAt side up c → is_transfer side.pace up c ≡ true
      → beats_since_ready side.pace up c ≤ side.pace.allowance
  allowed c legal moves =
      let shown = (and_parts (is_high up.valid c) (nat_lt 0 side.pace.latency || is_high up.ready c) moves).0 in
      let some_latency : eqb side.pace.latency 0 ≡ false = ne_eqb side.pace.latency 0 (λ e. omega arith) in
      let second = subst
      (λ b. (b
      || cond (nat_lt side.pace.latency side.pace.allowance) (is_allowed_late side.pace up c)
      (is_ready_cycle side.pace up c))
      ≡ true) some_latency
      (legal.paced.allowed shown) in
      let third : is_allowed_late side.pace up c ≡ true = sym (cond-true (nat_lt side.pace.latency side.pace.allowance) (is_allowed_late side.pace up c) (is_ready_cycle side.pace up c) (lt-ltb side.pace.latency side.pace.allowance above)) ∙ second in
      leb-true _ _
      (last (nat_le side.pace.latency c) (was_ready up (c - side.pace.latency))
      (nat_le (beats_since_ready side.pace up c) side.pace.allowance) third)
    where
      last : (a b d : Bool) → (a && b && d) ≡ true → d ≡ true
      last true true d e = e
      last true false d e = absurd (cc)
      last false b d e = absurd (cc)

  pub since_within : (c : ℕ) → IsLegalSource side up c → since side.pace up c ≤ side.pace.allowance
  since_within zero legal = omega arith
  since_within (suc c) legal =
      by_transfer (since_within c (λ b h. legal b (omega arith))) (is_transfer side.pace up c) refl (since_next side.pace up c)
    where
      by_transfer : since side.pace up c ≤ side.pace.allowance → (b : Bool) → is_transfer side.pace up c ≡ b
          → beats_since_ready side.pace up c ≡ cond (is_high up.ready c) 0 (since side.pace up c + one_if b)
          → beats_since_ready side.pace up c ≤ side.pace.allowance
      by_transfer earlier true moves e = allowed c (legal c (omega arith)) moves
      by_transfer earlier false stays e = by_ready (is_high up.ready c) e
        where
          by_ready : (q : Bool) → beats_since_ready side.pace up c ≡ cond q 0 (since side.pace up c + 0)
              → beats_since_ready side.pace up c ≤ side.pace.allowance
          by_ready true f = omega (arith, f)
          by_ready false f = omega (arith, f, earlier)

  -- in a cycle in which so many beats are held, and ready is shown where they leave a place for the allowance and one more
  module _ (places held : ℕ) (c : ℕ) (asks : is_high up.ready c ≡ nat_lt (held + side.pace.allowance) places)
      (leaves : held + side.pace.allowance ≤ places + since side.pace up c) where
    -- those that are held in the next one leave places for all that the allowance still lets come
    pub still_leaves : (later : ℕ) → later ≤ held + one_if (is_transfer side.pace up c)
        → later + side.pace.allowance ≤ places + since side.pace up (suc c)
    still_leaves later grows = by_ready (is_high up.ready c) refl (since_next side.pace up c)
      where
        by_ready : (r : Bool) → is_high up.ready c ≡ r
            → beats_since_ready side.pace up c ≡ cond r 0 (since side.pace up c + one_if (is_transfer side.pace up c))
            → later + side.pace.allowance ≤ places + beats_since_ready side.pace up c
        by_ready true asked e =
            let below : held + side.pace.allowance < places = ltb-true _ _ (sym asks ∙ asked) in
            omega (arith, below, grows, one_at_most (is_transfer side.pace up c))
        by_ready false low e = omega (arith, leaves, grows, e)

    -- and a beat that comes finds a place
    pub finds_place : IsLegalAt side up c → is_transfer side.pace up c ≡ true → held < places
    finds_place legal moves = by_ready (is_high up.ready c) refl (since_next side.pace up c)
      where
        few : beats_since_ready side.pace up c ≤ side.pace.allowance
        few = allowed c legal moves

        by_ready : (r : Bool) → is_high up.ready c ≡ r
            → beats_since_ready side.pace up c ≡ cond r 0 (since side.pace up c + one_if (is_transfer side.pace up c))
            → held < places
        by_ready true asked e =
            let below : held + side.pace.allowance < places = ltb-true _ _ (sym asks ∙ asked) in omega (arith, below)
        by_ready false low e = omega (arith, leaves, few, e, ap one_if moves)

-- the same ready latency, and no larger allowance
abbrev pub strict_pace : Pace → Pace
strict_pace pace = record { latency = pace.latency; allowance = pace.latency }

-- beats that keep to ready cycles keep to each larger allowance
module _ (pace : Pace) (view : EndView) (count : ℕ) (ordered : pace.latency ≤ pace.allowance)
    (keeps : (c : ℕ) → c < count → IsTrue (is_high view.valid c) → IsTrue (may_show (strict_pace pace) view c)) where
  in_ready : 0 < pace.latency → (c : ℕ) → c < count → IsTrue (is_high view.valid c) → is_ready_cycle pace view c ≡ true
  in_ready delayed c h shown = strict_shows (strict_pace pace) view c refl (lt-ltb 0 pace.latency delayed) (keeps c h shown)

  comes_due : 0 < pace.latency → (c : ℕ) → c < count → one_if (is_transfer pace view c) ≤ one_if (is_ready_cycle pace view c)
  comes_due delayed c h = by_beat (is_transfer pace view c) refl
    where
      by_beat : (b : Bool) → is_transfer pace view c ≡ b → one_if b ≤ one_if (is_ready_cycle pace view c)
      by_beat true moves =
          let due = ap one_if (in_ready delayed c h (and_parts (is_high view.valid c) (nat_lt 0 pace.latency || is_high view.ready c) moves).0) in
          omega (arith, due)
      by_beat false stays = omega arith

  -- the beats since the last ready came of ready cycles that the latency kept
  few_since : 0 < pace.latency → (c : ℕ) → c ≤ count → since pace view c + ready_cycles pace.latency view c ≤ pace.latency
  few_since delayed zero h = omega (arith, ready_cycles_le pace.latency view 0)
  few_since delayed (suc c) h =
      by_ready (few_since delayed c (omega arith)) (is_high view.ready c) (since_next pace view c)
      (ready_cycles_step pace.latency view c)
    where
      by_ready : since pace view c + ready_cycles pace.latency view c ≤ pace.latency → (r : Bool)
          → beats_since_ready pace view c ≡ cond r 0 (since pace view c + one_if (is_transfer pace view c))
          → ready_cycles pace.latency view (suc c) + one_if (is_ready_cycle pace view c)
          ≡ ready_cycles pace.latency view c + one_if r
          → beats_since_ready pace view c + ready_cycles pace.latency view (suc c) ≤ pace.latency
      by_ready earlier true none step = omega (arith, none, ready_cycles_le pace.latency view (suc c))
      by_ready earlier false more step = omega (arith, earlier, more, step, comes_due delayed c (omega arith))

  was_high : (c : ℕ) → is_high view.ready c ≡ true → was_ready view c ≡ true
  was_high zero high = high
  was_high (suc c) high = or_left _ _ high

  pub allowed_by_larger : (c : ℕ) → c < count → IsTrue (is_high view.valid c) → IsTrue (may_show pace view c)
  allowed_by_larger c h shown = by_latency (cases_lt 0 pace.latency)
    where
      late : 0 < pace.latency → (pace.latency < pace.allowance) ⊎ (pace.allowance ≤ pace.latency)
          → cond (nat_lt pace.latency pace.allowance) (is_allowed_late pace view c) (is_ready_cycle pace view c) ≡ true
      late delayed (inr strict) =
          cond-false (nat_lt pace.latency pace.allowance) _ _ (le-ltb pace.latency pace.allowance strict)
          ∙ in_ready delayed c h shown
      late delayed (inl above) =
          let ready = and_parts (nat_le pace.latency c) (is_high view.ready (c - pace.latency)) (in_ready delayed c h shown) in
          let few : beats_since_ready pace view c ≤ pace.allowance = omega (arith, few_since delayed (suc c) h, ordered) in
          cond-true (nat_lt pace.latency pace.allowance) _ _ (lt-ltb pace.latency pace.allowance above)
          ∙ and_from _ _ (and_from _ _ ready.0 (was_high (c - pace.latency) ready.1))
          (le-leb (beats_since_ready pace view c) pace.allowance few)

      by_latency : (0 < pace.latency) ⊎ (pace.latency ≤ 0) → IsTrue (may_show pace view c)
      by_latency (inl delayed) = or_right _ _ (late delayed (cases_lt pace.latency pace.allowance))
      by_latency (inr direct) = or_left _ _ (eq-eqb pace.latency 0 (omega arith))
