-- What is left of the command at a port whose commands are bursts.
use Rattle.std.proofs.Common.{◌≡◌, ℕ, zero, suc, ◌+◌, ◌-◌, ◌<◌, ◌≤◌, Bool, true, false, not, ◌&&◌, nat_eq, nat_lt, if◌then◌else◌, arith, refl, sym, ap, ◌∙◌, subst, IsTrue, IsFalse, tests}
use Rattle.std.proofs.lemmas.Nat.{pow_pos}
use Rattle.histories.specs.History.{is_raised}
use Rattle.memory_runs.specs.Views.{Shape, Levels, levels_at}
use Rattle.memory_runs.specs.Commands.{Burst, shows, longest_burst, burst_before, next_burst, transfer_of}
use Rattle.memory_machines.specs.Link.{Port, takes, taken_at, marked_at, is_last_joined}
use Rattle.memory_machines.specs.Machines.{ShowsFitBeats}
use Rattle.memory_awake.specs.Wires.{IsWire}
use Rattle.memory_awake.proofs.Bits.{no_true, takes_shows}
use Rattle.memory_awake.proofs.Widened.{wire_stays, bursts as bursts_same}
use Rattle.memory_awake.specs.Steps.{HasStepsLeft}
use Rattle.memory_awake.proofs.HostGrants.{no_both}

-- the beats of a burst that are still to come, and where none is under way those of the longest one
abbrev pub beats_left : ℕ → Burst → ℕ
beats_left most burst = if nat_eq burst.left 0 then most else burst.left

abbrev next : Shape → Levels → Burst → Burst
next shape levels burst = if is_raised levels.write then next_burst shape levels burst else burst

-- a beat of a fit burst leaves less
left_few : (shape : Shape) (most : ℕ) (levels : Levels) (burst : Burst) → burst.left ≤ most → (IsFalse (nat_lt 0 burst.left) → levels.count ≤ most) → (next shape levels burst).left ≤ most
left_few shape most levels burst few count = by_write (is_raised levels.write)
  where
    by_zero : (z : Bool) → nat_eq burst.left 0 ≡ z → (next_burst shape levels burst).left ≤ most
    by_zero true e = let c = count (grind (arith, tests, e)) in rw e (omega (arith, c))
    by_zero false e = rw e (omega (arith, few))

    by_write : (w : Bool) → (if w then next_burst shape levels burst else burst).left ≤ most
    by_write true = by_zero (nat_eq burst.left 0) refl
    by_write false = few

left_fewer : (shape : Shape) (most : ℕ) (levels : Levels) (burst : Burst) → burst.left ≤ most → (IsFalse (nat_lt 0 burst.left) → levels.count ≤ most) → (IsFalse (nat_lt 0 burst.left) → 1 ≤ levels.count) →
    IsFalse (transfer_of shape levels burst).ends → beats_left most (next shape levels burst) + 1 ≤ beats_left most burst
left_fewer shape most levels burst few count some open_still = by_write (is_raised levels.write) refl
  where
    by_write : (w : Bool) → is_raised levels.write ≡ w → beats_left most (next shape levels burst) + 1 ≤ beats_left most burst
    by_write false ew = absurd (ended (transfer_of shape levels burst).ends (rw ew refl) open_still)
      where
        ended : (b : Bool) → b ≡ true → IsFalse b → ⊥
        ended b t f = no_true (sym f ∙ t)
    by_write true ew = by_zero (nat_eq burst.left 0) refl
      where
        by_zero : (z : Bool) → nat_eq burst.left 0 ≡ z → beats_left most (next shape levels burst) + 1 ≤ beats_left most burst
        by_zero true ez =
            let one : nat_eq levels.count 1 ≡ false = rw (ew, ez) at open_still in
            let least = some (grind (arith, tests, ez)) in
            let fits = count (grind (arith, tests, ez)) in
            let more : nat_eq (levels.count - 1) 0 ≡ false = grind (arith, tests, one, least) in
            rw (ew, ez, more) (omega (arith, least, fits))
        by_zero false ez =
            let one : nat_eq burst.left 1 ≡ false = rw (ew, ez) at open_still in
            let more : nat_eq (burst.left - 1) 0 ≡ false = grind (arith, tests, one, ez) in
            let there : 1 ≤ burst.left = grind (arith, tests, ez) in
            rw (ew, ez, more) (omega (arith, there))

module _ (port : Port) (good : ℕ → Bool) (end : ℕ) (fit : ShowsFitBeats port end) (more : (c : ℕ) → c < end → IsTrue (shows port.commands.signals c) → (marked_at port c).more ≡ not (marked_at port c).transfer.ends)
    (goes_on : (c : ℕ) → c < end → IsTrue (is_last_joined (taken_at port c)) → IsTrue (good c) → IsTrue (shows port.commands.signals c)) where
  abbrev most : ℕ
  most = longest_burst port.shape.burst_bits

  abbrev burst : ℕ → Burst
  burst c = burst_before port.shape port.commands.signals (takes port) c

  abbrev levels : ℕ → Levels
  levels c = levels_at port.commands.signals c

  after_none : (c : ℕ) → IsFalse (takes port c) → burst (suc c) ≡ burst c
  after_none c none = rw none refl

  after_some : (c : ℕ) → IsTrue (takes port c) → burst (suc c) ≡ next port.shape (levels c) (burst c)
  after_some c some = rw some refl

  left_is_few : (c : ℕ) → c ≤ end → (burst c).left ≤ most
  left_is_few zero low = omega arith
  left_is_few (suc c) low = by_take (takes port c) refl (left_is_few c (omega (arith, low)))
    where
      by_take : (t : Bool) → takes port c ≡ t → (burst c).left ≤ most → (burst (suc c)).left ≤ most
      by_take false e few = subst (λ b. b.left ≤ most) (sym (after_none c e)) few
      by_take true e few = subst (λ b. b.left ≤ most) (sym (after_some c e)) (left_few port.shape most (levels c) (burst c) few (λ free. (fit c (omega (arith, low)) (takes_shows port c e)).most free))

  some_left : (b : Burst) → 1 ≤ beats_left most b
  some_left b = by_zero (nat_eq b.left 0) refl
    where
      by_zero : (z : Bool) → nat_eq b.left 0 ≡ z → 1 ≤ (if z then most else b.left)
      by_zero true e = let pos = pow_pos (port.shape.burst_bits - 1) in omega (arith, pos)
      by_zero false e = grind (arith, tests, e)

  few_left : (b : Burst) → b.left ≤ most → beats_left most b ≤ most
  few_left b few = by_zero (nat_eq b.left 0)
    where
      by_zero : (z : Bool) → (if z then most else b.left) ≤ most
      by_zero true = omega arith
      by_zero false = few

  open_ends : (ends more : Bool) → more ≡ not ends → IsFalse (ends && not more) → IsFalse ends
  open_ends true more e f = let same : not more ≡ true = ap not e in absurd (no_true (sym f ∙ same))
  open_ends false more e f = refl

  pub bursts_have_beats_left : HasStepsLeft port good most (λ c. beats_left most (burst c)) end
  bursts_have_beats_left = record {
    some = λ c low. some_left (burst c);
    few = λ c low. few_left (burst c) (left_is_few c low);
    fewer = λ c low some open_still.
        let shown = takes_shows port c some in
        let is = fit c low shown in
        let ends = open_ends (marked_at port c).transfer.ends (marked_at port c).more (more c low shown) open_still in
        subst (λ b. beats_left most b + 1 ≤ beats_left most (burst c)) (sym (after_some c some)) (left_fewer port.shape most (levels c) (burst c) (left_is_few c (omega (arith, low))) is.most is.least ends);
    stays = λ c low none. subst (λ b. beats_left most b ≤ beats_left most (burst c)) (sym (after_none c none)) (omega arith);
    gaps = λ c low opened quiet fine. absurd (no_both (shows port.commands.signals c) (goes_on c low opened fine) quiet);
  }

-- and behind a wire
pub behind_wire : (up down : Port) (wire : IsWire up down) (good : ℕ → Bool) (most : ℕ) (rest : ℕ → ℕ) (end : ℕ) → HasStepsLeft up good most rest end → HasStepsLeft down good most rest end
behind_wire up down wire good most rest end has = wire_stays up down wire (λ p. HasStepsLeft p good most rest end) (record {
  some = has.some;
  few = has.few;
  fewer = λ c low some open_still. has.fewer c low some (rw (bursts_same down.shape.burst_bits up) at open_still);
  stays = has.stays;
  gaps = λ c low opened quiet fine. has.gaps c low (rw (bursts_same down.shape.burst_bits up) at opened) quiet fine;
})
