-- A link that hands each beat and word on in its cycle passes on all, and a row of one link goes on as the link does: what `AreLinks` asks.
use Rattle.std.proofs.Common.{ℕ, zero, suc, ◌<◌, ◌≤◌, ◌≡◌, ◌+◌, Bool, true, false, [], ◌∷◌, arith, refl, ap, ◌∙◌, IsTrue, IsFalse}
use Rattle.std.proofs.lemmas.Bool.{both_ways}
use Rattle.histories.specs.History.{one_if}
use Rattle.memory_machines.specs.Link.{Target, Port, takes}
use Rattle.memory_links.specs.Going.{Pace, KeepsGoing, GoesOn, RowGoesOn}
use Rattle.memory_links.specs.Going.RowGoesOn.{at_end, further}
use Rattle.memory_links.specs.Passes.{PassesAtOnce}
use Rattle.memory_awake.specs.Slack.{Slack, PassesOn, PassesWhileStill, stirs, brings_next}
use Rattle.memory_awake.specs.Still.{StirsAbove}
use Rattle.memory_awake.specs.Ways.{count_in}
use Rattle.memory_awake.proofs.Stirred.{word_stirs}

pub fewer_in : (f g : ℕ → Bool) (from size : ℕ) → ((c : ℕ) → from ≤ c → c < from + size → IsTrue (f c) → IsTrue (g c)) → count_in f from size ≤ count_in g from size
fewer_in f g from zero so = omega arith
fewer_in f g from (suc size) so =
    let more = fewer_in f g from size (λ c low h. so c low (omega (arith, h))) in
    let last = one_fewer (f (from + size)) (g (from + size)) (so (from + size) (omega arith) (omega arith)) in
    omega (arith, more, last)
  where
    one_fewer : (a b : Bool) → (IsTrue a → IsTrue b) → one_if a ≤ one_if b
    one_fewer false b so = omega arith
    one_fewer true b so = let both = ap one_if (so refl) in omega (arith, both)

pub at_once_passes : (up down : Port) (end : ℕ) → PassesAtOnce up down end → PassesOn (record { hold = 0; kept = 0 }) up down end
at_once_passes up down end passes = record {
  beats = λ from size h. (let fewer = fewer_in (takes up) (takes down) from size (λ c begins low. passes.beats c (omega (arith, h, low))) in omega (arith, fewer));
  words = λ from size h. (let fewer = fewer_in (brings_next up) (brings_next down) from size (λ c begins low. passes.words (suc c) (omega (arith, h, low))) in omega (arith, fewer));
}

pub on_while_still : {slack : Slack} {up down : Port} {end : ℕ} (top : Port) → PassesOn slack up down end → PassesWhileStill slack top up down end
on_while_still top passes = record { beats = λ from size h still. passes.beats from size h; words = λ from size h still. passes.words from size h }

none_in : (f : ℕ → Bool) (from size : ℕ) → ((c : ℕ) → from ≤ c → c < from + size → IsFalse (f c)) → count_in f from size ≡ 0
none_in f from zero none = refl
none_in f from (suc size) none =
    let rest = none_in f from size (λ c low h. none c low (omega (arith, h))) in
    let last = ap one_if (none (from + size) (omega arith) (omega arith)) in
    omega (arith, rest, last)

-- what gathers takes a beat below with each one that it accepts, and its words stir the port above it
pub gather_while_still : (top up down : Port) → ((c : ℕ) → takes down c ≡ takes up c) → (end : ℕ) → StirsAbove top up end → PassesWhileStill (record { hold = 0; kept = 0 }) top up down end
gather_while_still top up down at_once end above = record {
  beats = λ from size h still. (let fewer = fewer_in (takes up) (takes down) from size (λ c begins low t. at_once c ∙ t) in omega (arith, fewer));
  words = λ from size h still. (let none = none_in (brings_next up) from size (λ c begins low. quiet c (omega (arith, low, h)) (still c begins low)) in omega (arith, none));
}
  where
    quiet : (c : ℕ) → c < end → IsFalse (stirs top c) → IsFalse (brings_next up c)
    quiet c h still = by_next (brings_next up c) refl
      where
        by_next : (b : Bool) → brings_next up c ≡ b → IsFalse (brings_next up c)
        by_next false e = e
        by_next true e = absurd (both_ways (stirs top c) still (above c h (word_stirs up c e)))

pub one_goes_on : {target : Target} {end : ℕ} {pace : Pace} {up down : Port} → RowGoesOn target end (pace ∷ []) up down → GoesOn target pace up down end
one_goes_on (further goes at_end) = goes

pub going_alone : {target : Target} {end : ℕ} {pace : Pace} {up down : Port} → RowGoesOn target end (pace ∷ []) up down → (rank : ℕ → ℕ) × KeepsGoing target up down rank pace.largest end
going_alone row = let goes = one_goes_on row in (goes.rank, goes.going)
