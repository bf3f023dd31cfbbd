-- Transfers with an operation, and what is shown after one was accepted.
use Rattle.std.proofs.Common.{ℕ, zero, suc, ◌<◌, ◌≤◌, ◌≡◌, ◌⊎◌, inl, inr, Bool, true, false, not, ◌&&◌, ◌||◌, List, [], ◌∷◌, ◌++◌, arith, refl, sym, ap, ◌∙◌, length, take, map, flat_map, nat_lt, IsTrue, Some, slice_get, length-append}
use Rattle.std.specs.List.{list_any}
use Rattle.std.proofs.lemmas.Bool.{and_parts, true≢false}
use Rattle.std.proofs.Math.Nat.{eq-or-lt_of_le, le_of_suc-le-suc}
use Rattle.histories.specs.History.{only_if, stands_on, is_first, first_shown}
use Rattle.histories.specs.Laws.{before_prefix, before_extends, prefix_length}
use Rattle.memory_runs.specs.Views.{Shape}
use Rattle.memory_runs.specs.Operations.{Beat, Operation, filled_lanes, piece_bytes, operation_at}
use Rattle.memory_runs.specs.Commands.{shows}
use Rattle.memory_machines.specs.Link.{Target, Port, Marked, takes, marked_at, shown_at, beat_operations, operations_in, is_nonempty}
use Rattle.memory_machines.specs.Straight.{has_first_lane}

pub some_in : {A : Type 0} (xs : List A) → is_nonempty xs ≡ true → 0 < length xs
some_in [] h = cc
some_in (x ∷ xs) h = omega arith

pub is_some : {A : Type 0} (xs : List A) → 0 < length xs → is_nonempty xs ≡ true
is_some [] h = absurd (omega (arith, h))
is_some (x ∷ xs) h = refl

some_of : (lanes : List ℕ) (test : ℕ → Bool) (f : ℕ → Operation) (rest : List Operation) → IsTrue (list_any test lanes) → 0 < length (map f lanes ++ rest)
some_of [] test f rest h = cc
some_of (lane ∷ later) test f rest h = omega arith

-- a transfer with a lane in its first word has an operation
pub some_operation : (target : Target) (up down : Shape) (m : Marked) → IsTrue (has_first_lane target up down m) → 0 < length (operations_in target up m)
some_operation target up down m h = by_beats m.transfer.beats h
  where
    first : (a : Bool) → IsTrue (a || false) → IsTrue a
    first true h = refl
    first false h = h

    by_beats : (beats : List Beat) → IsTrue (list_any (λ (b : Beat). list_any (λ lane. nat_lt lane (piece_bytes up down)) (filled_lanes up target.shape b.enables)) (take 1 beats)) →
        0 < length (flat_map (beat_operations target up) beats)
    by_beats [] h = cc
    by_beats (b ∷ later) h = some_of (filled_lanes up target.shape b.enables) (λ lane. nat_lt lane (piece_bytes up down)) (operation_at target.span b) (flat_map (beat_operations target up) later) (first _ h)

-- a beat that is shown after one was accepted was shown first after it
pub shown_later : (shown accepts : ℕ → Bool) (item : ℕ → Marked) (c d : ℕ) → accepts c ≡ true → c < d → shown d ≡ true →
    length (first_shown shown accepts item (suc c)) < length (first_shown shown accepts item (suc d))
shown_later shown accepts item c zero taken later here = absurd (omega arith)
shown_later shown accepts item c (suc d) taken later here = by_test (stands_on shown accepts d) refl (λ less there. shown_later shown accepts item c d taken less there)
  where
    grown : (n : ℕ) → c < n → length (first_shown shown accepts item (suc c)) ≤ length (first_shown shown accepts item n)
    grown n h = prefix_length (before_prefix _ (suc c) n h)

    both : (a b : Bool) → a ≡ true → b ≡ false → (a && not b) ≡ true
    both true false ha hb = refl
    both true true ha hb = sym hb
    both false b ha hb = ha

    by_test : (b : Bool) → stands_on shown accepts d ≡ b → (c < d → shown d ≡ true → length (first_shown shown accepts item (suc c)) < length (first_shown shown accepts item (suc d))) → length (first_shown shown accepts item (suc c)) < length (first_shown shown accepts item (suc (suc d)))
    by_test false e earlier =
        let adds = length-append (first_shown shown accepts item (suc d)) (only_if (is_first shown accepts (suc d)) (item (suc d))) in
        let one : length (only_if (is_first shown accepts (suc d)) (item (suc d))) ≡ 1 = ap (λ t. length (only_if t (item (suc d)))) (both (shown (suc d)) (stands_on shown accepts d) here e) in
        let before = grown (suc d) later in
        omega (arith, adds, one, before)
    by_test true e earlier =
        let parts = and_parts (shown d) (not (accepts d)) e in
        let more = prefix_length (before_extends (λ k. only_if (is_first shown accepts k) (item k)) (suc d)) in
        by_cycle (eq-or-lt_of_le (le_of_suc-le-suc later)) parts more (λ less. earlier less parts.0)
      where
        by_cycle : (c ≡ d) ⊎ (c < d) → (shown d ≡ true) × (not (accepts d) ≡ true) → length (first_shown shown accepts item (suc d)) ≤ length (first_shown shown accepts item (suc (suc d))) →
            (c < d → length (first_shown shown accepts item (suc c)) < length (first_shown shown accepts item (suc d))) → length (first_shown shown accepts item (suc c)) < length (first_shown shown accepts item (suc (suc d)))
        by_cycle (inl same) parts more ih = absurd (true≢false (sym parts.1 ∙ ap (λ k. not (accepts k)) (sym same) ∙ ap not taken))
        by_cycle (inr less) parts more ih = let there = ih less in omega (arith, there, more)

pub front_get : (xs rest : List Marked) (n : ℕ) (x : Marked) → n < length xs → slice_get (xs ++ rest) n ≡ Some x → slice_get xs n ≡ Some x
front_get [] rest n x low g = absurd (omega arith)
front_get (y ∷ ys) rest zero x low g = g
front_get (y ∷ ys) rest (suc n) x low g = front_get ys rest n x (omega arith) g

-- where no beat is shown first after one was accepted, none is shown later
pub only_then : (port : Port) (c d : ℕ) → c ≤ d → IsTrue (takes port c) → length (shown_at port (suc d)) ≡ length (shown_at port (suc c)) → IsTrue (shows port.commands.signals d) → d ≡ c
only_then port c d low takes_it same shows_it =
    elim (eq-or-lt_of_le low) [
      | inl equal ↦ sym equal
      | inr less ↦ let more = shown_later (shows port.commands.signals) (takes port) (marked_at port) c d takes_it less shows_it in absurd (omega (arith, more, same))
    ]
