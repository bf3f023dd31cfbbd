-- A wire is straight and prompt.
use Rattle.std.proofs.Common.{ℕ, zero, suc, ◌<◌, ◌≤◌, ◌≡◌, ◌+◌, List, [], ◌∷◌, ◌++◌, Bool, true, false, not, ◌&&◌, ◌||◌, arith, refl, sym, ap, ◌∙◌, length, length-append, take, slice_get, Some, IsTrue, nat_lt, lt-ltb, le-leb, le_refl, map, flat_map, inl, inr, ◌⊎◌}
use Rattle.std.specs.List.{list_any, list_all}
use Rattle.std.proofs.lemmas.Bool.{and_parts, true≢false}
use Rattle.std.proofs.Math.Nat.{eq-or-lt_of_le, le_of_suc-le-suc}
use Rattle.histories.specs.History.{only_if, stands_on, is_first, first_shown}
use Rattle.histories.specs.Laws.{before_prefix, before_extends, prefix_flat_map, prefix_length}
use Rattle.memory_runs.specs.Views.{Shape}
use Rattle.memory_runs.specs.Operations.{Beat, Operation, filled_lanes, piece_bytes, operation_at}
use Rattle.memory_runs.specs.Commands.{shows, is_of_reads}
use Rattle.memory_machines.specs.Link.{Target, Port, Marked, takes, marked_at, shown_at, taken_at, beat_operations, operations_in, operations_among, closes, is_nonempty}
use Rattle.memory_machines.specs.Straight.{GoesStraightThrough, IsShownPromptly, is_plain, earlier_shown, has_first_lane, begins_alone, may_be_prompt, has_lane, last_command}

pub wire_is_straight : (ahead : ℕ → Bool) (target : Target) (port : Port) (end : ℕ) → GoesStraightThrough ahead target port port end
wire_is_straight ahead target port end = record {
  shown = λ c h same plain next. ((and_parts (shows port.commands.signals c) (is_plain port.shape (earlier_shown port c) (marked_at port c)) plain).0, refl);
  accepted = λ c h same plain next. refl;
  kept = λ c h same plain taken. le-leb _ _ (le_refl _);
}

some_of : (lanes : List ℕ) (test : ℕ → Bool) (f : ℕ → Operation) (rest : List Operation) → IsTrue (list_any test lanes) → 0 < length (map f lanes ++ rest)
some_of [] test f rest h = cc
some_of (lane ∷ later) test f rest h = omega arith

-- a transfer with a lane in its first word has an operation
some_operation : (target : Target) (up down : Shape) (m : Marked) → IsTrue (has_first_lane target up down m) → 0 < length (operations_in target up m)
some_operation target up down m h = by_beats m.transfer.beats h
  where
    first : (a : Bool) → IsTrue (a || false) → IsTrue a
    first true h = refl
    first false h = h

    by_beats : (beats : List Beat) → IsTrue (list_any (λ (b : Beat). list_any (λ lane. nat_lt lane (piece_bytes up down)) (filled_lanes up target.shape b.enables)) (take 1 beats)) →
        0 < length (flat_map (beat_operations target up) beats)
    by_beats [] h = cc
    by_beats (b ∷ later) h = some_of (filled_lanes up target.shape b.enables) (λ lane. nat_lt lane (piece_bytes up down)) (operation_at target.span b) (flat_map (beat_operations target up) later) (first _ h)

-- the transfers before one in a list, and that one, have no more operations than the list
within : (target : Target) (shape : Shape) (ts : List Marked) (number : ℕ) (m : Marked) → slice_get ts number ≡ Some m →
    length (operations_among target shape (take number ts)) + length (operations_in target shape m) ≤ length (operations_among target shape ts)
within target shape [] number m got = cc
within target shape (t ∷ ts) zero m got =
    let same : t ≡ m = cc in
    let all = length-append (operations_in target shape t) (operations_among target shape ts) in
    let one = ap (λ x. length (operations_in target shape x)) same in
    omega (arith, all, one)
within target shape (t ∷ ts) (suc number) m got =
    let rest = within target shape ts number m got in
    let front = length-append (operations_in target shape t) (operations_among target shape (take number ts)) in
    let all = length-append (operations_in target shape t) (operations_among target shape ts) in
    omega (arith, rest, front, all)

-- a beat that is shown after an item was accepted was shown first after it
shown_later : (shown accepts : ℕ → Bool) (item : ℕ → Marked) (c d : ℕ) → accepts c ≡ true → c < d → shown d ≡ true →
    length (first_shown shown accepts item (suc c)) < length (first_shown shown accepts item (suc d))
shown_later shown accepts item c zero taken later here = absurd (omega arith)
shown_later shown accepts item c (suc d) taken later here = by_test (stands_on shown accepts d) refl (λ less there. shown_later shown accepts item c d taken less there)
  where
    grown : (n : ℕ) → c < n → length (first_shown shown accepts item (suc c)) ≤ length (first_shown shown accepts item n)
    grown n h = prefix_length (before_prefix _ (suc c) n h)

    both : (a b : Bool) → a ≡ true → b ≡ false → (a && not b) ≡ true
    both true false ha hb = refl
    both true true ha hb = sym hb
    both false b ha hb = ha

    by_test : (b : Bool) → stands_on shown accepts d ≡ b → (c < d → shown d ≡ true → length (first_shown shown accepts item (suc c)) < length (first_shown shown accepts item (suc d))) → length (first_shown shown accepts item (suc c)) < length (first_shown shown accepts item (suc (suc d)))
    by_test false e earlier =
        let adds = length-append (first_shown shown accepts item (suc d)) (only_if (is_first shown accepts (suc d)) (item (suc d))) in
        let one : length (only_if (is_first shown accepts (suc d)) (item (suc d))) ≡ 1 = ap (λ t. length (only_if t (item (suc d)))) (both (shown (suc d)) (stands_on shown accepts d) here e) in
        let before = grown (suc d) later in
        omega (arith, adds, one, before)
    by_test true e earlier =
        let parts = and_parts (shown d) (not (accepts d)) e in
        let more = prefix_length (before_extends (λ k. only_if (is_first shown accepts k) (item k)) (suc d)) in
        by_cycle (eq-or-lt_of_le (le_of_suc-le-suc later)) parts more (λ less. earlier less parts.0)
      where
        by_cycle : (c ≡ d) ⊎ (c < d) → (shown d ≡ true) × (not (accepts d) ≡ true) → length (first_shown shown accepts item (suc d)) ≤ length (first_shown shown accepts item (suc (suc d))) →
            (c < d → length (first_shown shown accepts item (suc c)) < length (first_shown shown accepts item (suc d))) → length (first_shown shown accepts item (suc c)) < length (first_shown shown accepts item (suc (suc d)))
        by_cycle (inl same) parts more ih = absurd (true≢false (sym parts.1 ∙ ap (λ k. not (accepts k)) (sym same) ∙ ap not taken))
        by_cycle (inr less) parts more ih = let there = ih less in omega (arith, there, more)

pub wire_is_prompt : (few : ℕ) (may_burst : Bool) (target : Target) (port : Port) (end : ℕ) → IsShownPromptly few may_burst target port port end
wire_is_prompt few may_burst target port end = record {
  shown = λ c number m low got begins done.
      let first = (and_parts (begins_alone (take number (shown_at port (suc c))) m && may_be_prompt may_burst m) (has_first_lane target port.shape port.shape m) begins).1 in
      let some = some_operation target port.shape port.shape m first in
      let here = within target port.shape (shown_at port (suc c)) number m got in
      let more = prefix_length (prefix_flat_map (operations_in target port.shape) (before_prefix (λ k. only_if (is_first (shows port.commands.signals) (takes port) k) (marked_at port k)) (suc c) (suc (c + few)) (omega arith))) in
      lt-ltb _ _ (omega (arith, some, here, more));
  empty = λ c d low high empty same shown.
      let takes_it = (and_parts (takes port c) (closes (marked_at port c)) (and_parts (takes port c && closes (marked_at port c)) (list_all (λ n. not (is_of_reads n.transfer.kind) && not (has_lane port.shape n)) (last_command (taken_at port (suc c)))) empty).0).0 in
      let shows_it = (and_parts (shows port.commands.signals d) (not (is_of_reads (marked_at port d).transfer.kind)) (and_parts (shows port.commands.signals d && not (is_of_reads (marked_at port d).transfer.kind)) (not (is_nonempty (operations_in target port.shape (marked_at port d)))) shown).0).0 in
      (only_then c d low takes_it same shows_it, takes_it);
}
  where
    only_then : (c d : ℕ) → c ≤ d → IsTrue (takes port c) → length (shown_at port (suc d)) ≡ length (shown_at port (suc c)) → IsTrue (shows port.commands.signals d) → d ≡ c
    only_then c d low takes_it same shows_it =
        elim (eq-or-lt_of_le low) [
          | inl equal ↦ sym equal
          | inr less ↦ let more = shown_later (shows port.commands.signals) (takes port) (marked_at port) c d takes_it less shows_it in absurd (omega (arith, more, same))
        ]
