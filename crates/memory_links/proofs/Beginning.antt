-- A link that begins below what waits above is prompt. A wire does, and so does a link that hands each beat on in its cycle and holds reads back only while words are owed.
use Rattle.std.proofs.Common.{ℕ, zero, suc, ◌<◌, ◌≤◌, ◌≡◌, ◌+◌, Bool, true, false, not, ◌&&◌, List, [], ◌∷◌, ◌++◌, arith, refl, sym, ap, ap₂, subst, ◌∙◌, length, take, nat_lt, IsTrue, Some, slice_get, append-nil, length-append, ltb-true, ltb-false, lt-ltb, leb-true}
use Rattle.std.specs.List.{list_all}
use Rattle.std.proofs.lemmas.Bool.{and_parts}
use Rattle.std.proofs.lemmas.List.{take-append-le}
use Rattle.std.proofs.lemmas.Grind.{flat_map-append}
use Rattle.histories.specs.History.{only_if, is_first}
use Rattle.histories.specs.Laws.{before_prefix, prefix_flat_map, prefix_length}
use Rattle.memory_runs.specs.Commands.{shows, is_of_reads}
use Rattle.memory_machines.specs.Link.{Target, Port, Marked, AreLegalAt, takes, marked_at, taken_at, shown_at, operations_in, operations_among, is_nonempty, closes, words_at, words_owed}
use Rattle.memory_machines.specs.SideLaws.{taken_is_shown}
use Rattle.memory_machines.specs.Straight.{IsShownPromptly, begins_alone, may_be_prompt, has_first_lane, has_lane, last_command, are_answered, are_taken_below}
use Rattle.memory_links.specs.Begins.{BeginsBelow, shows_first, operations_taken}
use Rattle.memory_links.proofs.Alike.{IsAlike, taken_alike, alike_operations}
use Rattle.memory_links.proofs.InStep.{shown_with, both}
use Rattle.memory_links.proofs.OneBeat.{count_is_one, flat_at}
use Rattle.memory_links.proofs.Prompt.{some_in, is_some, some_operation, front_get, only_then}
use Rattle.memory_links.proofs.Reached.{get_low, get_end, take_front_of, begun_by}

-- ---- what stands

pub record IsFirstShown (may_burst : Bool) (target : Target) (port : Port) (c : ℕ) : Type 0 where
  pub shown : shows port.commands.signals c ≡ true
  pub may : may_be_prompt may_burst (marked_at port c) ≡ true
  pub acts : is_nonempty (operations_in target port.shape (marked_at port c)) ≡ true

pub first_parts : (may_burst : Bool) (target : Target) (port : Port) (c : ℕ) → IsTrue (shows_first may_burst target port c) → IsFirstShown may_burst target port c
first_parts may_burst target port c first =
    let outer = and_parts (shows port.commands.signals c && may_be_prompt may_burst (marked_at port c)) (is_nonempty (operations_in target port.shape (marked_at port c))) first in
    let inner = and_parts (shows port.commands.signals c) (may_be_prompt may_burst (marked_at port c)) outer.0 in
    record { shown = inner.0; may = inner.1; acts = outer.1 }

pub first_from : (may_burst : Bool) (target : Target) (port : Port) (c : ℕ) → IsFirstShown may_burst target port c → IsTrue (shows_first may_burst target port c)
first_from may_burst target port c is = both (both is.shown is.may) is.acts

-- ---- counts of operations

pub taken_one : (target : Target) (port : Port) (c : ℕ) → takes port c ≡ true → operations_taken target port (suc c) ≡ operations_taken target port c + length (operations_in target port.shape (marked_at port c))
taken_one target port c t =
    let whole = ap length (ap (λ b. operations_among target port.shape (taken_at port c ++ only_if b (marked_at port c))) t ∙ flat_map-append (operations_in target port.shape) (taken_at port c) (marked_at port c ∷ []))
    ∙ length-append (operations_among target port.shape (taken_at port c)) (operations_among target port.shape (marked_at port c ∷ [])) in
    let one = length-append (operations_in target port.shape (marked_at port c)) [] in
    omega (arith, whole, one)

pub taken_later : (target : Target) (port : Port) (c d : ℕ) → c ≤ d → operations_taken target port c ≤ operations_taken target port d
taken_later target port c d h = prefix_length (prefix_flat_map (operations_in target port.shape) (before_prefix (λ k. only_if (takes port k) (marked_at port k)) c d h))

pub shown_later : (target : Target) (port : Port) (c d : ℕ) → c ≤ d → length (operations_among target port.shape (shown_at port c)) ≤ length (operations_among target port.shape (shown_at port d))
shown_later target port c d h =
    prefix_length (prefix_flat_map (operations_in target port.shape) (before_prefix (λ k. only_if (is_first (shows port.commands.signals) (takes port) k) (marked_at port k)) c d h))

-- an operation that is shown comes after those that were taken
pub shown_beyond : (target : Target) (port : Port) (end : ℕ) → AreLegalAt port end → (c d : ℕ) → c ≤ d → c < end → shows port.commands.signals c ≡ true → is_nonempty (operations_in target port.shape (marked_at port c)) ≡ true →
    operations_taken target port c < length (operations_among target port.shape (shown_at port (suc d)))
shown_beyond target port end legal c d low h shown acts =
    let whole = ap length (ap (operations_among target port.shape) (shown_with port end legal c h shown) ∙ flat_map-append (operations_in target port.shape) (taken_at port c) (marked_at port c ∷ []))
    ∙ length-append (operations_among target port.shape (taken_at port c)) (operations_among target port.shape (marked_at port c ∷ [])) in
    let one = length-append (operations_in target port.shape (marked_at port c)) [] in
    let some = some_in (operations_in target port.shape (marked_at port c)) acts in
    let more = shown_later target port (suc c) (suc d) (omega (arith, low)) in
    omega (arith, whole, one, some, more)

-- ---- in which cycle a transfer was accepted

record IsTakenIn (port : Port) (c number : ℕ) (m : Marked) (k : ℕ) : Type 0 where
  pub before : k < c
  pub taken : takes port k ≡ true
  pub same : marked_at port k ≡ m
  pub earlier : take number (taken_at port c) ≡ taken_at port k

taken_in : (port : Port) (c number : ℕ) (m : Marked) → slice_get (taken_at port c) number ≡ Some m → (k : ℕ) × IsTakenIn port c number m k
taken_in port zero number m got = cc
taken_in port (suc c) number m got = by_take (takes port c) refl (taken_in port c number m)
  where
    by_take : (t : Bool) → takes port c ≡ t → (slice_get (taken_at port c) number ≡ Some m → (k : ℕ) × IsTakenIn port c number m k) → (k : ℕ) × IsTakenIn port (suc c) number m k
    by_take false t before =
        let same : taken_at port (suc c) ≡ taken_at port c = ap (λ b. taken_at port c ++ only_if b (marked_at port c)) t ∙ append-nil (taken_at port c) in
        let there = before (ap (λ l. slice_get l number) (sym same) ∙ got) in
        let is = there.1 in
        let low = is.before in
        (there.0, record { before = omega (arith, low); taken = is.taken; same = is.same; earlier = ap (take number) same ∙ is.earlier })
    by_take true t before = by_place (nat_lt number (length (taken_at port c))) refl
      where
        whole : taken_at port (suc c) ≡ taken_at port c ++ marked_at port c ∷ []
        whole = ap (λ b. taken_at port c ++ only_if b (marked_at port c)) t

        by_place : (b : Bool) → nat_lt number (length (taken_at port c)) ≡ b → (k : ℕ) × IsTakenIn port (suc c) number m k
        by_place true e =
            let few = ltb-true number (length (taken_at port c)) e in
            let there = before (front_get (taken_at port c) (marked_at port c ∷ []) number m few (ap (λ l. slice_get l number) (sym whole) ∙ got)) in
            let is = there.1 in
            let low = is.before in
            (there.0, record { before = omega (arith, low); taken = is.taken; same = is.same; earlier = ap (take number) whole ∙ take-append-le number (taken_at port c) (marked_at port c ∷ []) (omega (arith, few)) ∙ is.earlier })
        by_place false e =
            let high = ltb-false number (length (taken_at port c)) e in
            let few = get_low (taken_at port (suc c)) number m got in
            let size = ap length whole ∙ length-append (taken_at port c) (marked_at port c ∷ []) in
            let place : number ≡ length (taken_at port c) = omega (arith, high, few, size) in (
              c,
              record {
                before = omega arith;
                taken = t;
                same = get_end (taken_at port c) (marked_at port c) m (ap₂ (λ n l. slice_get l n) (sym place) (sym whole) ∙ got);
                earlier = ap₂ (λ n l. take n l) place whole ∙ take_front_of (taken_at port c) (marked_at port c ∷ []);
              },
            )

-- ---- what begins below is shown promptly

module _ (few : ℕ) (may_burst : Bool) (target : Target) (up down : Port) (end : ℕ) (legal : AreLegalAt up end) (legal_below : AreLegalAt down end) (begins : BeginsBelow few may_burst target up down end) where
  abbrev MayBegin : List Marked → Marked → Type 0
  MayBegin before m = (may_be_prompt may_burst m ≡ true) × (is_nonempty (operations_in target up.shape m) ≡ true)

  -- by the end of a few cycles an operation behind those of these transfers is shown, where those are taken
  abbrev Begun : ℕ → List Marked → Type 0
  Begun c before =
      c + few < end → length (operations_among target up.shape before) ≤ operations_taken target down c → length (operations_among target up.shape before) < length (operations_among target down.shape (shown_at down (suc (c + few))))

  accepted : (c : ℕ) → c < end → (number : ℕ) (m : Marked) → MayBegin (take number (taken_at up (suc c))) m → slice_get (taken_at up (suc c)) number ≡ Some m → Begun c (take number (taken_at up (suc c)))
  accepted c h number m may got low reached =
      let there = taken_in up (suc c) number m got in
      let k = there.0 in
      let is = there.1 in
      let before = is.before in
      let first = first_from may_burst target up k (record {
        shown = (and_parts (shows up.commands.signals k) _ is.taken).0;
        may = ap (may_be_prompt may_burst) is.same ∙ may.0;
        acts = ap (λ (m : Marked). is_nonempty (operations_in target up.shape m)) is.same ∙ may.1;
      }) in
      let got_below = begins.taken k (omega (arith, before, h)) first is.taken in
      let same = ap (λ l. length (operations_among target up.shape l)) is.earlier in
      let more = taken_later target down (suc k) (suc (c + few)) (omega (arith, before)) in
      let shown = prefix_length (prefix_flat_map (operations_in target down.shape) (taken_is_shown down end (suc (c + few)) legal_below (omega (arith, low)))) in
      omega (arith, got_below, same, more, shown)

  stands : (c : ℕ) → c < end → shows up.commands.signals c ≡ true → takes up c ≡ false → MayBegin (taken_at up c) (marked_at up c) → words_owed up c ≤ length (words_at up c) → Begun c (taken_at up c)
  stands c h shown not_taken may given low reached = begins.waits c low (first_from may_burst target up c (record { shown = shown; may = may.0; acts = may.1 })) not_taken reached given

  pub begun_is_shown : IsShownPromptly few may_burst target up down end
  begun_is_shown = record {
    shown = λ c number m low got asked done.
        let earlier = take number (shown_at up (suc c)) in
        let halves = and_parts (begins_alone earlier m && may_be_prompt may_burst m) (has_first_lane target up.shape down.shape m) asked in
        let may = (and_parts (begins_alone earlier m) (may_be_prompt may_burst m) halves.0).1 in
        let ended = and_parts (are_taken_below target up down earlier c) (are_answered up earlier c) done in
        let acts = is_some (operations_in target up.shape m) (some_operation target up.shape down.shape m halves.1) in
        lt-ltb _ _ (begun_by up end legal MayBegin Begun accepted stands c number m (omega (arith, low)) got (may, acts) ended.1 low (leb-true _ _ ended.0));
    empty = λ c d order high empty same shown.
        let closing = (and_parts (takes up c && closes (marked_at up c)) (list_all (λ n. not (is_of_reads n.transfer.kind) && not (has_lane up.shape n)) (last_command (taken_at up (suc c)))) empty).0 in
        let takes_it = (and_parts (takes up c) (closes (marked_at up c)) closing).0 in
        let there = begins.empty d high shown in
        let above = (and_parts (shows up.commands.signals d) (not (is_of_reads (marked_at up d).transfer.kind)) there.0).0 in
        let now : d ≡ c = only_then up c d order takes_it same above in
        (now, subst (λ k. takes down k ≡ true) now (there.1 (subst (λ k. takes up k ≡ true) (sym now) takes_it)));
  }

-- ---- where each write ends its command

pub singles_begin : (few : ℕ) (may_burst : Bool) (target : Target) (up down : Port) (end : ℕ) → ((c : ℕ) → c < end → IsTrue (shows up.commands.signals c) → IsTrue (may_be_prompt false (marked_at up c))) →
    BeginsBelow few false target up down end → BeginsBelow few may_burst target up down end
singles_begin few may_burst target up down end single begins = record {
  taken = λ c h first t. begins.taken c h (as_single c h first) t;
  waits = λ c h first not_taken reached given. begins.waits c h (as_single c (omega (arith, h)) first) not_taken reached given;
  empty = begins.empty;
}
  where
    as_single : (c : ℕ) → c < end → IsTrue (shows_first may_burst target up c) → IsTrue (shows_first false target up c)
    as_single c h first =
        let is = first_parts may_burst target up c first in
        first_from false target up c (record { shown = is.shown; may = single c h is.shown; acts = is.acts })

pub single_ends : (port : Port) (end : ℕ) → AreLegalAt port end → port.shape.burst_bits ≡ 1 → (c : ℕ) → c < end → IsTrue (shows port.commands.signals c) → IsTrue (marked_at port c).transfer.ends
single_ends port end legal one c h shown = ap (λ (m : Marked). m.transfer.ends) (flat_at port end legal (count_is_one port end one legal) c h shown)

-- ---- a wire

pub pass_begins : (few : ℕ) (may_burst : Bool) (target : Target) (port : Port) (end : ℕ) → AreLegalAt port end → BeginsBelow few may_burst target port port end
pass_begins few may_burst target port end legal = record {
  taken = λ c h first t.
      let one = taken_one target port c t in
      let some = some_in (operations_in target port.shape (marked_at port c)) (first_parts may_burst target port c first).acts in
      omega (arith, one, some);
  waits = λ c h first not_taken reached given. (let is = first_parts may_burst target port c first in shown_beyond target port end legal c (c + few) (omega arith) (omega (arith, h)) is.shown is.acts);
  empty = λ c h empty. ((and_parts (shows port.commands.signals c && not (is_of_reads (marked_at port c).transfer.kind)) _ empty).0, λ t. t);
}

-- ---- a gate

module _ (target : Target) (each : Bool) (up down : Port) (lets : ℕ → Bool) (shows_same : (c : ℕ) → shows down.commands.signals c ≡ shows up.commands.signals c && lets c)
    (takes_same : (c : ℕ) → takes down c ≡ takes up c) (end : ℕ) (alike : (c : ℕ) → c < end → shows up.commands.signals c ≡ true → IsAlike target up.shape down.shape each (marked_at up c) (marked_at down c))
    (legal_up : AreLegalAt up end) (legal_down : AreLegalAt down end)
    (shut : (c : ℕ) → c < end → lets c ≡ false → length (words_at up c) < words_owed up c) where
  same_taken : (k : ℕ) → k ≤ end → operations_taken target down k ≡ operations_taken target up k
  same_taken k h = ap length (alike_operations target up.shape down.shape each (taken_at up k) (taken_at down k) (taken_alike target each up down lets shows_same takes_same end alike legal_up legal_down k h))

  pub gate_begins : (few : ℕ) (may_burst : Bool) → BeginsBelow few may_burst target up down end
  gate_begins few may_burst = record {
    taken = λ c h first t.
        let one = taken_one target up c t in
        let some = some_in (operations_in target up.shape (marked_at up c)) (first_parts may_burst target up c first).acts in
        let same = same_taken (suc c) h in
        omega (arith, one, some, same);
    waits = λ c h first not_taken reached given. shown c h (first_parts may_burst target up c first) given (lets c) refl;
    empty = λ c h empty.
        let writes = and_parts (shows down.commands.signals c && not (is_of_reads (marked_at down c).transfer.kind)) _ empty in
        let there = and_parts (shows down.commands.signals c) (not (is_of_reads (marked_at down c).transfer.kind)) writes.0 in
        let above = (and_parts (shows up.commands.signals c) (lets c) (sym (shows_same c) ∙ there.0)).0 in
        (both above (ap (λ k. not (is_of_reads k)) (sym (alike c h above).kind) ∙ there.1), λ t. takes_same c ∙ t);
  }
    where
      shown : (c : ℕ) → c + few < end → IsFirstShown may_burst target up c → words_owed up c ≤ length (words_at up c) → (l : Bool) → lets c ≡ l →
          operations_taken target up c < length (operations_among target down.shape (shown_at down (suc (c + few))))
      shown c h is given false l = let owed = shut c (omega (arith, h)) l in absurd (omega (arith, owed, given))
      shown c h is given true l =
          let there : shows down.commands.signals c ≡ true = shows_same c ∙ ap₂ (λ a b. a && b) is.shown l in
          let beyond = shown_beyond target down end legal_down c (c + few) (omega arith) (omega (arith, h)) there (ap is_nonempty (alike c (omega (arith, h)) is.shown).operations ∙ is.acts) in
          let same = same_taken c (omega (arith, h)) in
          omega (arith, beyond, same)
