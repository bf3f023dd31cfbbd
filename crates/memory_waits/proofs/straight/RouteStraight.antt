-- The route, told by its sides: what it shows at a place.
use Rattle.std.proofs.Common.{ℕ, zero, suc, ◌<◌, ◌≤◌, ◌≡◌, ◌+◌, ◌*◌, [], ◌∷◌, ◌++◌, List, Bool, true, false, not, ◌&&◌, ◌||◌, IsTrue, Option, Some, None, nat_lt, nat_le, arith, tests, refl, sym, ap, ap₂, ◌∙◌, subst, length, map, filter, flat_map, take, slice_get, append-nil, length-append}
use Rattle.std.specs.List.{All, list_any, list_all}
use Rattle.std.proofs.lemmas.Bool.{and_parts, ltb-true, ltb-false, eqb-true}
use Rattle.std.proofs.lemmas.List.{drop_all}
use Rattle.std.proofs.lemmas.List.Elements.{filter-append, All-head, All-tail, All-cons, All-nil}
use Rattle.std.proofs.lemmas.Grind.{flat_map-append}
use Rattle.std.proofs.lemmas.Option.{slice_get_within}
use Rattle.histories.specs.History.{KeepsItems, only_if, one_if, is_raised, numbers}
use Rattle.histories.specs.Laws.{before_prefix, prefix_length}
use Rattle.memory_runs.specs.Views.{System, Shape, levels_at}
use Rattle.memory_runs.specs.Operations.{Beat, Operation, operations_of, operation_at, filled_lanes, is_enabled}
use Rattle.memory_runs.specs.Commands.{Transfer, shows, byte_address, read_beat, is_of_reads}
use Rattle.memory_runs.specs.Order.{Asked, beat_operations as placed_operations, from_base, is_agent, place_of, transfer_operations}
use Rattle.memory_runs.specs.Awake.{is_place}
use Rattle.memory_machines.specs.Link.{Port, Marked, AreLegalAt, takes, marked_at, shown_at, taken_at, closes, is_nonempty, beat_operations, operations_in, operations_among, read_beats, words_at}
use Rattle.memory_machines.specs.Lines.{asked_among, target_of}
use Rattle.memory_machines.specs.SideLaws.{marked_keeps}
use Rattle.memory_machines.specs.Straight.{RouteGoesStraightThrough, RouteIsPrompt, earlier_shown, shows_plain, is_plain, route_may_go_on, are_routed, owes_alone, are_answered, operations_for, begins_alone, may_be_prompt, may_burst_to, has_lane, accepts_empty_write, shows_empty_write}
use Rattle.memory_parts.specs.Route.{IsRoutePlan}
use Rattle.memory_parts.specs.Steps.{IsRoutePart, owed_places, place_shown, is_open}
use Rattle.memory_waits.proofs.straight.Lanes.{enabled_is_filled}
use Rattle.memory_waits.proofs.straight.Shown.{shown_is, shown_length, earlier_is, front_is, accepted_more}
use Rattle.memory_waits.specs.Fits.{FitsPieces}

abbrev pub BaseIsFree : Type 0
BaseIsFree = (from to : Shape) (span base k : ℕ) (beat : Beat) → base ≡ k * span → base ≤ beat.address → operations_of from to span (from_base base beat) ≡ operations_of from to span beat

-- the operations of a beat are told by the word size of its end
same_words : (one other to : Shape) (span : ℕ) (beat : Beat) → one.word_bytes ≡ other.word_bytes → operations_of one to span beat ≡ operations_of other to span beat
same_words one other to span beat e = ap (λ w. map (operation_at span beat) (filled_lanes (record { word_bytes = w; unit_bytes = 0; burst_bits = 0; has_enables = true }) to beat.enables)) e

at_agent : (a : ℕ) (place : Option ℕ) → IsTrue (is_agent a place) → place ≡ Some a
at_agent a None e = cc
at_agent a (Some b) e = ap Some (sym (eqb-true a b e))

nonempty_map : {A B : Type 0} (f : A → B) (xs : List A) → is_nonempty (map f xs) ≡ is_nonempty xs
nonempty_map f [] = refl
nonempty_map f (x ∷ xs) = refl

some_length : {A : Type 0} (xs : List A) → is_nonempty xs ≡ true → 0 < length xs
some_length [] some = cc
some_length (x ∷ xs) some = omega arith

-- ---- the beats of a transfer lie from its first address on

abbrev IsFrom : Marked → Type 0
IsFrom x = All (λ (b : Beat). x.transfer.first ≤ b.address) x.transfer.beats

module _ (port : Port) where
  reads_from : (c : ℕ) (xs : List ℕ) → All (λ (b : Beat). byte_address port.shape (port.commands.address c) ≤ b.address) (map (read_beat port.shape (levels_at port.commands.signals c)) xs)
  reads_from c [] = All-nil (λ (b : Beat). byte_address port.shape (port.commands.address c) ≤ b.address)
  reads_from c (x ∷ xs) = All-cons (λ (b : Beat). byte_address port.shape (port.commands.address c) ≤ b.address) (read_beat port.shape (levels_at port.commands.signals c) x) (map (read_beat port.shape (levels_at port.commands.signals c)) xs) (omega arith) (reads_from c xs)

  is_from : (c : ℕ) → IsFrom (marked_at port c)
  is_from c = by_kind (is_raised (port.commands.write c)) refl
    where
      one : (first address : ℕ) (beat : Beat) → beat.address ≡ first + address → All (λ (b : Beat). first ≤ b.address) (beat ∷ [])
      one first address beat e = All-cons (λ (b : Beat). first ≤ b.address) beat [] (omega (arith, e)) (All-nil (λ (b : Beat). first ≤ b.address))

      by_kind : (b : Bool) → is_raised (port.commands.write c) ≡ b → IsFrom (marked_at port c)
      by_kind true e = rw e (one _ _ _ refl)
      by_kind false e = rw e (reads_from c (numbers 0 (port.commands.count c)))

-- ---- words that are owed

asked_length : (system : System) (host : ℕ) (ms : List Marked) → length (asked_among system host (map (λ (m : Marked). m.transfer) ms)) ≡ length (read_beats ms)
asked_length system host [] = refl
asked_length system host (m ∷ ms) = by_test (is_of_reads m.transfer.kind) refl (asked_length system host ms)
  where
    by_test : (b : Bool) → is_of_reads m.transfer.kind ≡ b → length (asked_among system host (map (λ (m : Marked). m.transfer) ms)) ≡ length (read_beats ms) →
        length (asked_among system host (map (λ (m : Marked). m.transfer) (m ∷ ms))) ≡ length (read_beats (m ∷ ms))
    by_test true e ih =
        rw e (length-append (map (λ (b : Beat). record { place = place_of system host m.transfer; beat = b }) m.transfer.beats) (asked_among system host (map (λ (m : Marked). m.transfer) ms))
        ∙ ap₂ (λ x y. x + y) (map_length (λ (b : Beat). record { place = place_of system host m.transfer; beat = b }) m.transfer.beats) ih
        ∙ sym (length-append m.transfer.beats (read_beats ms)))
      where
        map_length : {A B : Type 0} (f : A → B) (xs : List A) → length (map f xs) ≡ length xs
        map_length f [] = refl
        map_length f (x ∷ xs) = ap suc (map_length f xs)
    by_test false e ih = rw e ih

module _ (system : System) (host : ℕ) (up : Port) (down : ℕ → Port) (end : ℕ) (part : IsRoutePart system host up down end)
    (plan : IsRoutePlan system host up.shape) (base_is_free : BaseIsFree) (legal : AreLegalAt up end) where
  keeps : KeepsItems (shows up.commands.signals) (takes up) (marked_at up) end
  keeps = marked_keeps up end legal

  abbrev is_for : ℕ → Marked → Bool
  is_for a m = is_agent a (place_of system host m.transfer)

  -- ---- operations

  beats_same : (a : ℕ) (beats : List Beat) (first k : ℕ) → system.base host a ≡ k * (system.agent a).span → system.base host a ≤ first → All (λ (b : Beat). first ≤ b.address) beats →
      flat_map (beat_operations (target_of system a) up.shape) beats ≡ flat_map (placed_operations system host a) beats
  beats_same a [] first k base low all = refl
  beats_same a (b ∷ beats) first k base low all =
      let here : first ≤ b.address = All-head (λ (b : Beat). first ≤ b.address) b beats all in
      ap₂ (λ x y. x ++ y) (same_words up.shape (system.host host).shape (system.agent a).shape (system.agent a).span b plan.words ∙ sym (base_is_free (system.host host).shape (system.agent a).shape (system.agent a).span (system.base host a) k b base (omega (arith, low, here))))
      (beats_same a beats first k base low (All-tail (λ (b : Beat). first ≤ b.address) b beats all))

  -- what a place is shown does what was asked above
  operations_same : (a c : ℕ) → a < system.agents → c < end → IsTrue (is_for a (marked_at up c)) → shows (down a).commands.signals c ≡ true →
      operations_in (target_of system a) (down a).shape (marked_at (down a) c) ≡ transfer_operations system host a (marked_at up c).transfer
  operations_same a c there low here is =
      let base = plan.base (marked_at up c).transfer.kind (marked_at up c).transfer.first a (at_agent a (place_shown system host up c) here) in
      ap₂ (λ (s : Shape) (t : Transfer). flat_map (beat_operations (target_of system a) s) t.beats) (part.shape a there) (part.same a c there low is)
      ∙ beats_same a (marked_at up c).transfer.beats (marked_at up c).transfer.first base.0 base.1 base.2 (is_from up c)

  abbrev done : ℕ → ℕ → ℕ
  done a c = length (operations_among (target_of system a) (down a).shape (taken_at (down a) c))

  abbrev asked : ℕ → List Marked → ℕ
  asked a ms = operations_for system host a ms

  asked_append : (a : ℕ) (xs ys : List Marked) → asked a (xs ++ ys) ≡ asked a xs + asked a ys
  asked_append a xs ys =
      ap (λ l. length (flat_map (λ (m : Marked). transfer_operations system host a m.transfer) l)) (filter-append (is_for a) xs ys)
      ∙ ap length (flat_map-append (λ (m : Marked). transfer_operations system host a m.transfer) (filter (is_for a) xs) (filter (is_for a) ys))
      ∙ length-append (flat_map (λ (m : Marked). transfer_operations system host a m.transfer) (filter (is_for a) xs)) (flat_map (λ (m : Marked). transfer_operations system host a m.transfer) (filter (is_for a) ys))

  asked_one : (a : ℕ) (m : Marked) → IsTrue (is_for a m) → asked a (m ∷ []) ≡ length (transfer_operations system host a m.transfer)
  asked_one a m e = rw e (ap length (append-nil (transfer_operations system host a m.transfer)))

  asked_none : (a : ℕ) (m : Marked) → is_for a m ≡ false → asked a (m ∷ []) ≡ 0
  asked_none a m e = rw e refl

  among_append : (a : ℕ) (xs ys : List Marked) → length (operations_among (target_of system a) (down a).shape (xs ++ ys)) ≡ length (operations_among (target_of system a) (down a).shape xs) + length (operations_among (target_of system a) (down a).shape ys)
  among_append a xs ys =
      ap length (flat_map-append (operations_in (target_of system a) (down a).shape) xs ys)
      ∙ length-append (operations_among (target_of system a) (down a).shape xs) (operations_among (target_of system a) (down a).shape ys)

  takes_shows : (port : Port) (c : ℕ) → takes port c ≡ true → shows port.commands.signals c ≡ true
  takes_shows port c e = (and_parts (shows port.commands.signals c) (not (is_raised (port.commands.waitrequest c))) e).0

  shown_for : (a c : ℕ) → a < system.agents → c < end → shows (down a).commands.signals c ≡ true → (shows up.commands.signals c ≡ true) × IsTrue (is_for a (marked_at up c))
  shown_for a c there low is =
      let both = and_parts (shows up.commands.signals c && is_agent a (place_shown system host up c)) (is_open system host up (Some a) c) (sym (part.shown a c there low) ∙ is) in
      and_parts (shows up.commands.signals c) (is_agent a (place_shown system host up c)) both.0

  abbrev acts_if : ℕ → ℕ → Bool → ℕ
  acts_if a c b = length (operations_among (target_of system a) (down a).shape (only_if b (marked_at (down a) c)))

  -- what a place has taken does what is accepted for it above
  done_is : (a : ℕ) → a < system.agents → (c : ℕ) → c ≤ end → done a c ≡ asked a (taken_at up c)
  done_is a there zero low = refl
  done_is a there (suc c) low =
      among_append a (taken_at (down a) c) (only_if (takes (down a) c) (marked_at (down a) c))
      ∙ ap₂ (λ x y. x + y) (done_is a there c (omega (arith, low))) (now (is_for a (marked_at up c)) (takes up c) refl refl)
      ∙ sym (asked_append a (taken_at up c) (only_if (takes up c) (marked_at up c)))
    where
      now : (p t : Bool) → is_for a (marked_at up c) ≡ p → takes up c ≡ t → acts_if a c (takes (down a) c) ≡ asked a (only_if (takes up c) (marked_at up c))
      now true true here taken =
          let same : takes (down a) c ≡ true = sym (part.accepts a c there low here) ∙ taken in
          ap (acts_if a c) same ∙ ap length (append-nil (operations_in (target_of system a) (down a).shape (marked_at (down a) c)))
          ∙ ap length (operations_same a c there low here (takes_shows (down a) c same))
          ∙ sym (ap (λ b. asked a (only_if b (marked_at up c))) taken ∙ asked_one a (marked_at up c) here)
      now true false here taken =
          ap (acts_if a c) (sym (part.accepts a c there low here) ∙ taken) ∙ sym (ap (λ b. asked a (only_if b (marked_at up c))) taken)
      now false t here taken = ap (acts_if a c) (by_take (takes (down a) c) refl) ∙ sym (none t taken)
        where
          by_take : (b : Bool) → takes (down a) c ≡ b → takes (down a) c ≡ false
          by_take false e = e
          by_take true e = let other = (shown_for a c there low (takes_shows (down a) c e)).1 in let bad : ⊥ = cc in absurd bad

          none : (t : Bool) → takes up c ≡ t → asked a (only_if (takes up c) (marked_at up c)) ≡ 0
          none true e = ap (λ b. asked a (only_if b (marked_at up c))) e ∙ asked_none a (marked_at up c) here
          none false e = ap (λ b. asked a (only_if b (marked_at up c))) e

  -- ---- the gate

  answered_opens : (a c : ℕ) → IsTrue (are_answered up (taken_at up c) c) → is_open system host up (Some a) c ≡ true
  answered_opens a c all =
      let few : length (read_beats (taken_at up c)) ≤ length (words_at up c) = grind (arith, tests, all) in
      let none : owed_places system host up c ≡ [] = drop_all (length (words_at up c)) (asked_among system host (map (λ (m : Marked). m.transfer) (taken_at up c))) (let long = asked_length system host (taken_at up c) in omega (arith, long, few)) in
      ap (λ l. is_raised (up.commands.write c) || list_all (λ (q : Asked). is_place (Some a) q.place) l) none ∙ or_true (is_raised (up.commands.write c))
    where
      or_true : (b : Bool) → (b || true) ≡ true
      or_true true = refl
      or_true false = refl

  alone_opens : (a c : ℕ) → IsTrue (owes_alone system host a up (taken_at up c) c) → is_open system host up (Some a) c ≡ true
  alone_opens a c alone = ap (λ b. is_raised (up.commands.write c) || b) alone ∙ or_true (is_raised (up.commands.write c))
    where
      or_true : (b : Bool) → (b || true) ≡ true
      or_true true = refl
      or_true false = refl

  goes : (a c : ℕ) → a < system.agents → c < end → shows up.commands.signals c ≡ true → IsTrue (is_for a (marked_at up c)) → is_open system host up (Some a) c ≡ true → shows (down a).commands.signals c ≡ true
  goes a c there low is here open_now = part.shown a c there low ∙ ap₂ (λ s o. s && is_agent a (place_shown system host up c) && o) is open_now ∙ ap (λ b. (true && b) && true) here

  is_there : (a c : ℕ) → c < end → shows up.commands.signals c ≡ true → IsTrue (is_for a (marked_at up c)) → a < system.agents
  is_there a c low is here = part.places c a low is (at_agent a (place_shown system host up c) here)

  -- ---- straight

  record GoesOn (a c : ℕ) : Type 0 where
    shown_above : shows up.commands.signals c ≡ true
    here : IsTrue (is_for a (marked_at up c))
    opened : is_open system host up (Some a) c ≡ true

  goes_on : (a c : ℕ) → c < end → IsTrue (route_may_go_on system host a up down c) → GoesOn a c
  goes_on a c low may =
      let first = and_parts (shows_plain up c && is_agent a (place_of system host (marked_at up c).transfer) && are_routed system host a down (earlier_shown up c) c) (owes_alone system host a up (earlier_shown up c) c || are_answered up (earlier_shown up c) c) may in
      let second = and_parts (shows_plain up c && is_agent a (place_of system host (marked_at up c).transfer)) (are_routed system host a down (earlier_shown up c) c) first.0 in
      let third = and_parts (shows_plain up c) (is_agent a (place_of system host (marked_at up c).transfer)) second.0 in
      let is = (and_parts (shows up.commands.signals c) (is_plain up.shape (earlier_shown up c) (marked_at up c)) third.0).0 in
      let earlier : earlier_shown up c ≡ taken_at up c = earlier_is (shows up.commands.signals) (takes up) (marked_at up) end keeps c low is in
      record {
        shown_above = is;
        here = third.1;
        opened = by_alone (owes_alone system host a up (taken_at up c) c) refl (subst (λ l. (owes_alone system host a up l c || are_answered up l c) ≡ true) earlier first.1);
      }
    where
      by_alone : (b : Bool) → owes_alone system host a up (taken_at up c) c ≡ b → (owes_alone system host a up (taken_at up c) c || are_answered up (taken_at up c) c) ≡ true → is_open system host up (Some a) c ≡ true
      by_alone true e either = alone_opens a c e
      by_alone false e either = answered_opens a c (ap (λ b. b || are_answered up (taken_at up c) c) (sym e) ∙ either)

  pub route_straight : (a : ℕ) → RouteGoesStraightThrough system host a up down end
  route_straight a = record {
    shown = λ c low may.
        let g = goes_on a c low may in
        let there = is_there a c low g.shown_above g.here in
        let is = goes a c there low g.shown_above g.here g.opened in
        (is, operations_same a c there low g.here is);
    accepted = λ c low may.
        let g = goes_on a c low may in
        part.accepts a c (is_there a c low g.shown_above g.here) low g.here;
  }

  -- ---- prompt

  -- a first beat with a lane has an operation at its place
  first_acts : (a : ℕ) → FitsPieces (system.host host).shape (system.agent a).shape → (m : Marked) → IsTrue (has_lane up.shape (record m { transfer = record m.transfer { beats = take 1 m.transfer.beats } })) →
      0 < length (transfer_operations system host a m.transfer)
  first_acts a fits m lane = by_beats m.transfer.beats (ap (λ w. list_any (λ (b : Beat). list_any (is_enabled b.enables) (numbers 0 w)) (take 1 m.transfer.beats)) (sym plan.words) ∙ lane)
    where
      or_none : (b : Bool) → (b || false) ≡ b
      or_none true = refl
      or_none false = refl

      front_longer : (xs ys : List Operation) → 0 < length xs → 0 < length (xs ++ ys)
      front_longer xs ys some = let sum = length-append xs ys in omega (arith, sum, some)

      by_beats : (beats : List Beat) → list_any (λ (b : Beat). list_any (is_enabled b.enables) (numbers 0 (system.host host).word_bytes)) (take 1 beats) ≡ true → 0 < length (flat_map (placed_operations system host a) beats)
      by_beats [] some = cc
      by_beats (b ∷ beats) some =
          let enabled : list_any (is_enabled b.enables) (numbers 0 (system.host host).word_bytes) ≡ true = sym (or_none (list_any (is_enabled b.enables) (numbers 0 (system.host host).word_bytes))) ∙ some in
          front_longer (placed_operations system host a b) (flat_map (placed_operations system host a) beats)
          (some_length (placed_operations system host a b) (nonempty_map _ (filled_lanes (system.host host).shape (system.agent a).shape b.enables) ∙ enabled_is_filled (system.host host).shape (system.agent a).shape b.enables fits enabled))

  -- one that is accepted has done more than those before it
  asked_past : (a : ℕ) (xs : List Marked) (number : ℕ) (m : Marked) → slice_get xs number ≡ Some m → IsTrue (is_for a m) → 0 < length (transfer_operations system host a m.transfer) → asked a (take number xs) < asked a xs
  asked_past a [] number m there here some = cc
  asked_past a (x ∷ xs) zero m there here some =
      let same : x ≡ m = cc in
      let sum = asked_append a (x ∷ []) xs in
      let one = ap (λ y. asked a (y ∷ [])) same ∙ asked_one a m here in
      let none : asked a (take 0 (x ∷ xs)) ≡ 0 = refl in
      omega (arith, sum, one, some, none)
  asked_past a (x ∷ xs) (suc number) m there here some =
      let rest = asked_past a xs number m there here some in
      let sum = asked_append a (x ∷ []) xs in
      let front = asked_append a (x ∷ []) (take number xs) in
      omega (arith, rest, sum, front)

  module _ (legal_below : (a : ℕ) → a < system.agents → AreLegalAt (down a) end) where
    at_once : (a : ℕ) → FitsPieces (system.host host).shape (system.agent a).shape → a < system.agents → (c number : ℕ) (m : Marked) → c < end → slice_get (shown_at up (suc c)) number ≡ Some m → IsTrue (is_for a m) →
        IsTrue (has_lane up.shape (record m { transfer = record m.transfer { beats = take 1 m.transfer.beats } })) →
        IsTrue (are_answered up (take number (shown_at up (suc c))) c) →
        asked a (take number (shown_at up (suc c))) < length (operations_among (target_of system a) (down a).shape (shown_at (down a) (suc c)))
    at_once a fits there c number m low got here lane all = by_number (nat_lt number (length (taken_at up c))) refl
      where
        acts : 0 < length (transfer_operations system host a m.transfer)
        acts = first_acts a fits m lane

        -- all that is taken is shown, and what is shown now
        below : length (operations_among (target_of system a) (down a).shape (shown_at (down a) (suc c))) ≡ done a c + acts_if a c (shows (down a).commands.signals c)
        below = ap (λ l. length (operations_among (target_of system a) (down a).shape l)) (shown_is (shows (down a).commands.signals) (takes (down a)) (marked_at (down a)) end (marked_keeps (down a) end (legal_below a there)) c low) ∙ among_append a (taken_at (down a) c) _

        front_same : (xs ys : List Marked) (n : ℕ) → n < length xs → take n (xs ++ ys) ≡ take n xs
        front_same [] ys n few = absurd (omega (arith, few))
        front_same (x ∷ xs) ys zero few = refl
        front_same (x ∷ xs) ys (suc n) few = ap (λ l. x ∷ l) (front_same xs ys n (omega (arith, few)))

        get_same : (xs ys : List Marked) (n : ℕ) → n < length xs → slice_get (xs ++ ys) n ≡ slice_get xs n
        get_same [] ys n few = absurd (omega (arith, few))
        get_same (x ∷ xs) ys zero few = refl
        get_same (x ∷ xs) ys (suc n) few = get_same xs ys n (omega (arith, few))

        get_last : (xs : List Marked) (y : Marked) → slice_get (xs ++ y ∷ []) (length xs) ≡ Some y
        get_last [] y = refl
        get_last (x ∷ xs) y = get_last xs y

        shown : shown_at up (suc c) ≡ taken_at up c ++ only_if (shows up.commands.signals c) (marked_at up c)
        shown = shown_is (shows up.commands.signals) (takes up) (marked_at up) end keeps c low

        by_number : (b : Bool) → nat_lt number (length (taken_at up c)) ≡ b → asked a (take number (shown_at up (suc c))) < length (operations_among (target_of system a) (down a).shape (shown_at (down a) (suc c)))
        by_number true e =
            let few = ltb-true number (length (taken_at up c)) e in
            let past = asked_past a (taken_at up c) number m (sym (get_same (taken_at up c) _ number few) ∙ sym (ap (λ l. slice_get l number) shown) ∙ got) here acts in
            let front = ap (asked a) (ap (take number) shown ∙ front_same (taken_at up c) _ number few) in
            let sum = below in
            let same = done_is a there c (omega (arith, low)) in
            omega (arith, past, front, sum, same)
        by_number false e = by_shown (shows up.commands.signals c) refl
          where
            long : length (shown_at up (suc c)) ≡ length (taken_at up c) + one_if (shows up.commands.signals c)
            long = shown_length (shows up.commands.signals) (takes up) (marked_at up) end keeps c low

            within : number < length (shown_at up (suc c))
            within = slice_get_within (shown_at up (suc c)) number m got

            past : length (taken_at up c) ≤ number
            past = grind (arith, tests, e)

            by_shown : (s : Bool) → shows up.commands.signals c ≡ s → asked a (take number (shown_at up (suc c))) < length (operations_among (target_of system a) (down a).shape (shown_at (down a) (suc c)))
            by_shown false is = let none = long ∙ ap (λ b. length (taken_at up c) + one_if b) is in let low = within in let high = past in absurd (omega (arith, none, low, high))
            by_shown true is =
                let one = long ∙ ap (λ b. length (taken_at up c) + one_if b) is in
                let few = within in
                let high = past in
                let at : number ≡ length (taken_at up c) = omega (arith, one, few, high) in
                let whole : shown_at up (suc c) ≡ taken_at up c ++ marked_at up c ∷ [] = shown ∙ ap (λ b. taken_at up c ++ only_if b (marked_at up c)) is in
                let it : Some m ≡ Some (marked_at up c) = sym got ∙ ap₂ slice_get whole at ∙ get_last (taken_at up c) (marked_at up c) in
                let own : m ≡ marked_at up c = cc in
                let placed : IsTrue (is_for a (marked_at up c)) = subst (λ x. IsTrue (is_for a x)) own here in
                let front : take number (shown_at up (suc c)) ≡ taken_at up c = ap (λ n. take n (shown_at up (suc c))) at ∙ front_is (shows up.commands.signals) (takes up) (marked_at up) end keeps c low in
                let gone = goes a c there low is placed (answered_opens a c (subst (λ l. IsTrue (are_answered up l c)) front all)) in
                let sum = below ∙ ap (λ b. done a c + acts_if a c b) gone in
                let added = ap length (append-nil (operations_in (target_of system a) (down a).shape (marked_at (down a) c)) ∙ operations_same a c there low placed gone) in
                let some = subst (λ (x : Marked). 0 < length (transfer_operations system host a x.transfer)) own acts in
                let before_it = ap (asked a) front in
                let same = done_is a there c (omega (arith, low)) in
                omega (arith, sum, added, some, before_it, same)

    plus_none : (n : ℕ) → n + 0 ≡ n
    plus_none n = omega arith

    -- after an acceptance nothing is shown until more is presented
    shown_later : (c d : ℕ) → c < d → d < end → takes up c ≡ true → length (shown_at up (suc d)) ≡ length (shown_at up (suc c)) → shows up.commands.signals d ≡ false
    shown_later c d later low taken same = by_shown (shows up.commands.signals d) refl
      where
        by_shown : (b : Bool) → shows up.commands.signals d ≡ b → shows up.commands.signals d ≡ false
        by_shown false e = e
        by_shown true e =
            let at_c = shown_length (shows up.commands.signals) (takes up) (marked_at up) end keeps c (omega (arith, later, low)) ∙ ap (λ b. length (taken_at up c) + one_if b) (takes_shows up c taken) in
            let at_d = shown_length (shows up.commands.signals) (takes up) (marked_at up) end keeps d low ∙ ap (λ b. length (taken_at up d) + one_if b) e in
            let more = accepted_more (shows up.commands.signals) (takes up) (marked_at up) end keeps c ∙ ap (λ b. length (taken_at up c) + one_if b) taken in
            let grows = prefix_length (before_prefix (λ c. only_if (takes up c) (marked_at up c)) (suc c) d later) in
            absurd (omega (arith, at_c, at_d, more, grows, same))

    pub route_prompt : (a : ℕ) → FitsPieces (system.host host).shape (system.agent a).shape → RouteIsPrompt 0 system host a up down end
    route_prompt a fits = record {
      shown = λ c number m low got here may all.
          let now : c < end = omega (arith, low) in
          let lane = (and_parts (begins_alone (take number (shown_at up (suc c))) m && may_be_prompt (may_burst_to system host a) m) (has_lane up.shape (record m { transfer = record m.transfer { beats = take 1 m.transfer.beats } })) may).1 in
          let answered = (and_parts (list_all (λ b. nat_le (operations_for system host b (take number (shown_at up (suc c)))) (length (operations_among (target_of system b) (down b).shape (taken_at (down b) c)))) (numbers 0 system.agents)) (are_answered up (take number (shown_at up (suc c))) c) all).1 in
          subst (λ n. asked a (take number (shown_at up (suc c))) < length (operations_among (target_of system a) (down a).shape (shown_at (down a) (suc n)))) (sym (plus_none c))
          (at_once a fits (plan.agents m.transfer.kind m.transfer.first a (at_agent a (place_of system host m.transfer) here)) c number m now got here lane answered);
      empty = λ c d order low accepted same here empty.
          let taken = first_of_two c accepted in
          let there = is_there a c (omega (arith, order, low)) (takes_shows up c taken) here in
          by_order a c d there taken order low same here (first_shown a d empty) (nat_lt c d) refl;
    }
      where
        first_of_two : (c : ℕ) → IsTrue (accepts_empty_write up c) → takes up c ≡ true
        first_of_two c e = (and_parts (takes up c) (closes (marked_at up c)) (and_parts (takes up c && closes (marked_at up c)) _ e).0).0

        first_shown : (a d : ℕ) → IsTrue (shows_empty_write (target_of system a) (down a) d) → shows (down a).commands.signals d ≡ true
        first_shown a d e = (and_parts (shows (down a).commands.signals d) _ (and_parts (shows (down a).commands.signals d && _) _ e).0).0

        by_order : (a c d : ℕ) → a < system.agents → takes up c ≡ true → c ≤ d → d < end → length (shown_at up (suc d)) ≡ length (shown_at up (suc c)) → IsTrue (is_for a (marked_at up c)) → shows (down a).commands.signals d ≡ true →
            (b : Bool) → nat_lt c d ≡ b → (d ≡ c) × IsTrue (takes (down a) c)
        by_order a c d there taken order low same here is true e =
            let none = shown_later c d (ltb-true c d e) low taken same in
            let above = (shown_for a d there low is).0 in
            let bad : ⊥ = cc in
            absurd bad
        by_order a c d there taken order low same here is false e =
            (let few = ltb-false c d e in omega (arith, few, order), sym (part.accepts a c there (omega (arith, order, low)) here) ∙ taken)
