-- The route gives each place the beats that are for it, in order, and holds nothing.
use Rattle.std.proofs.Common.{ℕ, zero, suc, ◌<◌, ◌≤◌, ◌≡◌, ◌+◌, ◌-◌, ◌*◌, [], ◌∷◌, ◌++◌, List, Bool, true, false, not, ◌&&◌, ◌||◌, IsTrue, if◌then◌else◌, nat_eq, arith, refl, sym, ap, ap₂, ◌∙◌, subst, Option, Some, length, map, filter, flat_map, le_of_eq}
use Rattle.std.specs.List.{All, list_all}
use Rattle.std.proofs.lemmas.Bool.{and_parts, not-true, eqb-true}
use Rattle.std.proofs.lemmas.List.{map-append}
use Rattle.std.proofs.lemmas.List.Elements.{filter-append, All-head, All-tail, All-append, All-cons, All-nil}
use Rattle.std.proofs.lemmas.List.Folds.{list_all-append}
use Rattle.histories.specs.History.{IsPrefix, before, only_if, is_raised, numbers, total}
use Rattle.histories.specs.Laws.{prefix_refl, prefix_map, prefix_filter, shown_is_accepted_and_standing}
use Rattle.memory_runs.specs.Views.{System, Responses, Shape, Levels, levels_at}
use Rattle.memory_runs.specs.Views.Kind.{Reads, Writes}
use Rattle.memory_runs.specs.Operations.{Beat, operations_of, operation_at, filled_lanes}
use Rattle.memory_runs.specs.Plan.{serves_kind}
use Rattle.memory_runs.specs.Commands.{Burst, shows, is_held, byte_address, read_beat, burst_before}
use Rattle.memory_runs.specs.Order.{beat_operations as placed_operations, is_agent, place_of}
use Rattle.memory_machines.specs.Link.{Port, Marked, takes, marked_at, taken_at, shown_at, closes, AreLegalAt, AnswersAreOwed, beat_operations, is_nonempty}
use Rattle.memory_machines.specs.Lines.{Carries, Group, Sent, HasLanes, HavePlacedLanes, placed_flow, placed, port_flow, target_of, group_of, groups_of, sent_of, sizes_of, items_among}
use Rattle.memory_machines.specs.Machines.{raw_at, IsFitBeat}
use Rattle.memory_machines.specs.SideLaws.{marked_keeps, all_reached}
use Rattle.memory_machines.specs.SideLaws.{fit_when_shown, legal_when_shown}
use Rattle.memory_machines.specs.SideLaws.{prefix_items}
use Rattle.memory_machines.specs.SideLaws.{prefix_within, total_front}
use Rattle.memory_machines.specs.Lines.{AreSingle, OwesBelow, RouteCarriesCommands, serves_at, ServesKinds}
use Rattle.memory_parts.proofs.RoutePlan.{RoutePlan}
use Rattle.memory_parts.specs.Route.{RouteState, IsRouteMachine, is_same_place, kind_at, read_count}
use Rattle.memory_parts.specs.Queue.{takes_read}
use Rattle.memory_parts.proofs.Shared.{IsSameBurst, same_fit}
use Rattle.memory_parts.proofs.RouteTurns.{place, gate, goes, burst_above, burst_below, shows_down, levels_down, takes_down, taken_open, place_is, inside_at, same_burst, same_marked, of_agent}
use Rattle.memory_parts.proofs.RouteDebts.{debts_at, next_owed}

abbrev pub retagged : ℕ → Marked → Marked
retagged host x = record { tag = host; more = x.more; transfer = x.transfer }

flip : (one other : Burst) → IsSameBurst one other → IsSameBurst other one
flip one other same = record { left = sym same.left; all = λ e. sym (same.all (ap (λ n. nat_eq n 0) same.left ∙ e)) }

-- the operations of a beat are told by the word size of its end
same_words : (one other to : Shape) (span : ℕ) (beat : Beat) → one.word_bytes ≡ other.word_bytes → operations_of one to span beat ≡ operations_of other to span beat
same_words one other to span beat e = ap (λ w. map (operation_at span beat) (filled_lanes (record { word_bytes = w; unit_bytes = 0; burst_bits = 0; has_enables = true }) to beat.enables)) e

nonempty_map : {A B : Type 0} (f : A → B) (xs : List A) → is_nonempty (map f xs) ≡ is_nonempty xs
nonempty_map f [] = refl
nonempty_map f (x ∷ xs) = refl

-- the beats of a transfer lie from its first address on
abbrev pub IsFrom : Marked → Type 0
IsFrom x = All (λ (b : Beat). x.transfer.first ≤ b.address) x.transfer.beats

module _ (port : Port) where
  reads_from : (c : ℕ) (xs : List ℕ) → All (λ (b : Beat). byte_address port.shape (port.commands.address c) ≤ b.address) (map (read_beat port.shape (levels_at port.commands.signals c)) xs)
  reads_from c [] = All-nil (λ (b : Beat). byte_address port.shape (port.commands.address c) ≤ b.address)
  reads_from c (x ∷ xs) = All-cons (λ (b : Beat). byte_address port.shape (port.commands.address c) ≤ b.address) (read_beat port.shape (levels_at port.commands.signals c) x) (map (read_beat port.shape (levels_at port.commands.signals c)) xs) (omega arith) (reads_from c xs)

  pub is_from : (c : ℕ) → IsFrom (marked_at port c)
  is_from c = by_kind (is_raised (port.commands.write c)) refl
    where
      one : (first address : ℕ) (beat : Beat) → beat.address ≡ first + address → All (λ (b : Beat). first ≤ b.address) (beat ∷ [])
      one first address beat e = All-cons (λ (b : Beat). first ≤ b.address) beat [] (omega (arith, e)) (All-nil (λ (b : Beat). first ≤ b.address))

      by_kind : (b : Bool) → is_raised (port.commands.write c) ≡ b → IsFrom (marked_at port c)
      by_kind true e = rw e (one _ _ _ refl)
      by_kind false e = rw e (reads_from c (numbers 0 (port.commands.count c)))

  pub all_from : (test : ℕ → Bool) (c : ℕ) → All IsFrom (before (λ c. only_if (test c) (marked_at port c)) c)
  all_from test zero = All-nil IsFrom
  all_from test (suc c) = All-append IsFrom (before (λ c. only_if (test c) (marked_at port c)) c) (only_if (test c) (marked_at port c)) (all_from test c) (one (test c))
    where
      one : (b : Bool) → All IsFrom (only_if b (marked_at port c))
      one false = All-nil IsFrom
      one true = All-cons IsFrom (marked_at port c) [] (is_from c) (All-nil IsFrom)

module _ (system : System) (host a : ℕ) (shape : Shape) (plan : RoutePlan system host shape) where
  abbrev pub is_placed : Marked → Bool
  is_placed x = is_agent a (place_of system host x.transfer)

  beats_same : (beats : List Beat) (first : ℕ) (k : ℕ) → system.base host a ≡ k * (system.agent a).span → system.base host a ≤ first → All (λ (b : Beat). first ≤ b.address) beats →
      flat_map (beat_operations (target_of system a) shape) beats ≡ flat_map (placed_operations system host a) beats
  beats_same [] first k base low all = refl
  beats_same (b ∷ beats) first k base low all =
      let here : first ≤ b.address = All-head (λ (b : Beat). first ≤ b.address) b beats all in
      ap₂ (λ x y. x ++ y) (same_words shape (system.host host).shape (system.agent a).shape (system.agent a).span b plan.words ∙ sym (plan.base_is_free (system.host host).shape (system.agent a).shape (system.agent a).span (system.base host a) k b base (omega arith)))
      (beats_same beats first k base low (All-tail (λ (b : Beat). first ≤ b.address) b beats all))

  -- what the place is given does what the route was asked
  pub groups_same : (xs : List Marked) → All IsFrom xs → placed system host a (sent_of xs) ≡ groups_of (target_of system a) shape (map (retagged host) (filter is_placed xs))
  groups_same [] all = refl
  groups_same (x ∷ xs) all = by_place (is_placed x) refl (groups_same xs (All-tail IsFrom x xs all))
    where
      by_place : (b : Bool) → is_placed x ≡ b → placed system host a (sent_of xs) ≡ groups_of (target_of system a) shape (map (retagged host) (filter is_placed xs)) → placed system host a (sent_of (x ∷ xs)) ≡ groups_of (target_of system a) shape (map (retagged host) (filter is_placed (x ∷ xs)))
      by_place false e ih = rw e ih
      by_place true e ih =
          let at = of_agent a (place_of system host x.transfer) e in
          let base = plan.base x.transfer.kind x.transfer.first a at in
          let same = beats_same x.transfer.beats x.transfer.first base.0 base.1 base.2 (All-head IsFrom x xs all) in
          rw e (ap₂ (λ o l. record { tag = host; operations = o; closes = closes x; beats = length x.transfer.beats } ∷ l) (sym same) ih)

  abbrev acts : Shape → Marked → Bool
  acts shape x = list_all (λ (b : Beat). is_nonempty (beat_operations (target_of system a) shape b)) x.transfer.beats

  placed_acts : (beats : List Beat) → list_all (λ (b : Beat). is_nonempty (placed_operations system host a b)) beats ≡ list_all (λ (b : Beat). is_nonempty (beat_operations (target_of system a) shape b)) beats
  placed_acts [] = refl
  placed_acts (b ∷ beats) =
      ap₂ (λ x y. x && y) (nonempty_map _ (filled_lanes (system.host host).shape (system.agent a).shape b.enables)
      ∙ ap is_nonempty (ap (λ w. filled_lanes (record { word_bytes = w; unit_bytes = 0; burst_bits = 0; has_enables = true }) (system.agent a).shape b.enables) (sym plan.words)) ∙ sym (nonempty_map _ (filled_lanes shape (system.agent a).shape b.enables))) (placed_acts beats)

  pub lanes_same : (xs : List Marked) → list_all (λ (s : Sent). not (is_agent a (place_of system host s.transfer)) || list_all (λ (b : Beat). is_nonempty (placed_operations system host a b)) s.transfer.beats) (sent_of xs) ≡ true →
      list_all (acts shape) (map (retagged host) (filter is_placed xs)) ≡ true
  lanes_same [] all = refl
  lanes_same (x ∷ xs) all =
      let parts = and_parts (not (is_placed x) || list_all (λ (b : Beat). is_nonempty (placed_operations system host a b)) x.transfer.beats) (list_all (λ (s : Sent). not (is_agent a (place_of system host s.transfer)) || list_all (λ (b : Beat). is_nonempty (placed_operations system host a b)) s.transfer.beats) (sent_of xs)) all in
      by_place (is_placed x) refl parts.0 (lanes_same xs parts.1)
    where
      by_place : (b : Bool) → is_placed x ≡ b → (not (is_placed x) || list_all (λ (b : Beat). is_nonempty (placed_operations system host a b)) x.transfer.beats) ≡ true → list_all (acts shape) (map (retagged host) (filter is_placed xs)) ≡ true → list_all (acts shape) (map (retagged host) (filter is_placed (x ∷ xs))) ≡ true
      by_place false e some ih = rw e ih
      by_place true e some ih = rw e (ap₂ (λ p q. p && q) (sym (placed_acts x.transfer.beats) ∙ ap (λ b. not b || list_all (λ (b : Beat). is_nonempty (placed_operations system host a b)) x.transfer.beats) (sym e) ∙ some) ih)

list_front : {A : Type 0} (f : A → Bool) {xs ys : List A} → IsPrefix xs ys → list_all f ys ≡ true → list_all f xs ≡ true
list_front f {xs} {ys} p all = (and_parts (list_all f xs) (list_all f p.rest) (sym (list_all-append f xs p.rest) ∙ ap (list_all f) p.joins ∙ all)).0

module _ (responses : Responses) (system : System) (host room : ℕ) (up : Port) (down : ℕ → Port) (state : RouteState) (end : ℕ) (machine : IsRouteMachine responses system host room up down state end)
    (legal : AreLegalAt up end) (single : AreSingle up end) (plan : RoutePlan system host up.shape) (below : OwesBelow room up end)
    (owed : (a : ℕ) → a < system.agents → AnswersAreOwed (down a) (end - 1)) where
  abbrev at_place : ℕ → Option ℕ
  at_place c = place responses system host room up down state end machine legal single c

  abbrev passes : ℕ → Bool
  passes c = gate responses system host room up down state end machine legal single c

  abbrev is_for : ℕ → ℕ → Bool
  is_for a c = goes responses system host room up down state end machine legal single a c

  abbrev for_it : ℕ → List Marked → List Marked
  for_it a xs = map (retagged host) (filter (is_placed system host a up.shape plan) xs)

  placed_now : (a c : ℕ) → c < end → shows up.commands.signals c ≡ true → is_placed system host a up.shape plan (marked_at up c) ≡ is_agent a (at_place c)
  placed_now a c low shown = ap (is_agent a) (sym (place_is responses system host room up down state end machine legal single c low (inside_at responses system host room up down state end machine legal single c low) shown))

  for_append : (a : ℕ) (xs ys : List Marked) → for_it a (xs ++ ys) ≡ for_it a xs ++ for_it a ys
  for_append a xs ys = ap (map (retagged host)) (filter-append (is_placed system host a up.shape plan) xs ys) ∙ map-append (retagged host) (filter (is_placed system host a up.shape plan) xs) (filter (is_placed system host a up.shape plan) ys)

  pub taken_same : (a c : ℕ) → a < system.agents → c ≤ end → taken_at (down a) c ≡ for_it a (taken_at up c)
  taken_same a zero there low = refl
  taken_same a (suc c) there low = ap₂ (λ x y. x ++ y) (taken_same a c there (omega arith)) (by_all (takes up c) (is_agent a (at_place c)) refl refl) ∙ sym (for_append a (taken_at up c) (only_if (takes up c) (marked_at up c)))
    where
      by_all : (t p : Bool) → takes up c ≡ t → is_agent a (at_place c) ≡ p → only_if (takes (down a) c) (marked_at (down a) c) ≡ for_it a (only_if (takes up c) (marked_at up c))
      by_all false p t e =
          let none : takes (down a) c ≡ false = takes_down responses system host room up down state end machine legal single a c there low ∙ ap (λ b. b && is_for a c) t in
          ap (λ b. only_if b (marked_at (down a) c)) none ∙ sym (ap (λ b. for_it a (only_if b (marked_at up c))) t)
      by_all true false t e =
          let shown = (and_parts (shows up.commands.signals c) (not (is_raised (up.commands.waitrequest c))) t).0 in
          let none : takes (down a) c ≡ false = takes_down responses system host room up down state end machine legal single a c there low ∙ ap₂ (λ x y. x && (y && passes c)) t e in
          let other : is_placed system host a up.shape plan (marked_at up c) ≡ false = placed_now a c low shown ∙ e in
          ap (λ b. only_if b (marked_at (down a) c)) none ∙ sym (ap (λ b. for_it a (only_if b (marked_at up c))) t ∙ ap (λ b. map (retagged host) (if b then marked_at up c ∷ [] else [])) other)
      by_all true true t e =
          let shown = (and_parts (shows up.commands.signals c) (not (is_raised (up.commands.waitrequest c))) t).0 in
          let go : is_for a c ≡ true = ap₂ (λ x y. x && y) e (taken_open responses system host room up down state end machine legal single c low t) in
          let taken : takes (down a) c ≡ true = takes_down responses system host room up down state end machine legal single a c there low ∙ ap₂ (λ x y. x && y) t go in
          let it : is_placed system host a up.shape plan (marked_at up c) ≡ true = placed_now a c low shown ∙ e in
          ap₂ (λ b x. only_if b x) taken (same_marked responses system host room up down state end machine legal single a c there low go) ∙ sym (ap (λ b. for_it a (only_if b (marked_at up c))) t ∙ ap (λ b. map (retagged host) (if b then marked_at up c ∷ [] else [])) it)

  -- a beat that waits at a place waits above, and stays there
  record Waits (a c : ℕ) : Type 0 where
    go : is_for a c ≡ true
    shown : shows up.commands.signals c ≡ true
    none : takes up c ≡ false
    above : is_held up.commands.signals (takes up) c ≡ true

  waits : (a c : ℕ) → a < system.agents → c < end → is_held (down a).commands.signals (takes (down a)) c ≡ true → Waits a c
  waits a c there low held =
      let parts = and_parts (shows (down a).commands.signals c) (not (takes (down a) c)) held in
      let both = and_parts (is_for a c) (shows up.commands.signals c) (sym (shows_down responses system host room up down state end machine legal single a c there low) ∙ parts.0) in
      let none : takes up c ≡ false = not_left (takes up c) (is_for a c) both.0 (sym (takes_down responses system host room up down state end machine legal single a c there low) ∙ not-true (takes (down a) c) parts.1) in
      record { go = both.0; shown = both.1; none = none; above = ap₂ (λ s t. s && not t) both.1 none }
    where
      not_left : (t g : Bool) → g ≡ true → (t && g) ≡ false → t ≡ false
      not_left true true g e = e
      not_left true false g e = sym g
      not_left false g e k = refl

  place_next : (c : ℕ) → suc c < end → takes up c ≡ false → levels_at up.commands.signals c ≡ levels_at up.commands.signals (suc c) → at_place (suc c) ≡ at_place c
  place_next c low none same = by_inside (state.inside c) refl
    where
      by_inside : (b : Bool) → state.inside c ≡ b → at_place (suc c) ≡ at_place c
      by_inside b e =
          let next : state.inside (suc c) ≡ b = machine.stays c low ∙ ap (λ t. if t then is_raised (up.commands.more c) else state.inside c) none ∙ e in
          one b e next
        where
          one : (b : Bool) → state.inside c ≡ b → state.inside (suc c) ≡ b → at_place (suc c) ≡ at_place c
          one true e next = ap (λ t. if t then state.kept (suc c) else system.place host (kind_at up (suc c)) (byte_address up.shape (up.commands.address (suc c)))) next ∙ machine.keeps c low
          one false e next =
              ap (λ t. if t then state.kept (suc c) else system.place host (kind_at up (suc c)) (byte_address up.shape (up.commands.address (suc c)))) next
              ∙ ap (λ (l : Levels). system.place host (if is_raised l.write then Writes else Reads) (byte_address up.shape l.address)) (sym same)
              ∙ sym (ap (λ t. if t then state.kept c else system.place host (kind_at up c) (byte_address up.shape (up.commands.address c))) e)

  gate_next : (c : ℕ) → suc c < end → takes up c ≡ false → levels_at up.commands.signals c ≡ levels_at up.commands.signals (suc c) → passes c ≡ true → passes (suc c) ≡ true
  gate_next c low none same was =
      by_or (is_raised (up.commands.write c)) (nat_eq (state.owed c) 0) (is_same_place (state.owing c) (at_place c)) refl refl refl was
    where
      no_read : takes_read up c ≡ false
      no_read = ap (λ b. b && is_raised (up.commands.read c)) none

      owed_next : state.owed (suc c) ≤ state.owed c
      owed_next =
          let next = next_owed responses system host room up down state end machine legal single plan below owed c low (debts_at responses system host room up down state end machine legal single plan below owed c (omega arith)) in
          let nothing : read_count up c ≡ 0 = ap (λ b. if b then up.commands.count c else 0) no_read in
          omega (arith, next, nothing)

      write_same : is_raised (up.commands.write (suc c)) ≡ is_raised (up.commands.write c)
      write_same = ap (λ (l : Levels). is_raised l.write) (sym same)

      or_middle : (a b c : Bool) → b ≡ true → (a || b || c) ≡ true
      or_middle true b c e = refl
      or_middle false true c e = refl
      or_middle false false c e = cc

      or_last : (a b c : Bool) → c ≡ true → (a || b || c) ≡ true
      or_last true b c e = refl
      or_last false true c e = refl
      or_last false false c e = e

      by_or : (w z s : Bool) → is_raised (up.commands.write c) ≡ w → nat_eq (state.owed c) 0 ≡ z → is_same_place (state.owing c) (at_place c) ≡ s → passes c ≡ true → passes (suc c) ≡ true
      by_or true z s w zz ss was = ap (λ b. b || nat_eq (state.owed (suc c)) 0 || is_same_place (state.owing (suc c)) (at_place (suc c))) (write_same ∙ w)
      by_or false true s w zz ss was =
          let before = eqb-true (state.owed c) 0 zz in
          let fewer = owed_next in
          let now : state.owed (suc c) ≡ 0 = omega (arith, before, fewer) in
          or_middle (is_raised (up.commands.write (suc c))) (nat_eq (state.owed (suc c)) 0) (is_same_place (state.owing (suc c)) (at_place (suc c))) (ap (λ n. nat_eq n 0) now)
      by_or false false true w zz ss was =
          let owes : state.owing (suc c) ≡ state.owing c = machine.owes c low ∙ ap (λ b. if b then at_place c else state.owing c) no_read in
          or_last (is_raised (up.commands.write (suc c))) (nat_eq (state.owed (suc c)) 0) (is_same_place (state.owing (suc c)) (at_place (suc c))) (ap₂ is_same_place owes (place_next c low none same) ∙ ss)
      by_or false false false w zz ss was = let bad : ⊥ = cc in absurd bad

  held_below : (a c : ℕ) → a < system.agents → suc c < end → is_held (down a).commands.signals (takes (down a)) c ≡ true → raw_at (down a) c ≡ raw_at (down a) (suc c)
  held_below a c there low held =
      let w = waits a c there (omega arith) held in
      let levels = legal.legal.held c low w.above in
      let parts = and_parts (is_agent a (at_place c)) (passes c) w.go in
      let on : is_for a (suc c) ≡ true = ap₂ (λ p g. is_agent a p && g) (place_next c low w.none levels) (gate_next c low w.none levels parts.1) ∙ ap (λ b. b && true) parts.0 in
      let one = levels_down responses system host room up down state end machine legal single a c there (omega arith) w.go in
      let other = levels_down responses system host room up down state end machine legal single a (suc c) there low on in
      ap (λ l. record { levels = l; more = (down a).commands.more c; tag = (down a).commands.tag c }) (one ∙ levels ∙ sym other)
      ∙ ap₂ (λ k t. record { levels = levels_at (down a).commands.signals (suc c); more = k; tag = t }) (machine.more a c there (omega arith) ∙ legal.more c low w.above ∙ sym (machine.more a (suc c) there low)) (machine.tag a c there (omega arith) ∙ sym (machine.tag a (suc c) there low))

  -- what is shown to a place is for it
  shown_for : (a c : ℕ) → a < system.agents → c < end → shows (down a).commands.signals c ≡ true → (is_for a c ≡ true) × (shows up.commands.signals c ≡ true)
  shown_for a c there low shown = and_parts (is_for a c) (shows up.commands.signals c) (sym (shows_down responses system host room up down state end machine legal single a c there low) ∙ shown)

  fit_below : (a c : ℕ) → a < system.agents → c < end → shows (down a).commands.signals c ≡ true → IsFitBeat (down a).shape (burst_before (down a).shape (down a).commands.signals (takes (down a)) c) (raw_at (down a) c)
  fit_below a c there low shown =
      let both = shown_for a c there low shown in
      let at = of_agent a (at_place c) (and_parts (is_agent a (at_place c)) (passes c) both.0).0 in
      let above = fit_when_shown up end c legal low both.1 in
      let same = same_burst responses system host room up down state end machine legal single a c there low at in
      let moved = same_fit up.shape (raw_at up c) (burst_above responses system host room up down state end machine legal single c) (burst_below responses system host room up down state end machine legal single a c) (flip _ _ same) above in
      let raw : raw_at (down a) c ≡ record { levels = levels_at up.commands.signals c; more = up.commands.more c; tag = host } =
      ap (λ l. record { levels = l; more = (down a).commands.more c; tag = (down a).commands.tag c }) (levels_down responses system host room up down state end machine legal single a c there low both.0)
      ∙ ap₂ (λ k t. record { levels = levels_at up.commands.signals c; more = k; tag = t }) (machine.more a c there low) (machine.tag a c there low) in
      subst (λ s. IsFitBeat s (burst_below responses system host room up down state end machine legal single a c) (raw_at (down a) c)) (sym (machine.shapes a there))
      (subst (IsFitBeat up.shape (burst_below responses system host room up down state end machine legal single a c)) (sym raw) (record { one_kind = moved.one_kind; least = moved.least; most = moved.most; finished = moved.finished; joined = moved.joined }))

  pub legal_below : (a : ℕ) → a < system.agents → AreLegalAt (down a) end
  legal_below a there = legal_when_shown (down a).shape (down a).commands (down a).answers end (λ c low shown. fit_below a c there low shown) (λ c low held. held_below a c there low held)

  pub shown_front : (a c : ℕ) → a < system.agents → c ≤ end → IsPrefix (shown_at (down a) c) (for_it a (shown_at up c))
  shown_front a zero there low = prefix_refl []
  shown_front a (suc c) there low =
      let under = shown_is_accepted_and_standing _ _ (marked_at (down a)) end (suc c) (marked_keeps (down a) end (legal_below a there)) low in
      let over = shown_is_accepted_and_standing _ _ (marked_at up) end (suc c) (marked_keeps up end legal) low in
      let all : for_it a (shown_at up (suc c)) ≡ for_it a (taken_at up (suc c)) ++ for_it a (only_if (is_held up.commands.signals (takes up) c) (marked_at up c)) = ap (for_it a) over ∙ for_append a (taken_at up (suc c)) (only_if (is_held up.commands.signals (takes up) c) (marked_at up c)) in
      subst (λ l. IsPrefix l (for_it a (shown_at up (suc c)))) (sym (under ∙ ap (λ l. l ++ only_if (is_held (down a).commands.signals (takes (down a)) c) (marked_at (down a) c)) (taken_same a (suc c) there low)))
      (subst (IsPrefix (for_it a (taken_at up (suc c)) ++ only_if (is_held (down a).commands.signals (takes (down a)) c) (marked_at (down a) c))) (sym all) (behind (for_it a (taken_at up (suc c))) (by_held (is_held (down a).commands.signals (takes (down a)) c) refl)))
    where
      behind : (front : List Marked) {xs ys : List Marked} → IsPrefix xs ys → IsPrefix (front ++ xs) (front ++ ys)
      behind [] p = p
      behind (x ∷ front) p = let q = behind front p in record { rest = q.rest; joins = ap (λ l. x ∷ l) q.joins }

      by_held : (b : Bool) → is_held (down a).commands.signals (takes (down a)) c ≡ b → IsPrefix (only_if (is_held (down a).commands.signals (takes (down a)) c) (marked_at (down a) c)) (for_it a (only_if (is_held up.commands.signals (takes up) c) (marked_at up c)))
      by_held false e = subst (λ b. IsPrefix (only_if b (marked_at (down a) c)) (for_it a (only_if (is_held up.commands.signals (takes up) c) (marked_at up c)))) (sym e) (record { rest = _; joins = refl })
      by_held true e =
          let w = waits a c there low e in
          let it : is_placed system host a up.shape plan (marked_at up c) ≡ true = placed_now a c low w.shown ∙ (and_parts (is_agent a (at_place c)) (passes c) w.go).0 in
          let same : for_it a (only_if (is_held up.commands.signals (takes up) c) (marked_at up c)) ≡ marked_at (down a) c ∷ [] =
          ap (λ b. for_it a (only_if b (marked_at up c))) w.above ∙ ap (λ b. map (retagged host) (if b then marked_at up c ∷ [] else [])) it ∙ ap (λ x. x ∷ []) (sym (same_marked responses system host room up down state end machine legal single a c there low w.go)) in
          subst (λ b. IsPrefix (only_if b (marked_at (down a) c)) (for_it a (only_if (is_held up.commands.signals (takes up) c) (marked_at up c)))) (sym e) (subst (IsPrefix (marked_at (down a) c ∷ [])) (sym same) (prefix_refl _))

  groups_front : (a c : ℕ) → a < system.agents → c ≤ end → IsPrefix ((port_flow (target_of system a) (down a)).shown c) ((placed_flow system host a up).shown c)
  groups_front a c there low =
      subst (IsPrefix (groups_of (target_of system a) (down a).shape (shown_at (down a) c))) (sym (groups_same system host a up.shape plan (shown_at up c) (all_from up _ c)))
      (subst (λ s. IsPrefix (groups_of (target_of system a) s (shown_at (down a) c)) (groups_of (target_of system a) up.shape (for_it a (shown_at up c)))) (sym (machine.shapes a there)) (prefix_map (group_of (target_of system a) up.shape) (shown_front a c there low)))

  taken_groups : (a c : ℕ) → a < system.agents → c ≤ end → (placed_flow system host a up).taken c ≡ (port_flow (target_of system a) (down a)).taken c
  taken_groups a c there low =
      groups_same system host a up.shape plan (taken_at up c) (all_from up (takes up) c)
      ∙ ap₂ (λ s l. groups_of (target_of system a) s l) (sym (machine.shapes a there)) (sym (taken_same a c there low))

  carries : (a : ℕ) → a < system.agents → Carries host 0 0 1 (placed_flow system host a up) (port_flow (target_of system a) (down a)) end
  carries a there = record {
    in_order = λ c low.
        let now : c ≡ c - 0 = omega arith in
        subst (λ k. IsPrefix (items_among false ((port_flow (target_of system a) (down a)).shown c)) (items_among false ((placed_flow system host a up).shown k))) now (prefix_items false (groups_front a c there low));
    beats = λ c low. (let few = total_front (prefix_map (λ (g : Group). g.beats) (prefix_filter (λ (g : Group). nat_eq g.tag host) (groups_front a c there low))) in omega (arith, few));
    held = λ c low. le_of_eq (all_reached (sizes_of ((placed_flow system host a up).taken c)) (total (sizes_of ((port_flow (target_of system a) (down a)).taken c))) (le_of_eq (ap (λ l. total (sizes_of l)) (taken_groups a c there low))));
    within = λ c low. prefix_within (prefix_map (λ (g : Group). length g.operations) (groups_front a c there low));
  }

  lanes : (a : ℕ) → a < system.agents → ((c : ℕ) → c ≤ end → HavePlacedLanes system host a (sent_of (shown_at up c))) → HasLanes (target_of system a) (down a) end
  lanes a there have c low = by_has (system.agent a).has_enables refl
    where
      by_has : (b : Bool) → (system.agent a).has_enables ≡ b → IsTrue ((system.agent a).has_enables || list_all (acts system host a up.shape plan (down a).shape) (shown_at (down a) c))
      by_has true has = rw has refl
      by_has false has =
          let all = ap (λ b. b || list_all (λ (s : Sent). not (is_agent a (place_of system host s.transfer)) || list_all (λ (b : Beat). is_nonempty (placed_operations system host a b)) s.transfer.beats) (sent_of (shown_at up c))) (sym has) ∙ have c low in
          rw has (subst (λ s. list_all (acts system host a up.shape plan s) (shown_at (down a) c) ≡ true) (sym (machine.shapes a there))
          (list_front (acts system host a up.shape plan up.shape) (shown_front a c there low) (lanes_same system host a up.shape plan (shown_at up c) all)))

  -- the place has the kind of what it is shown
  kind_of : (c a : ℕ) → c < end → shows up.commands.signals c ≡ true → is_agent a (at_place c) ≡ true → system.place host (marked_at up c).transfer.kind (marked_at up c).transfer.first ≡ Some a
  kind_of c a low shown at = sym (place_is responses system host room up down state end machine legal single c low (inside_at responses system host room up down state end machine legal single c low) shown) ∙ of_agent a (at_place c) at

  kinds : (a : ℕ) → a < system.agents → ServesKinds (system.agent a) (down a) end
  kinds a there c low = by_shown (shows (down a).commands.signals c) refl
    where
      quiet : (r w x y : Bool) → (r || w) ≡ false → ((not r || x) && (not w || y)) ≡ true
      quiet false false x y e = refl
      quiet true w x y e = cc
      quiet false true x y e = cc

      by_shown : (b : Bool) → shows (down a).commands.signals c ≡ b → IsTrue (serves_at (system.agent a) (down a) c)
      by_shown false e = quiet (is_raised ((down a).commands.read c)) (is_raised ((down a).commands.write c)) (system.agent a).has_read (system.agent a).has_write e
      by_shown true e =
          let both = shown_for a c there low e in
          let at = kind_of c a low both.1 (and_parts (is_agent a (at_place c)) (passes c) both.0).0 in
          let serves = plan.serves (marked_at up c).transfer.kind (marked_at up c).transfer.first a at in
          ap (λ (l : Levels). (not (is_raised l.read) || (system.agent a).has_read) && (not (is_raised l.write) || (system.agent a).has_write)) (levels_down responses system host room up down state end machine legal single a c there low both.0)
          ∙ by_kind (is_raised (up.commands.read c)) (is_raised (up.commands.write c)) refl refl (legal.legal.one_kind c low) serves
        where
          by_kind : (r w : Bool) → is_raised (up.commands.read c) ≡ r → is_raised (up.commands.write c) ≡ w → not (is_raised (up.commands.read c) && is_raised (up.commands.write c)) ≡ true → IsTrue (serves_kind (system.agent a) (marked_at up c).transfer.kind) →
              ((not (is_raised (up.commands.read c)) || (system.agent a).has_read) && (not (is_raised (up.commands.write c)) || (system.agent a).has_write)) ≡ true
          by_kind true true r w one serves = let bad : ⊥ = cc in absurd bad
          by_kind true false r w one serves =
              let has : (system.agent a).has_read ≡ true = ap (λ b. serves_kind (system.agent a) (if b then Writes else Reads)) (sym w) ∙ kind_read w serves in
              rw (r, w, has) refl
            where
              kind_read : is_raised (up.commands.write c) ≡ false → IsTrue (serves_kind (system.agent a) (marked_at up c).transfer.kind) → serves_kind (system.agent a) (if is_raised (up.commands.write c) then Writes else Reads) ≡ true
              kind_read w serves = rw w (subst (λ k. serves_kind (system.agent a) k ≡ true) (kind_is w) serves)
                where
                  kind_is : is_raised (up.commands.write c) ≡ false → (marked_at up c).transfer.kind ≡ Reads
                  kind_is w = rw w refl
          by_kind false true r w one serves =
              let has : (system.agent a).has_write ≡ true = subst (λ k. serves_kind (system.agent a) k ≡ true) (kind_is w) serves in
              rw (r, w, has) refl
            where
              kind_is : is_raised (up.commands.write c) ≡ true → (marked_at up c).transfer.kind ≡ Writes
              kind_is w = rw w refl
          by_kind false false r w one serves = rw (r, w) refl

  pub carries_commands : RouteCarriesCommands system host 0 up down end
  carries_commands = record {
    carries = carries;
    legal = legal_below;
    lanes = lanes;
    tag = λ a c there low. machine.tag a c there low;
    joined = λ a c there low shown.
        let both = shown_for a c there low shown in
        plan.joined (marked_at up c).transfer.kind (marked_at up c).transfer.first a (kind_of c a low both.1 (and_parts (is_agent a (at_place c)) (passes c) both.0).0);
    kinds = kinds;
  }
