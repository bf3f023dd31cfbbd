-- A read goes to a place only where all earlier reads of other places are answered.
use Rattle.std.proofs.Common.{ℕ, zero, suc, ◌<◌, ◌≤◌, ◌≡◌, ◌+◌, ◌-◌, [], ◌∷◌, ◌++◌, List, Bool, true, false, not, ◌&&◌, ◌||◌, IsTrue, if◌then◌else◌, nat_lt, nat_eq, arith, refl, sym, ap, ap₂, ◌∙◌, subst, Option, Some, length, map, filter, flat_map, take, slice_get, MatchOption, append_assoc, append-nil, length-append}
use Rattle.std.specs.Bool.{⊤}
use Rattle.std.specs.List.{All}
use Rattle.std.proofs.lemmas.Bool.{and_parts, eqb-true, ltb-true, ltb-false}
use Rattle.std.proofs.lemmas.List.Elements.{All-head, All-tail, All-append, All-cons, All-nil}
use Rattle.histories.specs.History.{IsPrefix, only_if, is_raised}
use Rattle.histories.specs.Laws.{shown_is_accepted_and_standing, before_extends, prefix_length}
use Rattle.memory_runs.specs.Views.{System, Responses, levels_at}
use Rattle.memory_runs.specs.Operations.{is_read}
use Rattle.memory_runs.specs.Commands.{Transfer, shows, is_held, is_of_reads, burst_before}
use Rattle.memory_runs.specs.Order.{Asked, is_agent, place_of, reads_for}
use Rattle.memory_machines.specs.Link.{Port, Marked, takes, marked_at, taken_at, shown_at, AreLegalAt, AnswersAreOwed, words_at}
use Rattle.memory_machines.specs.Lines.{asked_among, asked_at, KeepsReadOrderAt, port_flow, target_of, operations_of_groups, groups_of}
use Rattle.memory_machines.specs.SideLaws.{marked_keeps}
use Rattle.memory_machines.specs.ReadLaws.{AllUniform, uniform_append, of_transfer, for_append, reads_match}
use Rattle.memory_machines.specs.Lines.{AreSingle, OwesBelow}
use Rattle.memory_parts.proofs.RoutePlan.{RoutePlan}
use Rattle.memory_parts.specs.Route.{RouteState, IsRouteMachine, is_same_place}
use Rattle.memory_parts.proofs.RouteTurns.{place, gate, goes, shows_down, same_marked, place_is, inside_at}
use Rattle.memory_parts.proofs.RouteDebts.{same_is}
use Rattle.memory_parts.proofs.RouteLine.{is_placed, retagged, taken_same, legal_below, groups_same, all_from, is_from, IsFrom}
use Rattle.memory_parts.proofs.RouteWords.{Splits, splits_at, asked_append, back_length, early, all_at}

once_shown : {A : Type 0} (s t : Bool) (x : A) → (t ≡ true → s ≡ true) → only_if t x ++ only_if (s && not t) x ≡ only_if s x
once_shown true true x e = refl
once_shown true false x e = refl
once_shown false true x e = let bad = e refl in cc
once_shown false false x e = refl

front_of_take : {A : Type 0} (xs ys : List A) (n : ℕ) → length xs ≤ n → IsPrefix xs (take n (xs ++ ys))
front_of_take [] ys n low = record { rest = _; joins = refl }
front_of_take (x ∷ xs) ys zero low = absurd (omega (arith, low))
front_of_take (x ∷ xs) ys (suc n) low = let p = front_of_take xs ys n (omega (arith, low)) in record { rest = p.rest; joins = ap (λ l. x ∷ l) p.joins }

-- a member of the middle part has what all of it have
record Found (P : Asked → Type 0) (whole : List Asked) (number : ℕ) : Type 0 where
  it : Asked
  at : slice_get whole number ≡ Some it
  has : P it

find_back : (P : Asked → Type 0) (back later : List Asked) (number : ℕ) → number < length back → All P back → Found P (back ++ later) number
find_back P [] later number low all = absurd (omega (arith, low))
find_back P (q ∷ back) later zero low all = record { it = q; at = first q (back ++ later); has = All-head P q back all }
  where
    first : (q : Asked) (l : List Asked) → slice_get (q ∷ l) 0 ≡ Some q
    first q [] = refl
    first q (x ∷ l) = refl
find_back P (q ∷ back) later (suc number) low all = let f = find_back P back later number (omega (arith, low)) (All-tail P q back all) in record { it = f.it; at = f.at; has = f.has }

find : (P : Asked → Type 0) (front back later : List Asked) (number : ℕ) → length front ≤ number → number < length front + length back → All P back → Found P (front ++ (back ++ later)) number
find P [] back later number low high all = find_back P back later number (omega (arith, high)) all
find P (q ∷ front) back later zero low high all = absurd (omega (arith, low))
find P (q ∷ front) back later (suc number) low high all = let f = find P front back later number (omega (arith, low)) (omega (arith, high)) all in record { it = f.it; at = f.at; has = f.has }

none_for : (system : System) (host a : ℕ) (o : Option ℕ) (qs : List Asked) → All (λ (q : Asked). q.place ≡ o) qs → is_agent a o ≡ false → reads_for system host a qs ≡ 0
none_for system host a o [] all e = refl
none_for system host a o (q ∷ qs) all e =
    let here : is_agent a q.place ≡ false = ap (is_agent a) (All-head (λ (q : Asked). q.place ≡ o) q qs all) ∙ e in
    rw here (none_for system host a o qs (All-tail (λ (q : Asked). q.place ≡ o) q qs all) e)

reads_front : (system : System) (host a : ℕ) {xs ys : List Asked} → IsPrefix xs ys → reads_for system host a xs ≤ reads_for system host a ys
reads_front system host a {xs} p = let sum = sym (for_append system host a xs p.rest) ∙ ap (reads_for system host a) p.joins in omega (arith, sum)

module _ (responses : Responses) (system : System) (host room : ℕ) (up : Port) (down : ℕ → Port) (state : RouteState) (end : ℕ) (machine : IsRouteMachine responses system host room up down state end)
    (legal : AreLegalAt up end) (single : AreSingle up end) (plan : RoutePlan system host up.shape) (below : OwesBelow room up end)
    (owed : (a : ℕ) → a < system.agents → AnswersAreOwed (down a) end) where
  abbrev at_place : ℕ → Option ℕ
  at_place c = place responses system host room up down state end machine legal single c

  abbrev is_for : ℕ → ℕ → Bool
  is_for a c = goes responses system host room up down state end machine legal single a c

  abbrev soon : (a : ℕ) → a < system.agents → AnswersAreOwed (down a) (end - 1)
  soon = early responses system host room up down state end machine legal single plan below owed

  abbrev asked_of : List Marked → List Asked
  asked_of ms = asked_among system host (map (λ (m : Marked). m.transfer) ms)

  abbrev for_it : ℕ → List Marked → List Marked
  for_it a xs = map (retagged host) (filter (is_placed system host a up.shape plan) xs)

  -- what has been shown is what was taken before, and the beat of the cycle
  shown_now : (port : Port) (c : ℕ) → AreLegalAt port end → c < end → shown_at port (suc c) ≡ taken_at port c ++ only_if (shows port.commands.signals c) (marked_at port c)
  shown_now port c legal low =
      shown_is_accepted_and_standing _ _ (marked_at port) end (suc c) (marked_keeps port end legal) low
      ∙ append_assoc (taken_at port c) (only_if (takes port c) (marked_at port c)) (only_if (is_held port.commands.signals (takes port) c) (marked_at port c))
      ∙ ap (λ l. taken_at port c ++ l) (once_shown (shows port.commands.signals c) (takes port c) (marked_at port c) (λ t. (and_parts (shows port.commands.signals c) (not (is_raised (port.commands.waitrequest c))) t).0))

  abbrev given_to : ℕ → ℕ → List Marked
  given_to a c = taken_at up c ++ only_if (is_for a c && shows up.commands.signals c) (marked_at up c)

  shown_below : (a c : ℕ) → a < system.agents → c < end → shown_at (down a) (suc c) ≡ for_it a (given_to a c)
  shown_below a c there low =
      shown_now (down a) c (legal_below responses system host room up down state end machine legal single plan below soon a there) low
      ∙ ap₂ (λ l s. l ++ only_if s (marked_at (down a) c)) (taken_same responses system host room up down state end machine legal single plan below soon a c there (omega (arith, low))) (shows_down responses system host room up down state end machine legal single a c there low)
      ∙ ap (λ l. for_it a (taken_at up c) ++ l) (by_both (is_for a c) (shows up.commands.signals c) refl refl)
      ∙ sym (for_both (taken_at up c) (only_if (is_for a c && shows up.commands.signals c) (marked_at up c)))
    where
      for_both : (xs ys : List Marked) → for_it a (xs ++ ys) ≡ for_it a xs ++ for_it a ys
      for_both [] ys = refl
      for_both (x ∷ xs) ys = by_test (is_placed system host a up.shape plan x) (for_both xs ys)
        where
          by_test : (b : Bool) → for_it a (xs ++ ys) ≡ for_it a xs ++ for_it a ys → map (retagged host) (if b then x ∷ filter (is_placed system host a up.shape plan) (xs ++ ys) else filter (is_placed system host a up.shape plan) (xs ++ ys)) ≡ map (retagged host) (if b then x ∷ filter (is_placed system host a up.shape plan) xs else filter (is_placed system host a up.shape plan) xs) ++ for_it a ys
          by_test true ih = ap (λ l. retagged host x ∷ l) ih
          by_test false ih = ih

      by_both : (g s : Bool) → is_for a c ≡ g → shows up.commands.signals c ≡ s → only_if (is_for a c && shows up.commands.signals c) (marked_at (down a) c) ≡ for_it a (only_if (is_for a c && shows up.commands.signals c) (marked_at up c))
      by_both false s g e = rw g refl
      by_both true false g e = rw (g, e) refl
      by_both true true g e =
          let at : is_placed system host a up.shape plan (marked_at up c) ≡ true = ap (is_agent a) (sym (place_is responses system host room up down state end machine legal single c low (inside_at responses system host room up down state end machine legal single c low) e)) ∙ (and_parts (is_agent a (at_place c)) (gate responses system host room up down state end machine legal single c) g).0 in
          ap₂ (λ g s. only_if (g && s) (marked_at (down a) c)) g e ∙ ap (λ x. x ∷ []) (same_marked responses system host room up down state end machine legal single a c there low g)
          ∙ sym (ap₂ (λ g s. for_it a (only_if (g && s) (marked_at up c))) g e ∙ ap (λ b. map (retagged host) (if b then marked_at up c ∷ [] else [])) at)

  uniform_one : (a c : ℕ) (b : Bool) → AllUniform system host a (only_if b (marked_at up c))
  uniform_one a c true = (of_transfer system host a up.shape (levels_at up.commands.signals c) (burst_before up.shape up.commands.signals (takes up) c), tt)
  uniform_one a c false = tt

  uniform_taken : (a c : ℕ) → AllUniform system host a (taken_at up c)
  uniform_taken a zero = tt
  uniform_taken a (suc c) = uniform_append system host a (taken_at up c) (only_if (takes up c) (marked_at up c)) (uniform_taken a c) (uniform_one a c (takes up c))

  from_one : (c : ℕ) (b : Bool) → All IsFrom (only_if b (marked_at up c))
  from_one c b = one b
    where
      one : (b : Bool) → All IsFrom (only_if b (marked_at up c))
      one false = All-nil IsFrom
      one true = All-cons IsFrom (marked_at up c) [] (is_from up c) (All-nil IsFrom)

  -- the read operations that a place has been shown
  reads_shown : (a c : ℕ) → a < system.agents → c < end →
      length (filter is_read (operations_of_groups ((port_flow (target_of system a) (down a)).shown (suc c)))) ≡ reads_for system host a (asked_of (given_to a c))
  reads_shown a c there low =
      ap₂ (λ s l. length (filter is_read (operations_of_groups (groups_of (target_of system a) s l)))) (machine.shapes a there) (shown_below a c there low)
      ∙ ap (λ l. length (filter is_read (operations_of_groups l))) (sym (groups_same system host a up.shape plan (given_to a c) (All-append IsFrom (taken_at up c) (only_if (is_for a c && shows up.commands.signals c) (marked_at up c)) (all_from up (takes up) c) (from_one c (is_for a c && shows up.commands.signals c)))))
      ∙ reads_match system host a (given_to a c) (uniform_append system host a (taken_at up c) (only_if (is_for a c && shows up.commands.signals c) (marked_at up c)) (uniform_taken a c) (uniform_one a c (is_for a c && shows up.commands.signals c)))

  both_asked : (xs ys : List Marked) → asked_of (xs ++ ys) ≡ asked_of xs ++ asked_of ys
  both_asked = asked_append responses system host room up down state end machine legal single plan below owed

  asked_all : (c : ℕ) → c < end → asked_at system host up (suc c) ≡ asked_of (taken_at up c) ++ asked_of (only_if (shows up.commands.signals c) (marked_at up c))
  asked_all c low = ap asked_of (shown_now up c legal low) ∙ both_asked (taken_at up c) (only_if (shows up.commands.signals c) (marked_at up c))

  -- the read beats of the cycle are all for the place of the cycle
  new_place : (c : ℕ) → c < end → (b : Bool) → (b ≡ true → shows up.commands.signals c ≡ true) → All (λ (q : Asked). q.place ≡ at_place c) (asked_of (only_if b (marked_at up c)))
  new_place c low false shown = All-nil (λ (q : Asked). q.place ≡ at_place c)
  new_place c low true shown = by_kind (is_of_reads (marked_at up c).transfer.kind) (sym (place_is responses system host room up down state end machine legal single c low (inside_at responses system host room up down state end machine legal single c low) (shown refl)))
    where
      by_kind : (b : Bool) → place_of system host (marked_at up c).transfer ≡ at_place c → All (λ (q : Asked). q.place ≡ at_place c) (flat_map (λ (t : Transfer). map (λ b. record { place = place_of system host t; beat = b }) t.beats) (if b then (marked_at up c).transfer ∷ [] else []))
      by_kind false at = All-nil (λ (q : Asked). q.place ≡ at_place c)
      by_kind true at = All-append (λ (q : Asked). q.place ≡ at_place c) (map (λ b. record { place = place_of system host (marked_at up c).transfer; beat = b }) (marked_at up c).transfer.beats) [] (all_at responses system host room up down state end machine legal single plan below owed (at_place c) (marked_at up c).transfer at (marked_at up c).transfer.beats) (All-nil (λ (q : Asked). q.place ≡ at_place c))

  -- where another place owes, no read goes to this one
  none_goes : (a c : ℕ) → c < end → 0 < state.owed c → is_agent a (state.owing c) ≡ false → (b : Bool) → (is_for a c && shows up.commands.signals c) ≡ b → reads_for system host a (asked_of (only_if b (marked_at up c))) ≡ 0
  none_goes a c low some other false e = refl
  none_goes a c low some other true e = by_write (is_raised (up.commands.write c)) refl
    where
      parts : (is_for a c ≡ true) × (shows up.commands.signals c ≡ true)
      parts = and_parts (is_for a c) (shows up.commands.signals c) e

      by_write : (w : Bool) → is_raised (up.commands.write c) ≡ w → reads_for system host a (asked_of (marked_at up c ∷ [])) ≡ 0
      by_write true w = rw w refl
      by_write false w =
          let both = and_parts (is_agent a (at_place c)) (gate responses system host room up down state end machine legal single c) parts.0 in
          absurd (shut (nat_eq (state.owed c) 0) (is_same_place (state.owing c) (at_place c)) refl refl (sym (ap (λ w. w || nat_eq (state.owed c) 0 || is_same_place (state.owing c) (at_place c)) w) ∙ both.1) both.0)
        where
          shut : (z s : Bool) → nat_eq (state.owed c) 0 ≡ z → is_same_place (state.owing c) (at_place c) ≡ s → (nat_eq (state.owed c) 0 || is_same_place (state.owing c) (at_place c)) ≡ true → is_agent a (at_place c) ≡ true → ⊥
          shut true s z same gone at = let none = eqb-true (state.owed c) 0 z in omega (arith, none, some)
          shut false true z same gone at = let it = same_is a (state.owing c) (at_place c) same in cc
          shut false false z same gone at = cc

  limited_at : (a c number : ℕ) → a < system.agents → c < end → number < length (asked_at system host up (suc c)) →
      MatchOption (slice_get (asked_at system host up (suc c)) number) ⊤ (λ q. IsTrue (not (is_agent a q.place))) →
      reads_for system host a (take number (asked_at system host up (suc c))) < length (filter is_read (operations_of_groups ((port_flow (target_of system a) (down a)).shown (suc c)))) →
      length (words_at up (suc c)) ≤ number → ⊥
  limited_at a c number there low within other fewer high = by_part (nat_lt number (length (asked_of (taken_at up c)))) refl
    where
      s : Splits responses system host room up down state end machine legal single plan below owed c
      s = splits_at responses system host room up down state end machine legal single plan below owed c low

      later : List Asked
      later = asked_of (only_if (shows up.commands.signals c) (marked_at up c))

      grows : length (words_at up c) ≤ length (words_at up (suc c))
      grows = prefix_length (before_extends _ c)

      whole : asked_at system host up (suc c) ≡ asked_of (taken_at up c) ++ later
      whole = asked_all c low

      count : length (filter is_read (operations_of_groups ((port_flow (target_of system a) (down a)).shown (suc c)))) ≡ reads_for system host a (asked_of (taken_at up c)) + reads_for system host a (asked_of (only_if (is_for a c && shows up.commands.signals c) (marked_at up c)))
      count =
          reads_shown a c there low ∙ ap (reads_for system host a) (both_asked (taken_at up c) (only_if (is_for a c && shows up.commands.signals c) (marked_at up c)))
          ∙ for_append system host a (asked_of (taken_at up c)) (asked_of (only_if (is_for a c && shows up.commands.signals c) (marked_at up c)))

      apart : (q : Asked) → slice_get (asked_at system host up (suc c)) number ≡ Some q → is_agent a q.place ≡ false
      apart q at = lower (is_agent a q.place) (subst (λ o. MatchOption o ⊤ (λ (q : Asked). IsTrue (not (is_agent a q.place)))) at other)
        where
          lower : (b : Bool) → not b ≡ true → b ≡ false
          lower true e = sym e
          lower false e = refl

      by_part : (b : Bool) → nat_lt number (length (asked_of (taken_at up c))) ≡ b → ⊥
      by_part true e =
          let less = ltb-true number (length (asked_of (taken_at up c))) e in
          let joined : asked_of (taken_at up c) ++ later ≡ s.front ++ (s.back ++ later) = ap (λ l. l ++ later) (sym s.joins) ∙ append_assoc s.front s.back later in
          let parts = sym (ap length s.joins) ∙ length-append s.front s.back in
          let size = s.size in
          let from = grows in
          let f = find (λ (q : Asked). q.place ≡ state.owing c) s.front s.back later number (omega (arith, size, from, high)) (omega (arith, less, parts)) s.all in
          let owes : is_agent a (state.owing c) ≡ false = ap (is_agent a) (sym f.has) ∙ apart f.it (ap (λ l. slice_get l number) (whole ∙ joined) ∙ f.at) in
          let some : 0 < state.owed c = (let back = back_length responses system host room up down state end machine legal single plan below owed c low s in omega (arith, back, parts, less, size, from, high)) in
          let none = none_goes a c low some owes (is_for a c && shows up.commands.signals c) refl in
          let split : reads_for system host a (asked_of (taken_at up c)) ≡ reads_for system host a s.front + reads_for system host a s.back = ap (reads_for system host a) (sym s.joins) ∙ for_append system host a s.front s.back in
          let quiet = none_for system host a (state.owing c) s.back s.all owes in
          let front = reads_front system host a (front_of_take s.front (s.back ++ later) number (omega (arith, size, from, high))) in
          let taken : reads_for system host a (take number (asked_at system host up (suc c))) ≡ reads_for system host a (take number (s.front ++ (s.back ++ later))) = ap (λ l. reads_for system host a (take number l)) (whole ∙ joined) in
          let all = count in
          omega (arith, fewer, all, none, split, quiet, front, taken)
      by_part false e =
          let more = ltb-false number (length (asked_of (taken_at up c))) e in
          let sum = ap length whole ∙ length-append (asked_of (taken_at up c)) later in
          let f = find (λ (q : Asked). q.place ≡ at_place c) (asked_of (taken_at up c)) later [] number more (omega (arith, within, sum)) (new_place c low (shows up.commands.signals c) (λ e. e)) in
          let at : slice_get (asked_at system host up (suc c)) number ≡ Some f.it = ap (λ l. slice_get l number) (whole ∙ ap (λ l. asked_of (taken_at up c) ++ l) (sym (append-nil later))) ∙ f.at in
          let off : is_agent a (at_place c) ≡ false = ap (is_agent a) (sym f.has) ∙ apart f.it at in
          let quiet : reads_for system host a (asked_of (only_if (is_for a c && shows up.commands.signals c) (marked_at up c))) ≡ 0 = ap (λ b. reads_for system host a (asked_of (only_if ((b && gate responses system host room up down state end machine legal single c) && shows up.commands.signals c) (marked_at up c)))) off in
          let front = reads_front system host a (front_of_take (asked_of (taken_at up c)) later number more) in
          let taken : reads_for system host a (take number (asked_at system host up (suc c))) ≡ reads_for system host a (take number (asked_of (taken_at up c) ++ later)) = ap (λ l. reads_for system host a (take number l)) whole in
          let all = count in
          omega (arith, fewer, all, quiet, front, taken)

  pub limited : KeepsReadOrderAt system host up down end
  limited a c number there low within other fewer = by_test (nat_lt number (length (words_at up (suc c)))) refl
    where
      by_test : (b : Bool) → nat_lt number (length (words_at up (suc c))) ≡ b → number < length (words_at up (suc c))
      by_test true e = ltb-true number (length (words_at up (suc c))) e
      by_test false e = absurd (limited_at a c number there low within other fewer (ltb-false number (length (words_at up (suc c))) e))
