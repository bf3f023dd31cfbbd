-- The route machine, told by its two sides alone.
use Rattle.std.proofs.Common.{ℕ, suc, ◌<◌, ◌≡◌, [], ◌∷◌, ◌++◌, List, Bool, true, false, not, ◌&&◌, ◌||◌, IsTrue, nat_lt, nat_eq, length, drop, arith, tests, refl, sym, ap, ap₂, ◌∙◌, subst, if◌then◌else◌, Option, Some, None}
use Rattle.std.specs.List.{All, list_all}
use Rattle.std.proofs.lemmas.Bool.{and_parts}
use Rattle.std.proofs.lemmas.List.Elements.{All-head, All-tail}
use Rattle.histories.specs.History.{is_raised, one_if}
use Rattle.memory_runs.specs.Views.{Responses, System}
use Rattle.memory_runs.specs.Commands.{shows}
use Rattle.memory_runs.specs.Order.{Asked, is_agent}
use Rattle.memory_runs.specs.Awake.{is_place}
use Rattle.memory_machines.specs.Link.{Port, Marked, takes, words_at, AreLegalAt, AnswersAreOwed}
use Rattle.memory_machines.specs.Lines.{AreSingle, OwesBelow}
use Rattle.memory_parts.specs.Queue.{by_option}
use Rattle.memory_parts.specs.Route.{RouteState, IsRouteMachine, is_same_place}
use Rattle.memory_parts.specs.Steps.{IsRoutePart, owed_places, place_shown, is_open, comes, comes_from}
use Rattle.memory_parts.proofs.RoutePlan.{RoutePlan}
use Rattle.memory_parts.proofs.RouteTurns.{place, gate, goes, shows_down, takes_down, taken_open, inside_at, place_is, same_marked, of_agent}
use Rattle.memory_parts.proofs.RouteWords.{Splits, splits_at, back_length, word_few}

some_left : (n : ℕ) (b : Bool) → (nat_eq (suc n) 0 || b) ≡ b
some_left n b = let none : nat_eq (suc n) 0 ≡ false = grind (arith, tests) in ap (λ t. t || b) none

-- the places of a list, and a test of one of them
all_places : (test : Option ℕ → Bool) (p : Option ℕ) (qs : List Asked) → All (λ (q : Asked). q.place ≡ p) qs → list_all (λ (q : Asked). test q.place) qs ≡ (nat_eq (length qs) 0 || test p)
all_places test p [] all = refl
all_places test p (q ∷ later) all = by_rest later refl (all_places test p later (All-tail (λ (q : Asked). q.place ≡ p) q later all)) ∙ sym (some_left (length later) (test p))
  where
    both : (b : Bool) → (b && b) ≡ b
    both true = refl
    both false = refl

    whole : (b : Bool) → (b && true) ≡ b
    whole true = refl
    whole false = refl

    by_rest : (rest : List Asked) → later ≡ rest → list_all (λ (q : Asked). test q.place) later ≡ (nat_eq (length later) 0 || test p) → (test q.place && list_all (λ (q : Asked). test q.place) later) ≡ test p
    by_rest [] e more = ap₂ (λ a b. test a && b) (All-head (λ (q : Asked). q.place ≡ p) q later all) (more ∙ ap (λ l. nat_eq (length l) 0 || test p) e) ∙ whole (test p)
    by_rest (r ∷ rest) e more =
        let same : list_all (λ (q : Asked). test q.place) later ≡ test p = more ∙ ap (λ l. nat_eq (length l) 0 || test p) e ∙ some_left (length rest) (test p) in
        ap₂ (λ a b. test a && b) (All-head (λ (q : Asked). q.place ≡ p) q later all) same ∙ both (test p)

-- two places are one, told either way
same_place : (x y : Option ℕ) → is_same_place x y ≡ is_place y x
same_place None None = refl
same_place None (Some b) = refl
same_place (Some a) None = refl
same_place (Some a) (Some b) = same_number a b
  where
    same_number : (a b : ℕ) → nat_eq a b ≡ nat_eq b a
    same_number a b = grind (arith, tests)

drop_front : {A : Type 0} (xs ys : List A) → drop (length xs) (xs ++ ys) ≡ ys
drop_front [] ys = refl
drop_front (x ∷ xs) ys = drop_front xs ys

module _ (responses : Responses) (system : System) (host room : ℕ) (up : Port) (down : ℕ → Port) (state : RouteState) (end : ℕ) (m : IsRouteMachine responses system host room up down state end)
    (legal : AreLegalAt up end) (single : AreSingle up end) (plan : RoutePlan system host up.shape) (below : OwesBelow room up end)
    (owed : (a : ℕ) → a < system.agents → AnswersAreOwed (down a) end) (legal_below : (a : ℕ) → a < system.agents → AreLegalAt (down a) end) where
  abbrev splits : (c : ℕ) → c < end → Splits responses system host room up down state end m legal single plan below owed c
  splits = splits_at responses system host room up down state end m legal single plan below owed

  abbrev at_place : ℕ → Option ℕ
  at_place c = place responses system host room up down state end m legal single c

  abbrev opens : ℕ → Bool
  opens c = gate responses system host room up down state end m legal single c

  abbrev sends : ℕ → ℕ → Bool
  sends a c = goes responses system host room up down state end m legal single a c

  -- what is owed as a cycle begins
  owed_is : (c : ℕ) (low : c < end) → owed_places system host up c ≡ (splits c low).back
  owed_is c low =
      let s = splits c low in
      ap (λ l. drop (length (words_at up c)) l) (sym s.joins) ∙ ap (λ n. drop n (s.front ++ s.back)) (sym s.size) ∙ drop_front s.front s.back

  owed_length : (c : ℕ) (low : c < end) → length (splits c low).back ≡ state.owed c
  owed_length c low = back_length responses system host room up down state end m legal single plan below owed c low (splits c low)

  shown_place : (c : ℕ) → c < end → IsTrue (shows up.commands.signals c) → at_place c ≡ place_shown system host up c
  shown_place c low shown = place_is responses system host room up down state end m legal single c low (inside_at responses system host room up down state end m legal single c low) shown

  -- the gate is open, told by what is owed
  open_is : (c : ℕ) → c < end → (p : Option ℕ) → at_place c ≡ p → opens c ≡ is_open system host up p c
  open_is c low p at =
      ap (λ q. is_raised (up.commands.write c) || nat_eq (state.owed c) 0 || is_same_place (state.owing c) q) at
      ∙ ap (λ b. is_raised (up.commands.write c) || nat_eq (state.owed c) 0 || b) (same_place (state.owing c) p)
      ∙ or_assoc (is_raised (up.commands.write c)) (nat_eq (state.owed c) 0) (is_place p (state.owing c))
      ∙ ap (λ n. is_raised (up.commands.write c) || (nat_eq n 0 || is_place p (state.owing c))) (sym (owed_length c low))
      ∙ ap (λ b. is_raised (up.commands.write c) || b) (sym (all_places (is_place p) (state.owing c) (splits c low).back (splits c low).all) ∙ ap (list_all (λ (q : Asked). is_place p q.place)) (sym (owed_is c low)))
    where
      or_assoc : (a b c : Bool) → (a || b || c) ≡ (a || (b || c))
      or_assoc true b c = refl
      or_assoc false b c = refl

  at_agent : (a : ℕ) (p : Option ℕ) → IsTrue (is_agent a p) → p ≡ Some a
  at_agent a p e = of_agent a p e

  none_shown : (c : ℕ) → shows up.commands.signals c ≡ false → takes up c ≡ false
  none_shown c e = ap (λ s. s && not (is_raised (up.commands.waitrequest c))) e

  nothing : (b : Bool) → (b && false) ≡ false
  nothing true = refl
  nothing false = refl

  shown : (a c : ℕ) → a < system.agents → c < end → shows (down a).commands.signals c ≡ (shows up.commands.signals c && is_agent a (place_shown system host up c) && is_open system host up (Some a) c)
  shown a c there low = by_shown (shows up.commands.signals c) refl
    where
      swap : (a o : Bool) → ((a && o) && true) ≡ ((true && a) && o)
      swap true true = refl
      swap true false = refl
      swap false o = refl

      by_agent : IsTrue (shows up.commands.signals c) → (b : Bool) → is_agent a (place_shown system host up c) ≡ b → (is_agent a (at_place c) && opens c) ≡ (is_agent a (place_shown system host up c) && is_open system host up (Some a) c)
      by_agent is false e = ap (λ b. b && opens c) (ap (is_agent a) (shown_place c low is) ∙ e) ∙ sym (ap (λ b. b && is_open system host up (Some a) c) e)
      by_agent is true e =
          let at = shown_place c low is ∙ at_agent a (place_shown system host up c) e in
          ap₂ (λ x y. x && y) (ap (is_agent a) (shown_place c low is)) (open_is c low (Some a) at)

      by_shown : (s : Bool) → shows up.commands.signals c ≡ s → shows (down a).commands.signals c ≡ (shows up.commands.signals c && is_agent a (place_shown system host up c) && is_open system host up (Some a) c)
      by_shown false e =
          shows_down responses system host room up down state end m legal single a c there low ∙ ap (λ s. sends a c && s) e ∙ nothing (sends a c)
          ∙ sym (ap (λ s. s && is_agent a (place_shown system host up c) && is_open system host up (Some a) c) e)
      by_shown true e =
          shows_down responses system host room up down state end m legal single a c there low ∙ ap₂ (λ g s. g && s) (by_agent e (is_agent a (place_shown system host up c)) refl) e
          ∙ swap (is_agent a (place_shown system host up c)) (is_open system host up (Some a) c)
          ∙ sym (ap (λ s. s && is_agent a (place_shown system host up c) && is_open system host up (Some a) c) e)

  accepts : (a c : ℕ) → a < system.agents → c < end → IsTrue (is_agent a (place_shown system host up c)) → takes up c ≡ takes (down a) c
  accepts a c there low here = by_take (takes up c) refl
    where
      by_take : (t : Bool) → takes up c ≡ t → takes up c ≡ takes (down a) c
      by_take false e = e ∙ sym (takes_down responses system host room up down state end m legal single a c there low ∙ ap (λ t. t && sends a c) e)
      by_take true e =
          let is = (and_parts (shows up.commands.signals c) (not (is_raised (up.commands.waitrequest c))) e).0 in
          let gone : sends a c ≡ true = ap₂ (λ x y. x && y) (ap (is_agent a) (shown_place c low is) ∙ here) (taken_open responses system host room up down state end m legal single c low e) in
          e ∙ sym (takes_down responses system host room up down state end m legal single a c there low ∙ ap₂ (λ t g. t && g) e gone)

  default : (c : ℕ) → c < end → place_shown system host up c ≡ None → takes up c ≡ (shows up.commands.signals c && is_open system host up None c)
  default c low none = by_shown (shows up.commands.signals c) refl
    where
      twice : (b : Bool) → not (not b || false) ≡ b
      twice true = refl
      twice false = refl

      by_shown : (s : Bool) → shows up.commands.signals c ≡ s → takes up c ≡ (shows up.commands.signals c && is_open system host up None c)
      by_shown false e = none_shown c e ∙ sym (ap (λ s. s && is_open system host up None c) e)
      by_shown true e =
          let at = shown_place c low e ∙ none in
          let wait = m.wait c low ∙ ap (λ p. not (opens c) || by_option p false (λ a. is_raised ((down a).commands.waitrequest c))) at in
          ap (λ w. shows up.commands.signals c && not w) wait ∙ ap (λ b. shows up.commands.signals c && b) (twice (opens c) ∙ open_is c low None at)

  -- a beat that is shown below goes there
  gone : (a c : ℕ) → a < system.agents → c < end → IsTrue (shows (down a).commands.signals c) → sends a c ≡ true
  gone a c there low is = (and_parts (sends a c) (shows up.commands.signals c) (sym (shows_down responses system host room up down state end m legal single a c there low) ∙ is)).0

  words : (c : ℕ) → c < end → is_raised (up.answers.valid c) ≡ comes down c (owed_places system host up c)
  words c low = by_owed (splits c low).back refl (splits c low).all ∙ sym (ap (comes down c) (owed_is c low))
    where
      by_test : (b : Bool) → is_raised (up.answers.valid c) ≡ b → state.owed c ≡ 0 → is_raised (up.answers.valid c) ≡ false
      by_test false e none = e
      by_test true e none =
          let few = word_few responses system host room up down state end m legal single plan below owed c low in
          let one = ap one_if e in
          absurd (omega (arith, few, one, none))

      by_owing : (p : Option ℕ) → state.owing c ≡ p → nat_lt 0 (state.owed c) ≡ true → is_raised (up.answers.valid c) ≡ comes_from down c p
      by_owing None e some = m.valid c low ∙ ap (λ p. by_option p (nat_lt 0 (state.owed c)) (λ a. is_raised ((down a).answers.valid c))) e ∙ some
      by_owing (Some a) e some = m.valid c low ∙ ap (λ p. by_option p (nat_lt 0 (state.owed c)) (λ a. is_raised ((down a).answers.valid c))) e

      by_owed : (qs : List Asked) → (splits c low).back ≡ qs → All (λ (q : Asked). q.place ≡ state.owing c) (splits c low).back → is_raised (up.answers.valid c) ≡ comes down c (splits c low).back
      by_owed [] e all = by_test (is_raised (up.answers.valid c)) refl (sym (owed_length c low) ∙ ap length e) ∙ sym (ap (comes down c) e)
      by_owed (q ∷ later) e all =
          let first = All-head (λ (q : Asked). q.place ≡ state.owing c) q later (subst (All (λ (q : Asked). q.place ≡ state.owing c)) e all) in
          let long = sym (owed_length c low) ∙ ap length e in
          by_owing q.place (sym first) (grind (arith, tests, long)) ∙ sym (ap (comes down c) e)

  pub route_part : IsRoutePart system host up down end
  route_part = record {
    places = λ c a low is at. plan.agents _ _ a at;
    shape = m.shapes;
    shown = shown;
    accepts = accepts;
    default = default;
    same = λ a c there low is. ap (λ (x : Marked). x.transfer) (same_marked responses system host room up down state end m legal single a c there low (gone a c there low is));
    level = λ a c there low is. ap is_raised (m.write a c there low ∙ ap (λ b. if b then up.commands.write c else 0) (gone a c there low is));
    more = λ a c there low is. ap (λ (x : Marked). x.more) (same_marked responses system host room up down state end m legal single a c there low (gone a c there low is));
    words = words;
    owed = owed;
    legal = legal_below;
  }
