-- Two straight links in a row are straight where they go in step.
use Rattle.std.proofs.Common.{ℕ, zero, suc, ◌<◌, ◌≡◌, ◌-◌, Bool, true, false, not, ◌&&◌, ◌||◌, [], ◌∷◌, ◌++◌, arith, refl, sym, ap, ap₂, subst, ◌∙◌, length, take, nat_eq, IsTrue, append-nil, length-append, le-leb, leb-true}
use Rattle.std.specs.List.{list_all}
use Rattle.std.proofs.lemmas.Bool.{and_parts, eqb-true, eq-eqb}
use Rattle.histories.specs.History.{only_if, standing}
use Rattle.histories.specs.Laws.{shown_is_accepted_and_standing}
use Rattle.memory_runs.specs.Commands.{shows, is_held}
use Rattle.memory_machines.specs.Link.{Target, Port, Marked, AreLegalAt, AnswersAreOwed, takes, marked_at, taken_at, shown_at, operations_in, operations_among, is_nonempty, closes, is_last_joined}
use Rattle.memory_machines.specs.SideLaws.{marked_keeps}
use Rattle.memory_machines.specs.Straight.{GoesStraightThrough, shows_plain, begins_alone, has_lane, earlier_shown, are_answered, are_just_taken, is_plain}
use Rattle.memory_links.specs.Links.{LinkForm, IsLink}
use Rattle.memory_links.specs.InStep.{is_next, GoesInStep, AreInStep}
use Rattle.memory_links.proofs.Chain.{middle_legal, middle_owed}
use Rattle.memory_links.proofs.Reached.{take_front_of}

-- what a side has shown, with the beat that it shows
pub shown_with : (port : Port) (end : ℕ) → AreLegalAt port end → (c : ℕ) → c < end → shows port.commands.signals c ≡ true → shown_at port (suc c) ≡ taken_at port c ++ marked_at port c ∷ []
shown_with port end legal c h shown =
    shown_is_accepted_and_standing (shows port.commands.signals) (takes port) (marked_at port) end (suc c) (marked_keeps port end legal) h ∙ by_take (takes port c) refl
  where
    by_take : (t : Bool) → takes port c ≡ t → taken_at port (suc c) ++ only_if (is_held port.commands.signals (takes port) c) (marked_at port c) ≡ taken_at port c ++ marked_at port c ∷ []
    by_take true t =
        ap₂ (λ b s. (taken_at port c ++ only_if b (marked_at port c)) ++ only_if (s && not b) (marked_at port c)) t shown ∙ append-nil (taken_at port c ++ marked_at port c ∷ [])
    by_take false t =
        ap₂ (λ b s. (taken_at port c ++ only_if b (marked_at port c)) ++ only_if (s && not b) (marked_at port c)) t shown ∙ ap (λ l. l ++ marked_at port c ∷ []) (append-nil (taken_at port c))

-- what stands before the beat that is shown was accepted before
pub earlier_is : (port : Port) (end : ℕ) → AreLegalAt port end → (c : ℕ) → c < end → shows port.commands.signals c ≡ true → earlier_shown port c ≡ taken_at port c
earlier_is port end legal c h shown =
    let whole = shown_with port end legal c h shown in
    let size = ap length whole ∙ length-append (taken_at port c) (marked_at port c ∷ []) in
    let back : length (shown_at port (suc c)) - 1 ≡ length (taken_at port c) = omega (arith, size) in
    ap₂ (λ n l. take n l) back whole ∙ take_front_of (taken_at port c) (marked_at port c ∷ [])

pub both : {a b : Bool} → IsTrue a → IsTrue b → IsTrue (a && b)
both p q = ap₂ (λ a b. a && b) p q

-- what a plain command is that is shown
pub record IsShownPlain (port : Port) (c : ℕ) : Type 0 where
  pub shown : IsTrue (shows port.commands.signals c)
  pub begins : IsTrue (marked_at port c).transfer.begins
  pub alone : IsTrue (not (is_last_joined (earlier_shown port c)))
  pub ends : IsTrue (marked_at port c).transfer.ends
  pub closing : IsTrue (not (marked_at port c).more)
  pub one : IsTrue (nat_eq (length (marked_at port c).transfer.beats) 1)
  pub lane : IsTrue (has_lane port.shape (marked_at port c))

pub plain_parts : (port : Port) (c : ℕ) → IsTrue (shows_plain port c) → IsShownPlain port c
plain_parts port c plain =
    let m = marked_at port c in
    let earlier = earlier_shown port c in
    let outer = and_parts (shows port.commands.signals c) (is_plain port.shape earlier m) plain in
    let lanes = and_parts (begins_alone earlier m && closes m && nat_eq (length m.transfer.beats) 1) (has_lane port.shape m) outer.1 in
    let ones = and_parts (begins_alone earlier m && closes m) (nat_eq (length m.transfer.beats) 1) lanes.0 in
    let ends = and_parts (begins_alone earlier m) (closes m) ones.0 in
    let begins = and_parts m.transfer.begins (not (is_last_joined earlier)) ends.0 in
    let last = and_parts m.transfer.ends (not m.more) ends.1 in
    record { shown = outer.0; begins = begins.0; alone = begins.1; ends = last.0; closing = last.1; one = ones.1; lane = lanes.1 }

pub plain_from : (port : Port) (c : ℕ) → IsShownPlain port c → IsTrue (shows_plain port c)
plain_from port c p = both p.shown (both (both (both (both p.begins p.alone) (both p.ends p.closing)) p.one) p.lane)

pub record IsNext (ahead : Bool) (target : Target) (up down : Port) (c : ℕ) : Type 0 where
  pub plain : IsTrue (shows_plain up c)
  pub acts : IsTrue (is_nonempty (operations_in target up.shape (marked_at up c)))
  pub all : length (operations_among target down.shape (taken_at down c)) ≡ length (operations_among target up.shape (earlier_shown up c))
  pub given : IsTrue (ahead || are_answered up (earlier_shown up c) c)

as_next : (ahead : Bool) (target : Target) (up down : Port) (c : ℕ) → IsNext ahead target up down c → IsTrue (is_next ahead target up down c)
as_next ahead target up down c next = both (both next.plain next.acts) (both (eq-eqb _ _ next.all) next.given)

pub of_next : (ahead : Bool) (target : Target) (up down : Port) (c : ℕ) → IsTrue (is_next ahead target up down c) → IsNext ahead target up down c
of_next ahead target up down c next =
    let counts = nat_eq (length (operations_among target down.shape (taken_at down c))) (length (operations_among target up.shape (earlier_shown up c))) in
    let halves = and_parts (shows_plain up c && is_nonempty (operations_in target up.shape (marked_at up c))) (counts && (ahead || are_answered up (earlier_shown up c) c)) next in
    let shown = and_parts (shows_plain up c) (is_nonempty (operations_in target up.shape (marked_at up c))) halves.0 in
    let done = and_parts counts (ahead || are_answered up (earlier_shown up c) c) halves.1 in
    record { plain = shown.0; acts = shown.1; all = eqb-true _ _ done.0; given = done.1 }

-- a link that goes in step has just taken all that comes before a plain command
just : (ahead : Bool) (target : Target) (up down : Port) (end : ℕ) → AreLegalAt down end → GoesInStep ahead target up down end → (c : ℕ) → c < end → IsTrue (is_next ahead target up down c) →
    IsTrue (are_just_taken target up down (earlier_shown up c) c)
just ahead target up down end legal step c h next = both (eq-eqb _ _ (of_next ahead target up down c next).all) (stands c h (step.full c h next))
  where
    has : Marked → Bool
    has m = is_nonempty (operations_in target down.shape m)

    stands : (c : ℕ) → c < end → (IsTrue (shows down.commands.signals c) → IsTrue (is_nonempty (operations_in target down.shape (marked_at down c)))) →
        IsTrue (list_all (λ m. is_nonempty (operations_in target down.shape m)) (standing (shows down.commands.signals) (takes down) (marked_at down) c))
    stands zero h full = refl
    stands (suc c) h full = by_held (is_held down.commands.signals (takes down) c) refl
      where
        by_held : (b : Bool) → is_held down.commands.signals (takes down) c ≡ b → IsTrue (list_all (λ m. is_nonempty (operations_in target down.shape m)) (only_if b (marked_at down c)))
        by_held false e = refl
        by_held true e =
            let kept = (marked_keeps down end legal).held c h e in
            both (ap (λ m. is_nonempty (operations_in target down.shape m)) kept.1 ∙ full kept.0) refl

module _ (ahead : Bool) (target : Target) (up middle down : Port) (end : ℕ) (legal : AreLegalAt up end) (legal_there : AreLegalAt middle end) (legal_below : AreLegalAt down end)
    (both_step : AreInStep ahead target up middle down end)
    (one : up.shape.word_bytes ≡ middle.shape.word_bytes → GoesStraightThrough (λ c. ahead) target up middle end) where
  -- where a plain command is next for both links, it is so for each of them
  first_next : (c : ℕ) → c < end → IsNext ahead target up down c → IsNext ahead target up middle c
  first_next c h next =
      let above = both_step.first.accepts c (omega arith) in
      let below = both_step.second.accepts c (omega arith) in
      let earlier = ap (λ l. length (operations_among target up.shape l)) (earlier_is up end legal c h (plain_parts up c next.plain).shown) in
      let all = next.all in
      record { plain = next.plain; acts = next.acts; all = omega (arith, above, below, earlier, all); given = next.given }

  may_go : (a : Port) (b : Port) → GoesInStep ahead target a b end → AreLegalAt b end → (c : ℕ) → c < end → IsNext ahead target a b c →
      IsTrue (are_just_taken target a b (earlier_shown a c) c && (ahead || are_answered a (earlier_shown a c) c))
  may_go a b step legal c h next = both (just ahead target a b end legal step c h (as_next ahead target a b c next)) next.given

  second_next : (c : ℕ) → c < end → up.shape.word_bytes ≡ middle.shape.word_bytes → IsNext ahead target up down c → IsNext ahead target middle down c
  second_next c h same next =
      let above = first_next c h next in
      let plain = both_step.first.plain c h (as_next ahead target up middle c above) in
      let there = (one same).shown c h same next.plain (may_go up middle both_step.first legal_there c h above) in
      let earlier = earlier_is middle end legal_there c h there.0 in
      record {
        plain = plain;
        acts = ap is_nonempty there.1 ∙ next.acts;
        all = next.all ∙ sym above.all ∙ sym (ap (λ l. length (operations_among target middle.shape l)) earlier);
        given = by_ahead ahead next.given earlier;
      }
    where
      by_ahead : (a : Bool) → IsTrue (a || are_answered up (earlier_shown up c) c) → earlier_shown middle c ≡ taken_at middle c → IsTrue (a || are_answered middle (earlier_shown middle c) c)
      by_ahead true given earlier = refl
      by_ahead false given earlier =
          let here = subst (λ l. IsTrue (are_answered up l c)) (earlier_is up end legal c h (plain_parts up c next.plain).shown) given in
          subst (λ l. IsTrue (are_answered middle l c)) (sym earlier) (both_step.first.quiet c (omega (arith, h)) here)

  of_row : (c : ℕ) → c < end → IsTrue (shows_plain up c) → IsTrue (are_just_taken target up down (earlier_shown up c) c && (ahead || are_answered up (earlier_shown up c) c)) → IsNext ahead target up down c
  of_row c h plain may =
      let parts = and_parts (are_just_taken target up down (earlier_shown up c) c) (ahead || are_answered up (earlier_shown up c) c) may in
      let taken = and_parts (nat_eq (length (operations_among target down.shape (taken_at down c))) (length (operations_among target up.shape (earlier_shown up c))))
      (list_all (λ m. is_nonempty (operations_in target down.shape m)) (standing (shows down.commands.signals) (takes down) (marked_at down) c)) parts.0 in
      record { plain = plain; acts = both_step.acts c h plain; all = eqb-true _ _ taken.0; given = parts.1 }

  pub row_is_straight : GoesStraightThrough (λ c. ahead) target middle down end → GoesStraightThrough (λ c. ahead) target up down end
  row_is_straight two = record {
    shown = λ c h same plain may.
        let next = of_row c h plain may in
        let as_up = sym (both_step.words same) in
        let above = first_next c h next in
        let below = second_next c h as_up next in
        let there = (one as_up).shown c h as_up plain (may_go up middle both_step.first legal_there c h above) in
        let here = two.shown c h (both_step.words same ∙ same) below.plain (may_go middle down both_step.second legal_below c h below) in
        (here.0, here.1 ∙ there.1);
    accepted = λ c h same plain may.
        let next = of_row c h plain may in
        let as_up = sym (both_step.words same) in
        let above = first_next c h next in
        let below = second_next c h as_up next in
        (one as_up).accepted c h as_up plain (may_go up middle both_step.first legal_there c h above)
        ∙ two.accepted c h (both_step.words same ∙ same) below.plain (may_go middle down both_step.second legal_below c h below);
    kept = λ c h same plain taken.
        let as_up = sym (both_step.words same) in
        let there = both_step.first.at_once c h plain taken in
        let above = leb-true _ _ ((one as_up).kept c h as_up plain taken) in
        let below = leb-true _ _ (two.kept c h (both_step.words same ∙ same) there.0 there.1) in
        le-leb _ _ (omega (arith, above, below));
  }

  -- and the row goes in step too
  pub row_is_in_step : up.shape.word_bytes ≡ middle.shape.word_bytes → GoesInStep ahead target up down end
  row_is_in_step as_up = record {
    accepts = λ c h. (let above = both_step.first.accepts c h in let below = both_step.second.accepts c h in omega (arith, above, below));
    full = λ c h next shown. both_step.second.full c h (as_next ahead target middle down c (second_next c h as_up (of_next ahead target up down c next))) shown;
    plain = λ c h next. both_step.second.plain c h (as_next ahead target middle down c (second_next c h as_up (of_next ahead target up down c next)));
    at_once = λ c h plain taken. (let there = both_step.first.at_once c h plain taken in both_step.second.at_once c h there.0 there.1);
    quiet = λ c h answered. both_step.second.quiet c h (both_step.first.quiet c h answered);
  }

-- ---- in the words of links

module _ (first second : LinkForm) (up middle down : Port) (end : ℕ) (same : first.target ≡ second.target) (above : IsLink first up middle end) (below : IsLink second middle down end)
    (legal : AreLegalAt up end) (owed : AnswersAreOwed down end) where
  second_there : IsLink (record second { target = first.target }) middle down end
  second_there = subst (λ t. IsLink (record second { target = t }) middle down end) (sym same) below

  legal_there : AreLegalAt middle end
  legal_there = middle_legal first.target first.hold second.hold up middle down end above.row.carries second_there.row.carries end (omega arith) legal owed

  owed_there : AnswersAreOwed middle end
  owed_there = middle_owed first.target first.hold second.hold up middle down end above.row.carries second_there.row.carries end (omega arith) legal owed

  legal_below : AreLegalAt down end
  legal_below = (second_there.row.carries.commands end (omega arith) legal_there (λ k less. owed k (omega arith))).legal

  pub straight_chain : (ahead : Bool) → AreInStep ahead first.target up middle down end → GoesStraightThrough (λ c. ahead) first.target up middle end → GoesStraightThrough (λ c. ahead) first.target middle down end →
      GoesStraightThrough (λ c. ahead) first.target up down end
  straight_chain ahead step one two = row_is_straight ahead first.target up middle down end legal legal_there legal_below step (λ as_up. one) two

  pub step_chain : (ahead : Bool) → AreInStep ahead first.target up middle down end → GoesStraightThrough (λ c. ahead) first.target up middle end → up.shape.word_bytes ≡ middle.shape.word_bytes → GoesInStep ahead first.target up down end
  step_chain ahead step one as_up = row_is_in_step ahead first.target up middle down end legal legal_there legal_below step (λ as_up. one) as_up

-- ---- a wire

pub pass_in_step : (ahead : Bool) (target : Target) (port : Port) (end : ℕ) → GoesInStep ahead target port port end
pass_in_step ahead target port end = record {
  accepts = λ c h. omega arith;
  full = λ c h next shown. (of_next ahead target port port c next).acts;
  plain = λ c h next. (of_next ahead target port port c next).plain;
  at_once = λ c h plain taken. (plain, taken);
  quiet = λ c h answered. answered;
}
