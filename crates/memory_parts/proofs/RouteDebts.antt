-- The route's count is what it owes, and its place owes all of it.
use Rattle.std.proofs.Common.{ℕ, zero, suc, ◌<◌, ◌≤◌, ◌≡◌, ◌+◌, ◌-◌, [], ◌∷◌, Bool, true, false, not, ◌&&◌, ◌||◌, if◌then◌else◌, nat_lt, nat_eq, arith, tests, refl, sym, ap, ap₂, ◌∙◌, subst, Option, Some, None, length, length-append, filter, flat_map, map}
use Rattle.std.proofs.lemmas.Bool.{and_parts, eqb-true, ltb-true}
use Rattle.std.proofs.lemmas.Grind.{flat_map-append}
use Rattle.std.proofs.lemmas.List.{length-map}
use Rattle.std.proofs.lemmas.List.Elements.{filter-append}
use Rattle.histories.specs.History.{is_raised, one_if, only_if, numbers}
use Rattle.memory_runs.specs.Views.{System, Responses, levels_at}
use Rattle.memory_runs.specs.Commands.{shows, words_before, is_of_reads, read_beat}
use Rattle.memory_runs.specs.Order.{is_agent}
use Rattle.memory_machines.specs.Link.{Port, Marked, takes, marked_at, taken_at, AreLegalAt, AnswersAreOwed, read_beats, words_at}
use Rattle.memory_machines.specs.SideLaws.{same_counts}
use Rattle.memory_parts.specs.Queue.{takes_read, by_option}
use Rattle.memory_machines.specs.Lines.{AreSingle, OwesBelow}
use Rattle.memory_parts.proofs.RoutePlan.{RoutePlan}
use Rattle.memory_parts.specs.Route.{RouteState, IsRouteMachine, is_same_place, read_count}
use Rattle.memory_parts.proofs.Queued.{word_more, numbers_length}
use Rattle.memory_parts.proofs.RouteTurns.{place, gate, goes, takes_down, taken_open, same_marked, place_is, inside_at, shown_of}

pub same_is : (a : ℕ) (x y : Option ℕ) → is_same_place x y ≡ true → is_agent a x ≡ is_agent a y
same_is a None None e = refl
same_is a None (Some k) e = cc
same_is a (Some j) None e = cc
same_is a (Some j) (Some k) e = let same = eqb-true j k e in ap (nat_eq a) same

pub reads_more : (port : Port) (c : ℕ) → length (read_beats (taken_at port (suc c))) ≡ length (read_beats (taken_at port c)) + length (read_beats (only_if (takes port c) (marked_at port c)))
reads_more port c =
    ap (λ l. length (flat_map (λ (m : Marked). m.transfer.beats) l)) (filter-append (λ (m : Marked). is_of_reads m.transfer.kind) (taken_at port c) (only_if (takes port c) (marked_at port c)))
    ∙ ap length (flat_map-append (λ (m : Marked). m.transfer.beats) (filter (λ (m : Marked). is_of_reads m.transfer.kind) (taken_at port c)) (filter (λ (m : Marked). is_of_reads m.transfer.kind) (only_if (takes port c) (marked_at port c))))
    ∙ length-append (read_beats (taken_at port c)) (read_beats (only_if (takes port c) (marked_at port c)))

one_few : (b : Bool) (n : ℕ) → (b ≡ true → 1 ≤ n) → one_if b ≤ n
one_few true n some = some refl
one_few false n some = omega arith

module _ (responses : Responses) (system : System) (host room : ℕ) (up : Port) (down : ℕ → Port) (state : RouteState) (end : ℕ) (machine : IsRouteMachine responses system host room up down state end)
    (legal : AreLegalAt up end) (single : AreSingle up end) (plan : RoutePlan system host up.shape) (below : OwesBelow room up end)
    (owed : (a : ℕ) → a < system.agents → AnswersAreOwed (down a) (end - 1)) where
  abbrev at_place : ℕ → Option ℕ
  at_place c = place responses system host room up down state end machine legal single c

  abbrev ru : ℕ → ℕ
  ru c = length (read_beats (taken_at up c))

  abbrev rd : ℕ → ℕ → ℕ
  rd a c = length (read_beats (taken_at (down a) c))

  abbrev vu : ℕ → ℕ
  vu c = words_before up.answers.valid c

  abbrev vd : ℕ → ℕ → ℕ
  vd a c = words_before (down a).answers.valid c

  asked_now : (c : ℕ) → c < end → length (read_beats (only_if (takes up c) (marked_at up c))) ≡ read_count up c
  asked_now c low = by_all (takes up c) (is_raised (up.commands.read c)) (is_raised (up.commands.write c)) refl refl refl
    where
      by_all : (t r w : Bool) → takes up c ≡ t → is_raised (up.commands.read c) ≡ r → is_raised (up.commands.write c) ≡ w → length (read_beats (only_if (takes up c) (marked_at up c))) ≡ read_count up c
      by_all false r w t rr ww = rw t refl
      by_all true true true t rr ww = let one = legal.legal.one_kind c low in let bad : ⊥ = cc in absurd bad
      by_all true true false t rr ww = rw (t, rr, ww) (length-append (map (read_beat up.shape (levels_at up.commands.signals c)) (numbers 0 (up.commands.count c))) [] ∙ plus (length-map (numbers 0 (up.commands.count c)) (read_beat up.shape (levels_at up.commands.signals c)) ∙ numbers_length 0 (up.commands.count c)))
        where
          plus : {n k : ℕ} → n ≡ k → n + 0 ≡ k
          plus e = omega (arith, e)
      by_all true false true t rr ww = rw (t, rr, ww) refl
      by_all true false false t rr ww = let shown = (and_parts (shows up.commands.signals c) (not (is_raised (up.commands.waitrequest c))) t).0 in let bad : ⊥ = cc in absurd bad

  above_more : (c : ℕ) → c < end → ru (suc c) ≡ ru c + read_count up c
  above_more c low = reads_more up c ∙ ap (λ n. ru c + n) (asked_now c low)

  retagged : (b : Bool) (x : Marked) → length (read_beats (only_if b (record { tag = host; more = x.more; transfer = x.transfer }))) ≡ length (read_beats (only_if b x))
  retagged false x = refl
  retagged true x = by_test (is_of_reads x.transfer.kind)
    where
      by_test : (b : Bool) → length (flat_map (λ (m : Marked). m.transfer.beats) (if b then record { tag = host; more = x.more; transfer = x.transfer } ∷ [] else [])) ≡ length (flat_map (λ (m : Marked). m.transfer.beats) (if b then x ∷ [] else []))
      by_test true = refl
      by_test false = refl

  below_more : (a c : ℕ) → a < system.agents → c < end → rd a (suc c) ≡ rd a c + (if is_agent a (at_place c) then read_count up c else 0)
  below_more a c there low = reads_more (down a) c ∙ ap (λ n. rd a c + n) (by_place (is_agent a (at_place c)) (takes up c) refl refl)
    where
      open_when : takes up c ≡ true → gate responses system host room up down state end machine legal single c ≡ true
      open_when = taken_open responses system host room up down state end machine legal single c low

      takes_it : takes (down a) c ≡ (takes up c && goes responses system host room up down state end machine legal single a c)
      takes_it = takes_down responses system host room up down state end machine legal single a c there low

      by_place : (p t : Bool) → is_agent a (at_place c) ≡ p → takes up c ≡ t → length (read_beats (only_if (takes (down a) c) (marked_at (down a) c))) ≡ (if is_agent a (at_place c) then read_count up c else 0)
      by_place false t p e =
          let none : takes (down a) c ≡ false = takes_it ∙ ap (λ b. takes up c && (b && gate responses system host room up down state end machine legal single c)) p ∙ nothing (takes up c) in
          ap (λ b. length (read_beats (only_if b (marked_at (down a) c)))) none ∙ sym (ap (λ b. if b then read_count up c else 0) p)
        where
          nothing : (b : Bool) → (b && false) ≡ false
          nothing true = refl
          nothing false = refl
      by_place true false p e =
          let none : takes (down a) c ≡ false = takes_it ∙ ap (λ b. b && goes responses system host room up down state end machine legal single a c) e in
          let quiet : read_count up c ≡ 0 = ap (λ b. if b && is_raised (up.commands.read c) then up.commands.count c else 0) e in
          ap (λ b. length (read_beats (only_if b (marked_at (down a) c)))) none ∙ sym (ap (λ b. if b then read_count up c else 0) p ∙ quiet)
      by_place true true p e =
          let go : goes responses system host room up down state end machine legal single a c ≡ true = ap₂ (λ x y. x && y) p (open_when e) in
          let taken : takes (down a) c ≡ true = takes_it ∙ ap₂ (λ x y. x && y) e go in
          ap₂ (λ b x. length (read_beats (only_if b x))) taken (same_marked responses system host room up down state end machine legal single a c there low go)
          ∙ retagged true (marked_at up c) ∙ ap (λ b. length (read_beats (only_if b (marked_at up c)))) (sym e) ∙ asked_now c low ∙ sym (ap (λ b. if b then read_count up c else 0) p)

  pub record Debts (c : ℕ) : Type 0 where
    pub above : ru c ≡ vu c + state.owed c
    pub owing : (a : ℕ) → a < system.agents → is_agent a (state.owing c) ≡ true → rd a c ≡ vd a c + state.owed c
    pub others : (a : ℕ) → a < system.agents → is_agent a (state.owing c) ≡ false → rd a c ≡ vd a c
    pub known : (a : ℕ) → state.owing c ≡ Some a → a < system.agents

  -- a word comes only where one is owed
  few_down : (a c : ℕ) → a < system.agents → suc c < end → vd a c + one_if (is_raised ((down a).answers.valid c)) ≤ rd a c
  few_down a c there low = let few = owed a there c (omega arith) in let more = word_more (down a).answers.valid c in omega (arith, few, more)

  word_when : (c : ℕ) → suc c < end → Debts c → one_if (is_raised (up.answers.valid c)) ≤ state.owed c
  word_when c low debts = subst (λ b. one_if b ≤ state.owed c) (sym (machine.valid c (omega arith))) (by_owing (state.owing c) refl)
    where
      by_owing : (o : Option ℕ) → state.owing c ≡ o → one_if (by_option o (nat_lt 0 (state.owed c)) (λ a. is_raised ((down a).answers.valid c))) ≤ state.owed c
      by_owing None e = one_few (nat_lt 0 (state.owed c)) (state.owed c) (λ some. ltb-true 0 (state.owed c) some)
      by_owing (Some a) e =
          let there = debts.known a e in
          let few = few_down a c there low in
          let all = debts.owing a there (ap (is_agent a) e ∙ self a) in
          omega (arith, few, all)
        where
          self : (n : ℕ) → nat_eq n n ≡ true
          self n = grind (arith, tests)

  -- the word above is that of the place that owes
  word_from : (a c : ℕ) → c < end → is_agent a (state.owing c) ≡ true → one_if (is_raised (up.answers.valid c)) ≡ one_if (is_raised ((down a).answers.valid c))
  word_from a c low e = ap one_if (machine.valid c low ∙ by_owing (state.owing c) e)
    where
      by_owing : (o : Option ℕ) → is_agent a o ≡ true → by_option o (nat_lt 0 (state.owed c)) (λ a. is_raised ((down a).answers.valid c)) ≡ is_raised ((down a).answers.valid c)
      by_owing None e = cc
      by_owing (Some b) e = let same = eqb-true a b e in ap (λ a. is_raised ((down a).answers.valid c)) (sym same)

  pub next_owed : (c : ℕ) → suc c < end → Debts c → state.owed (suc c) + one_if (is_raised (up.answers.valid c)) ≡ state.owed c + read_count up c
  next_owed c low debts =
      let few = word_when c low debts in
      let room_left = below c (omega arith) in
      let words : length (words_at up c) ≡ vu c = same_counts (λ c. is_raised (up.answers.valid c)) (λ c. record { word = up.answers.word c; code = up.answers.code c }) (λ c. c) c in
      let more = above_more c (omega arith) in
      let all = debts.above in
      machine.counts c low (omega (arith, room_left, words, more, all)) (omega (arith, few))

  next_debts : (c : ℕ) → suc c < end → Debts c → Debts (suc c)
  next_debts c low debts =
      let next = next_owed c low debts in
      let more = above_more c (omega arith) in
      let word = word_more up.answers.valid c in
      let all = debts.above in
      record {
        above = omega (arith, next, more, word, all);
        owing = λ a there e. by_read_owing a there (takes_read up c) refl e;
        others = λ a there e. by_read_others a there (takes_read up c) refl e;
        known = known_next (takes_read up c) refl;
      }
    where
      now_low : c < end
      now_low = omega arith

      owes : (b : Bool) → takes_read up c ≡ b → state.owing (suc c) ≡ (if b then at_place c else state.owing c)
      owes b e = machine.owes c low ∙ ap (λ t. if t then at_place c else state.owing c) e

      known_next : (b : Bool) → takes_read up c ≡ b → (a : ℕ) → state.owing (suc c) ≡ Some a → a < system.agents
      known_next false e a is = debts.known a (sym (owes false e) ∙ is)
      known_next true e a is =
          let taken = (and_parts (takes up c) (is_raised (up.commands.read c)) e).0 in
          let shown = shown_of responses system host room up down state end machine legal single c taken in
          let at = place_is responses system host room up down state end machine legal single c now_low (inside_at responses system host room up down state end machine legal single c now_low) shown in
          plan.agents _ _ a (sym at ∙ sym (owes true e) ∙ is)

      -- without a new read nothing more is asked
      quiet : takes_read up c ≡ false → read_count up c ≡ 0
      quiet e = ap (λ b. if b then up.commands.count c else 0) e

      no_more : (b : Bool) (n : ℕ) → n ≡ 0 → (if b then n else 0) ≡ 0
      no_more true n e = e
      no_more false n e = refl

      -- a read went through the gate: nothing is owed, or its own place owes
      free_or_same : takes_read up c ≡ true → (nat_eq (state.owed c) 0 || is_same_place (state.owing c) (at_place c)) ≡ true
      free_or_same e =
          let parts = and_parts (takes up c) (is_raised (up.commands.read c)) e in
          let one = legal.legal.one_kind c now_low in
          let write : is_raised (up.commands.write c) ≡ false = read_alone (is_raised (up.commands.read c)) (is_raised (up.commands.write c)) parts.1 one in
          let gone = taken_open responses system host room up down state end machine legal single c now_low parts.0 in
          sym (ap (λ w. w || nat_eq (state.owed c) 0 || is_same_place (state.owing c) (at_place c)) write) ∙ gone
        where
          read_alone : (r w : Bool) → r ≡ true → not (r && w) ≡ true → w ≡ false
          read_alone true true e k = sym k
          read_alone true false e k = refl
          read_alone false w e k = cc

      none_owed : (a : ℕ) → takes_read up c ≡ true → (is_agent a (state.owing c) ≡ is_agent a (at_place c) → ⊥) → state.owed c ≡ 0
      none_owed a e apart = by_test (nat_eq (state.owed c) 0) (is_same_place (state.owing c) (at_place c)) refl refl (free_or_same e)
        where
          by_test : (z s : Bool) → nat_eq (state.owed c) 0 ≡ z → is_same_place (state.owing c) (at_place c) ≡ s → (nat_eq (state.owed c) 0 || is_same_place (state.owing c) (at_place c)) ≡ true → state.owed c ≡ 0
          by_test true s z same e = eqb-true (state.owed c) 0 z
          by_test false true z same e = absurd (apart (same_is a (state.owing c) (at_place c) same))
          by_test false false z same e = let bad : ⊥ = cc in absurd bad

      by_read_owing : (a : ℕ) → a < system.agents → (b : Bool) → takes_read up c ≡ b → is_agent a (state.owing (suc c)) ≡ true → rd a (suc c) ≡ vd a (suc c) + state.owed (suc c)
      by_read_owing a there false e is =
          let owed_before : is_agent a (state.owing c) ≡ true = ap (is_agent a) (sym (owes false e)) ∙ is in
          let next = next_owed c low debts in
          let none = quiet e in
          let more = below_more a c there now_low in
          let add = no_more (is_agent a (at_place c)) (read_count up c) none in
          let word = word_more (down a).answers.valid c in
          let same = word_from a c now_low owed_before in
          let all = debts.owing a there owed_before in
          omega (arith, next, none, more, add, word, same, all)
      by_read_owing a there true e is =
          let at : is_agent a (at_place c) ≡ true = ap (is_agent a) (sym (owes true e)) ∙ is in
          let next = next_owed c low debts in
          let more = below_more a c there now_low ∙ ap (λ b. rd a c + (if b then read_count up c else 0)) at in
          let word = word_more (down a).answers.valid c in
          let few = few_down a c there low in
          let up_few = word_when c low debts in
          by_owing (is_agent a (state.owing c)) refl at next more word few up_few
        where
          by_owing : (o : Bool) → is_agent a (state.owing c) ≡ o → is_agent a (at_place c) ≡ true → state.owed (suc c) + one_if (is_raised (up.answers.valid c)) ≡ state.owed c + read_count up c → rd a (suc c) ≡ rd a c + read_count up c →
              vd a (suc c) ≡ vd a c + one_if (is_raised ((down a).answers.valid c)) → vd a c + one_if (is_raised ((down a).answers.valid c)) ≤ rd a c → one_if (is_raised (up.answers.valid c)) ≤ state.owed c → rd a (suc c) ≡ vd a (suc c) + state.owed (suc c)
          by_owing true o at next more word few up_few = let same = word_from a c now_low o in let all = debts.owing a there o in omega (arith, next, more, word, same, all)
          by_owing false o at next more word few up_few =
              let none = none_owed a e (λ same. let bad : ⊥ = cc in bad) in
              let all = debts.others a there o in
              omega (arith, next, more, word, few, up_few, none, all)

      by_read_others : (a : ℕ) → a < system.agents → (b : Bool) → takes_read up c ≡ b → is_agent a (state.owing (suc c)) ≡ false → rd a (suc c) ≡ vd a (suc c)
      by_read_others a there false e is =
          let before : is_agent a (state.owing c) ≡ false = ap (is_agent a) (sym (owes false e)) ∙ is in
          let none = quiet e in
          let more = below_more a c there now_low in
          let add = no_more (is_agent a (at_place c)) (read_count up c) none in
          let word = word_more (down a).answers.valid c in
          let few = few_down a c there low in
          let all = debts.others a there before in
          omega (arith, more, add, word, few, all)
      by_read_others a there true e is =
          let at : is_agent a (at_place c) ≡ false = ap (is_agent a) (sym (owes true e)) ∙ is in
          let more = below_more a c there now_low ∙ ap (λ b. rd a c + (if b then read_count up c else 0)) at in
          let word = word_more (down a).answers.valid c in
          let few = few_down a c there low in
          by_owing (is_agent a (state.owing c)) refl at more word few
        where
          by_owing : (o : Bool) → is_agent a (state.owing c) ≡ o → is_agent a (at_place c) ≡ false → rd a (suc c) ≡ rd a c + 0 → vd a (suc c) ≡ vd a c + one_if (is_raised ((down a).answers.valid c)) → vd a c + one_if (is_raised ((down a).answers.valid c)) ≤ rd a c → rd a (suc c) ≡ vd a (suc c)
          by_owing true o at more word few =
              let none = none_owed a e (λ same. let bad : ⊥ = cc in bad) in
              let all = debts.owing a there o in
              omega (arith, more, word, few, none, all)
          by_owing false o at more word few = let all = debts.others a there o in omega (arith, more, word, few, all)

  pub debts_at : (c : ℕ) → c < end → Debts c
  debts_at zero low = let none = machine.nothing in record {
    above = omega (arith, none);
    owing = λ a there e. omega (arith, none);
    others = λ a there e. refl;
    known = λ a e. (let none = machine.nobody in let bad : ⊥ = cc in absurd bad);
  }
  debts_at (suc c) low = next_debts c low (debts_at c (omega arith))
