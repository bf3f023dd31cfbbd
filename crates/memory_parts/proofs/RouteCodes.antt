-- The route hands codes on word for word, and its line as a whole.
use Rattle.std.proofs.Common.{ℕ, zero, suc, ◌<◌, ◌≤◌, ◌≡◌, ◌+◌, [], ◌∷◌, ◌++◌, List, Bool, true, false, IsTrue, arith, refl, sym, ap, ap₂, ◌∙◌, subst, Option, Some, None, length, map, flat_map, zip, slice_get, MatchOption, append_assoc, append-nil, length-append, le_of_eq}
use Rattle.std.specs.Bool.{⊤}
use Rattle.std.specs.List.{All}
use Rattle.std.proofs.lemmas.List.Elements.{All-head}
use Rattle.histories.specs.History.{IsPrefix, only_if, one_if, is_raised}
use Rattle.histories.specs.Laws.{prefix_refl, prefix_trans, prefix_filter, prefix_flat_map, prefix_map, before_extends}
use Rattle.memory_runs.specs.Views.{System, Responses}
use Rattle.memory_runs.specs.Views.Responses.{AreCodes}
use Rattle.memory_runs.specs.Operations.{filled_lanes}
use Rattle.memory_runs.specs.Legal.{Word}
use Rattle.memory_runs.specs.Order.{Asked, is_agent}
use Rattle.memory_machines.specs.Blocks.{worded, block, blocks_at}
use Rattle.memory_machines.specs.Link.{Port, Marked, taken_at, AreLegalAt, AnswersAreOwed, read_beats, words_at}
use Rattle.memory_machines.specs.Lines.{asked_among, asked_at, target_of, placed_block, placed_blocks, HasDefaultCode}
use Rattle.memory_machines.specs.SideLaws.{prefix_get}
use Rattle.memory_machines.specs.SideLaws.{zip_front}
use Rattle.memory_parts.specs.Queue.{by_option}
use Rattle.memory_machines.specs.Lines.{AreSingle, OwesBelow, RouteCarriesAnswers, IsRouteLine}
use Rattle.memory_parts.proofs.RoutePlan.{RoutePlan}
use Rattle.memory_parts.specs.Route.{RouteState, IsRouteMachine, default_code_by}
use Rattle.memory_parts.proofs.RouteLine.{taken_same}
use Rattle.memory_parts.proofs.RouteWords.{Splits, splits_at, back_length, word_few, early, picked, picked_length, beats_of_place, beats_append, beats_are, words_next, words_still, asked_front, get_middle, owed_above, routed}
use Rattle.memory_parts.proofs.RouteLimits.{limited}
use Rattle.memory_parts.proofs.HalfLines.{route_shorter, route_commands}

no_zip : {A B : Type 0} (xs : List A) (ws : List B) → ws ≡ [] → zip xs ws ≡ []
no_zip [] [] e = refl
no_zip [] (w ∷ ws) e = refl
no_zip (x ∷ xs) [] e = refl
no_zip (x ∷ xs) (w ∷ ws) e = cc

module _ (responses : Responses) (system : System) (host room : ℕ) (up : Port) (down : ℕ → Port) (state : RouteState) (end : ℕ) (machine : IsRouteMachine responses system host room up down state end)
    (legal : AreLegalAt up end) (single : AreSingle up end) (plan : RoutePlan system host up.shape) (below : OwesBelow room up end)
    (owed : (a : ℕ) → a < system.agents → AnswersAreOwed (down a) end) where
  abbrev asked_taken : ℕ → List Asked
  asked_taken c = asked_among system host (map (λ (m : Marked). m.transfer) (taken_at up c))

  record After (c : ℕ) : Type 0 where
    front : List Asked
    joins : IsPrefix front (asked_taken c)
    size : length front ≡ length (words_at up (suc c))
    words : (a : ℕ) → a < system.agents → words_at (down a) (suc c) ≡ picked a (zip front (words_at up (suc c)))

  after : (c : ℕ) → c < end → After c
  after c low = by_valid (is_raised (up.answers.valid c)) refl (splits_at responses system host room up down state end machine legal single plan below owed c low).back refl
    where
      s : Splits responses system host room up down state end machine legal single plan below owed c
      s = splits_at responses system host room up down state end machine legal single plan below owed c low

      by_valid : (b : Bool) → is_raised (up.answers.valid c) ≡ b → (l : List Asked) → (splits_at responses system host room up down state end machine legal single plan below owed c low).back ≡ l → After c
      by_valid false v l e =
          let still : words_at up (suc c) ≡ words_at up c = ap (λ b. words_at up c ++ only_if b (record { word = up.answers.word c; code = up.answers.code c })) v ∙ append-nil (words_at up c) in
          record {
            front = s.front;
            joins = record { rest = s.back; joins = s.joins };
            size = s.size ∙ ap length (sym still);
            words = λ a there. words_still responses system host room up down state end machine legal single plan below owed a c there low v ∙ s.words a there ∙ ap (λ ws. picked a (zip s.front ws)) (sym still);
          }
      by_valid true v [] e =
          let few = word_few responses system host room up down state end machine legal single plan below owed c low in
          let one : one_if (is_raised (up.answers.valid c)) ≡ 1 = ap one_if v in
          let size = back_length responses system host room up down state end machine legal single plan below owed c low s in
          let none = ap length e in
          absurd (omega (arith, few, one, size, none))
      by_valid true v (q ∷ rest) e =
          let more : words_at up (suc c) ≡ words_at up c ++ record { word = up.answers.word c; code = up.answers.code c } ∷ [] = ap (λ b. words_at up c ++ only_if b (record { word = up.answers.word c; code = up.answers.code c })) v in
          let alls = subst (λ l. All (λ (q : Asked). q.place ≡ state.owing c) l) e s.all in
          record {
            front = s.front ++ q ∷ [];
            joins = record { rest = rest; joins = append_assoc s.front (q ∷ []) rest ∙ ap (λ l. s.front ++ l) (sym e) ∙ s.joins };
            size = length-append s.front (q ∷ []) ∙ ap (λ n. n + 1) s.size ∙ sym (ap length more ∙ length-append (words_at up c) (record { word = up.answers.word c; code = up.answers.code c } ∷ []));
            words = λ a there. words_next responses system host room up down state end machine legal single plan below owed a c there low s.front q s.size (All-head (λ (q : Asked). q.place ≡ state.owing c) q rest alls) v (s.words a there);
          }

  blocks_same : (a : ℕ) → a < system.agents → (qs : List Asked) (ws : List Word) → flat_map (placed_block system host a) (zip qs ws) ≡ flat_map (block (target_of system a) (down a)) (zip (beats_of_place a qs) (picked a (zip qs ws)))
  blocks_same a there [] [] = refl
  blocks_same a there [] (w ∷ ws) = refl
  blocks_same a there (q ∷ qs) [] = sym (ap (flat_map (block (target_of system a) (down a))) (no_zip (beats_of_place a (q ∷ qs)) (picked a (zip (q ∷ qs) [])) refl))
  blocks_same a there (q ∷ qs) (w ∷ ws) = by_test (is_agent a q.place) refl (blocks_same a there qs ws)
    where
      size : length (filled_lanes (system.host host).shape (system.agent a).shape q.beat.enables) ≡ length (filled_lanes (down a).shape (system.agent a).shape q.beat.enables)
      size =
          ap (λ w. length (filled_lanes (record { word_bytes = w; unit_bytes = 0; burst_bits = 0; has_enables = true }) (system.agent a).shape q.beat.enables)) (sym plan.words)
          ∙ ap (λ s. length (filled_lanes s (system.agent a).shape q.beat.enables)) (sym (machine.shapes a there))

      by_test : (b : Bool) → is_agent a q.place ≡ b → flat_map (placed_block system host a) (zip qs ws) ≡ flat_map (block (target_of system a) (down a)) (zip (beats_of_place a qs) (picked a (zip qs ws))) →
          flat_map (placed_block system host a) (zip (q ∷ qs) (w ∷ ws)) ≡ flat_map (block (target_of system a) (down a)) (zip (beats_of_place a (q ∷ qs)) (picked a (zip (q ∷ qs) (w ∷ ws))))
      by_test true e ih = rw e (ap₂ (λ n l. record { size = n; code = w.code } ∷ l) size ih)
      by_test false e ih = rw e ih

  codes : (a c : ℕ) → a < system.agents → c ≤ end → placed_blocks system host a up c ≡ blocks_at (target_of system a) (down a) c
  codes a zero there low = refl
  codes a (suc c) there low =
      let f = after c low in
      let soon = early responses system host room up down state end machine legal single plan below owed in
      let up_front = prefix_trans f.joins (asked_front responses system host room up down state end machine legal single plan below owed c low) in
      let later : IsPrefix f.front (asked_taken (suc c)) = prefix_trans f.joins (prefix_flat_map _ (prefix_filter _ (prefix_map _ (before_extends _ c)))) in
      let size = f.size in
      let beats : read_beats (taken_at (down a) (suc c)) ≡ beats_of_place a f.front ++ beats_of_place a later.rest =
      ap read_beats (taken_same responses system host room up down state end machine legal single plan below soon a (suc c) there low) ∙ beats_are system host a up.shape plan (taken_at up (suc c)) ∙ ap (beats_of_place a) (sym later.joins) ∙ beats_append a f.front later.rest in
      let words = f.words a there in
      let number : length (words_at (down a) (suc c)) ≡ length (beats_of_place a f.front) = ap length words ∙ picked_length a f.front (words_at up (suc c)) size in
      ap (λ l. flat_map (placed_block system host a) (zip l (words_at up (suc c)))) (sym up_front.joins)
      ∙ ap (flat_map (placed_block system host a)) (zip_front f.front up_front.rest (words_at up (suc c)) (le_of_eq (sym size)))
      ∙ blocks_same a there f.front (words_at up (suc c))
      ∙ ap (λ ws. flat_map (block (target_of system a) (down a)) (zip (beats_of_place a f.front) ws)) (sym words)
      ∙ ap (flat_map (block (target_of system a) (down a))) (sym (zip_front (beats_of_place a f.front) (beats_of_place a later.rest) (words_at (down a) (suc c)) (le_of_eq number)))
      ∙ ap (λ bs. flat_map (block (target_of system a) (down a)) (zip bs (words_at (down a) (suc c)))) (sym beats)

  default_code : responses ≡ AreCodes → (c : ℕ) → c < end → IsTrue (is_raised (up.answers.valid c)) → HasDefaultCode (up.answers.code c) (slice_get (asked_at system host up (suc c)) (length (words_at up c)))
  default_code are c low valid = by_back (splits_at responses system host room up down state end machine legal single plan below owed c low).back refl
    where
      s : Splits responses system host room up down state end machine legal single plan below owed c
      s = splits_at responses system host room up down state end machine legal single plan below owed c low

      by_place : (q : Asked) (o : Option ℕ) → q.place ≡ o → o ≡ state.owing c → MatchOption q.place (up.answers.code c ≡ 3) (λ _. ⊤)
      by_place q None at owes = subst (λ o. MatchOption o (up.answers.code c ≡ 3) (λ _. ⊤)) (sym at) (machine.code c low valid ∙ ap (λ o. by_option o (default_code_by responses) (λ a. (down a).answers.code c)) (sym owes) ∙ ap default_code_by are)
      by_place q (Some a) at owes = subst (λ o. MatchOption o (up.answers.code c ≡ 3) (λ _. ⊤)) (sym at) tt

      by_back : (l : List Asked) → (splits_at responses system host room up down state end machine legal single plan below owed c low).back ≡ l → HasDefaultCode (up.answers.code c) (slice_get (asked_at system host up (suc c)) (length (words_at up c)))
      by_back [] e =
          let few = word_few responses system host room up down state end machine legal single plan below owed c low in
          let one : one_if (is_raised (up.answers.valid c)) ≡ 1 = ap one_if valid in
          let size = back_length responses system host room up down state end machine legal single plan below owed c low s in
          let none = ap length e in
          absurd (omega (arith, few, one, size, none))
      by_back (q ∷ rest) e =
          let joins : s.front ++ q ∷ rest ≡ asked_taken c = ap (λ l. s.front ++ l) (sym e) ∙ s.joins in
          let at : q.place ≡ state.owing c = All-head (λ (q : Asked). q.place ≡ state.owing c) q rest (subst (λ l. All (λ (q : Asked). q.place ≡ state.owing c) l) e s.all) in
          let got : slice_get (asked_at system host up (suc c)) (length (words_at up c)) ≡ Some q =
          ap (slice_get (asked_at system host up (suc c))) (sym s.size) ∙ prefix_get (asked_front responses system host room up down state end machine legal single plan below owed c low) (length s.front) q (ap (λ l. slice_get l (length s.front)) (sym joins) ∙ get_middle s.front q rest) in
          subst (HasDefaultCode (up.answers.code c)) (sym got) (by_place q q.place refl at)

  pub carries_answers : RouteCarriesAnswers responses system host up down end
  carries_answers = record {
    answered = routed responses system host room up down state end machine legal single plan below owed;
    limited = limited responses system host room up down state end machine legal single plan below owed;
    codes = λ are a c there low. subst (λ l. IsPrefix (worded (placed_blocks system host a up c)) (worded l)) (codes a c there low) (prefix_refl _);
    default_code = default_code;
    owed = owed_above responses system host room up down state end machine legal single plan below owed;
  }

pub route_line : (responses : Responses) (system : System) (host room : ℕ) (up : Port) (down : ℕ → Port) (state : RouteState) (end : ℕ) → RoutePlan system host up.shape → IsRouteMachine responses system host room up down state end →
    IsRouteLine responses system host 0 room up down end
route_line responses system host room up down state end plan machine = record {
  commands = route_commands responses system host room up down state end plan machine;
  answers = λ c low legal single below owed. carries_answers responses system host room up down state c (route_shorter responses system host room up down state end c low machine) legal single plan below owed;
}
