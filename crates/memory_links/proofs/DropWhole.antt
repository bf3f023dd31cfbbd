-- All that a link promises, of a machine that drops beats without a lane.
use Rattle.std.proofs.Common.{ℕ, ◌<◌, ◌≤◌, ◌≡◌, false, List, [], ◌∷◌, ◌++◌, arith, refl, sym, ap, subst, ◌∙◌, length, map, zip, flat_map, nat_lt, le_refl}
use Rattle.std.proofs.lemmas.List.Elements.{filter-append}
use Rattle.histories.specs.History.{IsPrefix}
use Rattle.histories.specs.Laws.{prefix_refl}
use Rattle.memory_runs.specs.Legal.{Word}
use Rattle.memory_runs.specs.Operations.{Beat, filled_lanes}
use Rattle.memory_machines.specs.Link.{Target, Port, AreLegalAt, AnswersAreOwed, taken_at, read_beats, words_at, answers_at, bytes_in, is_nonempty}
use Rattle.memory_machines.specs.Blocks.{Block, block, blocks_at, worded, codes_of, AreGreatest}
use Rattle.memory_machines.specs.Lines.{BringsBack, KeepsRow, bytes_of}
use Rattle.memory_machines.specs.PartRanks.{JoinsAlike}
use Rattle.memory_links.specs.Going.RowGoesOn.{at_end, further}
use Rattle.memory_links.specs.Links.{IsLink}
use Rattle.memory_links.specs.Drops.{DropState, RunsAsDrop, IsDropPlan, any_lane, drop_form}
use Rattle.memory_links.proofs.DropAnswers.{told_same}
use Rattle.memory_links.proofs.DropGoing.{drop_goes_on}
use Rattle.memory_links.proofs.DropLink.{carried, drop_joins}
use Rattle.memory_links.proofs.DropShown.{lanes_are, drop_lanes, drop_hands_on, drop_legal}
use Rattle.memory_links.proofs.DropWords.{words_are_owed, quiet_below}

none_of : {A : Type 0} (l : List A) → is_nonempty l ≡ false → l ≡ []
none_of [] e = refl
none_of (x ∷ l) e = cc

module _ (target : Target) (room : ℕ) (up down : Port) (state : DropState) (end : ℕ) (plan : IsDropPlan target up.shape down.shape) (run : RunsAsDrop room up down state) (legal : AreLegalAt up end) (owed : AnswersAreOwed down end) where
  -- without a lane there is nothing to answer
  no_lanes : (b : Beat) → any_lane up.shape b.enables ≡ false → filled_lanes up.shape target.shape b.enables ≡ []
  no_lanes b e = none_of _ (lanes_are target.shape up.shape b.enables plan.some plan.agent ∙ e)

  answers_same : (c : ℕ) → c ≤ end → answers_at target up c ≡ answers_at target down c
  answers_same c h =
      told_same target room up down state end plan run legal owed _ (λ (p : Beat × Word). bytes_in target up.shape p.0 p.1) (λ b w e. ap (map _) (no_lanes b e)) c h
      ∙ ap (λ n. flat_map (λ (p : Beat × Word). bytes_in target (record up.shape { word_bytes = n }) p.0 p.1) (zip (read_beats (taken_at down c)) (words_at down c))) (sym plan.same)

  abbrev held_in : Beat × Word → List Block
  held_in p = worded (block target up p)

  all_worded : (ps : List (Beat × Word)) → worded (flat_map (block target up) ps) ≡ flat_map held_in ps
  all_worded [] = refl
  all_worded (p ∷ ps) = filter-append (λ (b : Block). nat_lt 0 b.size) (block target up p) (flat_map (block target up) ps) ∙ ap (λ l. held_in p ++ l) (all_worded ps)

  words_same : (c : ℕ) → c ≤ end → worded (blocks_at target up c) ≡ worded (blocks_at target down c)
  words_same c h =
      all_worded (zip (read_beats (taken_at up c)) (words_at up c))
      ∙ told_same target room up down state end plan run legal owed Block held_in (λ b w e. ap (λ (l : List ℕ). worded (record { size = length l; code = w.code } ∷ [])) (no_lanes b e)) c h
      ∙ sym (all_worded (zip (read_beats (taken_at down c)) (words_at down c)))
      ∙ ap (λ n. worded (flat_map (λ (p : Beat × Word). record { size = length (filled_lanes (record up.shape { word_bytes = n }) target.shape p.0.enables); code = p.1.code } ∷ []) (zip (read_beats (taken_at down c)) (words_at down c)))) (sym plan.same)

  brings_back : BringsBack target up down end
  brings_back = record {
    bytes = λ c h. subst (λ l. IsPrefix (bytes_of l) (bytes_of (answers_at target down c))) (sym (answers_same c h)) (prefix_refl _);
    owed = words_are_owed target room up down state end plan run legal owed;
  }

module _ (wire : (target : Target) (port : Port) (end : ℕ) → 0 < port.shape.word_bytes → KeepsRow target 0 port port end) (target : Target) (room : ℕ) (up down : Port) (state : DropState) (end : ℕ)
    (plan : IsDropPlan target up.shape down.shape) (some : 0 < room) (run : RunsAsDrop room up down state) (alike : JoinsAlike target up end) where
  joined_by : (c : ℕ) → c ≤ end → JoinsAlike target up c
  joined_by c h k low = alike k (omega (arith, h, low))

  drop_row : KeepsRow target 1 up down end
  drop_row = record {
    carries = record {
      commands = λ c h legal owed. carried target room up down state c plan run legal (joined_by c h);
      answers = λ c h legal owed. brings_back target room up down state c plan run legal owed;
    };
    codes = λ c h legal owed.
        let row = wire target down c (subst (λ n. 0 < n) (sym plan.same) plan.some) in
        subst (λ bs. AreGreatest bs (codes_of (answers_at target down c))) (sym (words_same target room up down state c plan run legal owed c (le_refl c)))
        (row.codes c (le_refl c) (drop_legal target room up down state c plan run legal) owed);
    hands_on = λ c h legal owed. drop_hands_on target room up down state c plan run legal;
  }

  pub drop_is_link : IsLink (drop_form target) up down end
  drop_is_link = record {
    row = drop_row;
    words = λ is c h legal owed. subst (λ bs. IsPrefix bs (worded (blocks_at target down c))) (sym (words_same target room up down state c plan run legal owed c (le_refl c))) (prefix_refl _);
    lanes = λ c h legal owed has. drop_lanes target room up down state c plan run legal;
    joins = λ c h legal owed so. drop_joins target room up down state c plan run legal so;
    quiet = λ c h legal owed answered. quiet_below target room up down state c plan run legal owed c (le_refl c) answered;
    goes_on = λ legal owed so. further (drop_goes_on target room up down state end plan run legal so owed some) at_end;
  }
