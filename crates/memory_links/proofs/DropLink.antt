-- A machine that drops beats without a lane keeps all that a link promises, where joined commands are alike.
use Rattle.std.proofs.Common.{ℕ, ◌≤◌, ◌≡◌, ◌+◌, ◌/◌, ◌⊎◌, inl, inr, min, true, false, List, [], ◌∷◌, ◌++◌, arith, refl, sym, ap, ap₂, subst, ◌∙◌, length, map, nat_eq, IsTrue, append-nil, le_refl}
use Rattle.std.proofs.lemmas.List.{map-append}
use Rattle.histories.specs.History.{total, unreached, IsPrefix, AreWithin}
use Rattle.histories.specs.Laws.{prefix_trans, prefix_map, prefix_filter, prefix_flat_map, prefix_length}
use Rattle.memory_runs.specs.Laws.{same_pieces}
use Rattle.memory_runs.specs.Operations.{pieces}
use Rattle.memory_machines.specs.Link.{Target, Port, Marked, AreLegalAt, CarriesCommands, taken_at, shown_at, operations_among, operations_in, items, items_from, beats_with, sizes}
use Rattle.memory_machines.specs.Machines.{Raw, raws}
use Rattle.memory_machines.specs.PartRanks.{JoinsAlike, HoldsBack, held_back, are_joined_alike}
use Rattle.memory_machines.specs.SideLaws.{all_reached, total_append}
use Rattle.memory_links.specs.Drops.{DropState, RunsAsDrop, IsDropPlan}
use Rattle.memory_links.proofs.Alike.{IsAlike, AllAlike, have_operations, alike_operations, alike_items, alike_sizes, alike_tagged, alike_joins}
use Rattle.memory_links.proofs.CutLists.{within_front}
use Rattle.memory_links.proofs.DropJoins.{alike_below, after_closed}
use Rattle.memory_links.proofs.DropLists.{sum, acts_of, same_sum, all_within, fewer_tagged, same_items, few_left, few_unreached, few_held, sent_after, kept_after}
use Rattle.memory_links.proofs.DropShown.{drop_legal, one_shown}
use Rattle.memory_links.proofs.DropTaken.{u, kept_above, sent_above, nobody, dropped_taken, dropped_shown, follows, Level, Ahead, shown_front}
use Rattle.memory_links.proofs.Gated.{items_prefix, total_sizes}
use Rattle.memory_links.proofs.OneBeat.{flat_mark, flat_taken, flat_shown, shown_raws}
use Rattle.memory_links.proofs.Stages.{alike_prefix, tail_alike, held_back_past, accepted_of, total_accepted}

module _ (target : Target) (room : ℕ) (up down : Port) (state : DropState) (end : ℕ) (plan : IsDropPlan target up.shape down.shape) (run : RunsAsDrop room up down state) (legal : AreLegalAt up end) (alike : JoinsAlike target up end) where
  abbrev pub low : Raw → Marked
  low raw = flat_mark down.shape raw

  abbrev pub high : Raw → Marked
  high raw = u target room up down state end plan run legal alike raw

  abbrev pub sent : ℕ → List Marked
  sent c = sent_above target room up down state end plan run legal alike c

  abbrev pub kept : ℕ → List Marked
  kept c = kept_above target room up down state end plan run legal alike c

  abbrev sent_shown : ℕ → List Marked
  sent_shown c = sent_after target up.shape [] (shown_at up c)

  pub legal_below : AreLegalAt down end
  legal_below = drop_legal target room up down state end plan run legal

  pub one_alike : (raw : Raw) → IsAlike target up.shape down.shape true (high raw) (low raw)
  one_alike raw = record {
    tag = refl;
    more = refl;
    ends = refl;
    kind = refl;
    operations = ap₂ (λ n w. operations_in target (record up.shape { unit_bytes = n; word_bytes = w }) (flat_mark (record up.shape { unit_bytes = n; word_bytes = w }) raw)) plan.units plan.same;
    beats = le_refl (length (high raw).transfer.beats);
    same = λ is. refl;
    lanes = λ is. ap₂ (λ n w. have_operations target (record up.shape { unit_bytes = n; word_bytes = w }) (flat_mark (record up.shape { unit_bytes = n; word_bytes = w }) raw)) plan.units plan.same;
  }

  pub all_alike : (rs : List Raw) → AllAlike target up.shape down.shape true (map high rs) (map low rs)
  all_alike [] = tt
  all_alike (r ∷ rs) = (one_alike r, all_alike rs)

  pub down_taken : (c : ℕ) → c ≤ end → taken_at down c ≡ map low (raws down c)
  down_taken = flat_taken down end legal_below (one_shown target room up down state end plan run legal)

  down_shown : (c : ℕ) → c ≤ end → shown_at down c ≡ map low (shown_raws down c)
  down_shown = flat_shown down end legal_below (one_shown target room up down state end plan run legal)

  front : (c : ℕ) → c ≤ end → IsPrefix (map high (shown_raws down c)) (sent_shown c)
  front c h = shown_front target room up down state end plan run legal alike c h

  -- ---- sizes of what is taken

  pub taken_sum : (c : ℕ) → c ≤ end → length (operations_among target down.shape (taken_at down c)) ≡ sum target up.shape (map high (raws down c))
  taken_sum c h =
      ap (λ l. length (operations_among target down.shape l)) (down_taken c h) ∙ ap length (alike_operations target up.shape down.shape true (map high (raws down c)) (map low (raws down c)) (all_alike (raws down c)))
      ∙ sym (total_sizes target up.shape (map high (raws down c)))

  pub sum_append : (xs ys : List Marked) → sum target up.shape (xs ++ ys) ≡ sum target up.shape xs + sum target up.shape ys
  sum_append xs ys = ap total (map-append (λ (m : Marked). length (operations_in target up.shape m)) xs ys) ∙ total_append (sizes target up.shape xs) (sizes target up.shape ys)

  abbrev pub IsLevel : ℕ → Type 0
  IsLevel c = Level target room up down state end plan run legal alike c

  abbrev pub IsAhead : ℕ → Type 0
  IsAhead c = Ahead target room up down state end plan run legal alike c

  pub so_far : (c : ℕ) → c ≤ end → IsLevel c ⊎ IsAhead c
  so_far c h = follows target room up down state end plan run legal alike c h

  -- all that was accepted, but for what is kept
  pub level_sum : (c : ℕ) → c ≤ end → IsLevel c → length (operations_among target down.shape (taken_at down c)) ≡ sum target up.shape (sent c)
  level_sum c h level = taken_sum c h ∙ ap (sum target up.shape) level.sent

  pub ahead_sum : (c : ℕ) → c ≤ end → IsAhead c → length (operations_among target down.shape (taken_at down c)) ≡ sum target up.shape (taken_at up c)
  ahead_sum c h ahead =
      taken_sum c h ∙ ap (sum target up.shape) ahead.sent ∙ sum_append (sent c) (kept c)
      ∙ (let all = same_sum target up.shape (dropped_taken target room up down state end plan run legal alike c h) in omega (arith, all))

  -- ---- commands

  one_piece : pieces up.shape down.shape ≡ 1
  one_piece = ap (λ n. up.shape.word_bytes / min up.shape.word_bytes n) plan.same ∙ same_pieces up.shape plan.some

  few_kept : (c : ℕ) (h : c ≤ end) → length (kept c) ≤ 1
  few_kept c h = few_left target up.shape (dropped_taken target room up down state end plan run legal alike c h)

  held_few : (c : ℕ) → c ≤ end → unreached (sizes target up.shape (taken_at up c)) (length (operations_among target down.shape (taken_at down c))) ≤ 1
  held_few c h = by_so_far (so_far c h)
    where
      by_so_far : IsLevel c ⊎ IsAhead c → unreached (sizes target up.shape (taken_at up c)) (length (operations_among target down.shape (taken_at down c))) ≤ 1
      by_so_far (inl level) =
          let few = few_unreached target up.shape (dropped_taken target room up down state end plan run legal alike c h) in
          let one = few_kept c h in
          subst (λ n. unreached (sizes target up.shape (taken_at up c)) n ≤ 1) (sym (level_sum c h level)) (omega (arith, few, one))
      by_so_far (inr ahead) =
          let all = all_reached (sizes target up.shape (taken_at up c)) (sum target up.shape (taken_at up c)) (le_refl _) in
          subst (λ n. unreached (sizes target up.shape (taken_at up c)) n ≤ 1) (sym (ahead_sum c h ahead)) (omega (arith, all))

  pub carried : CarriesCommands target 1 up down end
  carried = record {
    in_order = λ k h.
        let below : items target down k ≡ items_from target up.shape false (map high (shown_raws down k)) =
        ap (items_from target down.shape false) (down_shown k h) ∙ alike_items target up.shape down.shape true false (map high (shown_raws down k)) (map low (shown_raws down k)) (all_alike (shown_raws down k)) in
        let dropped = dropped_shown target room up down state end plan run legal alike k h in
        subst (λ l. IsPrefix l (items target up k)) (sym below)
        (prefix_trans (items_prefix target up.shape false (front k h)) (record { rest = acts_of target up.shape (kept_after target up.shape [] (shown_at up k)); joins = sym (same_items target up.shape dropped) }));
    beats = λ k tag h.
        let below = ap (λ l. length (beats_with tag l)) (down_shown k h) in
        let few = alike_tagged target up.shape down.shape true tag (map high (shown_raws down k)) (map low (shown_raws down k)) (all_alike (shown_raws down k)) in
        let fewer = prefix_length (prefix_flat_map (λ (m : Marked). m.transfer.beats) (prefix_filter (λ (m : Marked). nat_eq m.tag tag) (front k h))) in
        let all = fewer_tagged target up.shape tag (dropped_shown target room up down state end plan run legal alike k h) in
        rw one_piece (omega (arith, below, few, fewer, all));
    legal = legal_below;
    held = held_few;
    whole = λ k h.
        let below = ap (sizes target down.shape) (down_shown k h) ∙ alike_sizes target up.shape down.shape true (map high (shown_raws down k)) (map low (shown_raws down k)) (all_alike (shown_raws down k)) in
        let p = prefix_map (λ (m : Marked). length (operations_in target up.shape m)) (front k h) in
        subst (λ l. AreWithin l (sizes target up.shape (shown_at up k))) (sym below)
        (within_front _ _ (all_within target up.shape (dropped_shown target room up down state end plan run legal alike k h)) (sizes target up.shape (map high (shown_raws down k))) p.rest p.joins);
  }

  abbrev pub no_one : Marked
  no_one = nobody target room up down state end plan run legal alike

  pub drop_joins : (k : ℕ) → k ≤ end → IsTrue (are_joined_alike target down (shown_at down k))
  drop_joins k h =
      ap (are_joined_alike target down) (down_shown k h) ∙ alike_joins target up.shape down.shape true up down refl refl (map high (shown_raws down k)) (map low (shown_raws down k)) (all_alike (shown_raws down k))
      ∙ alike_prefix target up (front k h)
      (tail_alike target up no_one (sent_shown k) (alike_below target up no_one refl (dropped_shown target room up down state end plan run legal alike k h) (after_closed target up no_one (shown_at up k) refl (alike k h))))

  pub holds_back : HoldsBack 1 target up down end
  holds_back c h = by_so_far (so_far c h)
    where
      by_so_far : IsLevel c ⊎ IsAhead c → held_back (map (accepted_of target up.shape) (taken_at up c)) (length (operations_among target down.shape (taken_at down c))) ≤ 1
      by_so_far (inl level) =
          let few = few_held target up.shape (dropped_taken target room up down state end plan run legal alike c h) in
          let one = few_kept c h in
          subst (λ n. held_back (map (accepted_of target up.shape) (taken_at up c)) n ≤ 1) (sym (level_sum c h level)) (omega (arith, few, one))
      by_so_far (inr ahead) =
          let past = held_back_past (map (accepted_of target up.shape) (taken_at up c)) [] in
          let all = total_accepted target up.shape (taken_at up c) ∙ sym (total_sizes target up.shape (taken_at up c)) ∙ sym (ahead_sum c h ahead) in
          let none = subst (λ n. held_back (map (accepted_of target up.shape) (taken_at up c)) n ≤ 0) all (subst (λ l. held_back l (total (map (λ a. a.size) (map (accepted_of target up.shape) (taken_at up c)))) ≤ 0) (append-nil (map (accepted_of target up.shape) (taken_at up c))) past) in
          omega (arith, none)
