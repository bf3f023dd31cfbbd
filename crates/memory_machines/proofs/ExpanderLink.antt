-- The commands of an expander's run.
use Rattle.std.proofs.Common.{ℕ, zero, suc, ◌<◌, ◌≤◌, ◌≡◌, ◌*◌, [], ◌∷◌, ◌++◌, List, Bool, true, false, not, ◌&&◌, arith, refl, sym, ap, ap₂, ◌∙◌, append_assoc, append-nil, subst, length, if◌then◌else◌, nat_eq, le_of_eq}
use Rattle.std.proofs.lemmas.Bool.{not-true, and_parts}
use Rattle.histories.specs.Laws.{prefix_flat_map, prefix_filter, prefix_length, shown_is_accepted_and_standing}
use Rattle.memory_runs.specs.Laws.{legal_keeps, accepts_shows}
use Rattle.histories.specs.History.{standing, KeepsItems, only_if, IsPrefix, stands_on, AreWithin}
use Rattle.memory_machines.proofs.Wire.{total_sizes}
use Rattle.memory_machines.proofs.Held.{within_trans}
use Rattle.memory_machines.proofs.Stage.{burst_is, taken_is, marked_append, fits, fit_push, fit_at, prefix_behind}
use Rattle.memory_machines.proofs.StageLink.{items_prefix, transfers_within}
use Rattle.memory_machines.proofs.Expander.{expand_append, expand_fits, expand_items, expand_operations, expand_within, expand_beats}
use Rattle.memory_runs.specs.Views.{Shape, levels_at}
use Rattle.memory_machines.specs.Paths.{CommandView, AnswerView}
use Rattle.memory_runs.specs.Operations.{pieces}
use Rattle.memory_runs.specs.Commands.{Burst, burst_before, shows, is_held}
use Rattle.memory_machines.specs.Link.{Target, Port, Marked, CarriesCommands, AreLegalAt, takes, marked_at, shown_at, taken_at, operations_in, operations_among, sizes, items, items_from, beats_with}
use Rattle.memory_machines.specs.Machines.{Raw, raw_at, raws, idle, mark, burst_past, marked, burst_of, IsFitBeat, AreFit, port_of, expand, Expands, parts_at, IsExpanderRun}
use Rattle.memory_machines.specs.SideLaws.{marked_keeps, all_reached, fit_when_shown, legal_when_shown}

-- the beats that a side has shown before a cycle
abbrev pub shown_raws : Port → ℕ → List Raw
shown_raws port k = raws port k ++ standing (shows port.commands.signals) (takes port) (raw_at port) k

-- what a side shows is told by them
pub shown_is : (port : Port) (end k : ℕ) → AreLegalAt port end → k ≤ end → shown_at port k ≡ marked port.shape idle (shown_raws port k)
shown_is port end k legal h =
    shown_is_accepted_and_standing (shows port.commands.signals) (takes port) (marked_at port) end k (marked_keeps port end legal) h
    ∙ ap₂ (λ l m. l ++ m) (taken_is port k) (stood k) ∙ sym (marked_append port.shape idle (raws port k) (standing (shows port.commands.signals) (takes port) (raw_at port) k))
  where
    stood : (k : ℕ) → standing (shows port.commands.signals) (takes port) (marked_at port) k ≡ marked port.shape (burst_of port.shape idle (raws port k)) (standing (shows port.commands.signals) (takes port) (raw_at port) k)
    stood zero = refl
    stood (suc c) = by_test (is_held port.commands.signals (takes port) c) refl
      where
        by_test : (b : Bool) → is_held port.commands.signals (takes port) c ≡ b → only_if b (marked_at port c) ≡ marked port.shape (burst_of port.shape idle (raws port (suc c))) (only_if b (raw_at port c))
        by_test false held = refl
        by_test true held =
            let not_accepted : takes port c ≡ false = not-true (takes port c) (and_parts (shows port.commands.signals c) (not (takes port c)) held).1 in
            let same : raws port (suc c) ≡ raws port c = ap (λ b. raws port c ++ only_if b (raw_at port c)) not_accepted ∙ append-nil _ in
            ap (λ b. mark port.shape b (raw_at port c) ∷ []) (burst_is port c ∙ ap (burst_of port.shape idle) (sym same))

-- and all that a legal side shows is fit
pub shown_fit : (port : Port) (end k : ℕ) → AreLegalAt port end → k ≤ end → AreFit port.shape idle (shown_raws port k)
shown_fit port end zero legal h = tt
shown_fit port end (suc c) legal h = by_test (is_held port.commands.signals (takes port) c) refl
  where
    by_test : (b : Bool) → is_held port.commands.signals (takes port) c ≡ b → AreFit port.shape idle (raws port (suc c) ++ only_if b (raw_at port c))
    by_test false held = subst (AreFit port.shape idle) (sym (append-nil (raws port (suc c)))) (fits port end (suc c) legal h)
    by_test true held =
        let not_accepted : takes port c ≡ false = not-true (takes port c) (and_parts (shows port.commands.signals c) (not (takes port c)) held).1 in
        let same : raws port (suc c) ≡ raws port c = ap (λ b. raws port c ++ only_if b (raw_at port c)) not_accepted ∙ append-nil _ in
        let fit = fit_when_shown port end c legal h (and_parts (shows port.commands.signals c) (not (takes port c)) held).0 in
        subst (λ l. AreFit port.shape idle (l ++ raw_at port c ∷ [])) (sym same)
        (fit_push port.shape idle (raws port c) (raw_at port c) (fits port end c legal (omega arith)) (subst (λ b. IsFitBeat port.shape b (raw_at port c)) (burst_is port c) fit))

same_head : {A : Type 0} (xs : List A) (a b : A) (l m : List A) → xs ++ a ∷ l ≡ xs ++ b ∷ m → a ≡ b
same_head [] a b l m e = cc
same_head (x ∷ xs) a b l m e = same_head xs a b l m cc

module _ (target : Target) (wide narrow : Shape) (parts : Burst → Raw → List Raw)
    (Stands : Burst → Type 0) (first_stands : Stands idle) (stays : (burst : Burst) (raw : Raw) → IsFitBeat wide burst raw → Stands burst → Stands (burst_past wide burst raw))
    (law : (burst : Burst) (raw : Raw) (below : Burst) → IsFitBeat wide burst raw → Stands burst → below.left ≡ 0 → Expands target wide narrow parts burst raw below)
    (uc dc : CommandView) (ua da : AnswerView) (sent rest : ℕ → List Raw) (end : ℕ) (run : IsExpanderRun parts (port_of wide uc ua) (port_of narrow dc da) sent rest end) where
  after_step : (c : ℕ) → c < end → (t : Bool) → takes (port_of wide uc ua) c ≡ t →
      (expand wide parts idle (raws (port_of wide uc ua) c) ++ sent c) ++ only_if (takes (port_of narrow dc da) c) (raw_at (port_of narrow dc da) c)
      ≡ expand wide parts idle (raws (port_of wide uc ua) c ++ only_if t (raw_at (port_of wide uc ua) c)) ++ (if t then [] else sent c ++ only_if (takes (port_of narrow dc da) c) (raw_at (port_of narrow dc da) c))
  after_step c h true taken =
      append_assoc (expand wide parts idle (raws (port_of wide uc ua) c)) (sent c) _
      ∙ ap (λ l. expand wide parts idle (raws (port_of wide uc ua) c) ++ l)
      (run.accepts c (omega arith) taken ∙ ap (λ b. parts b (raw_at (port_of wide uc ua) c)) (burst_is (port_of wide uc ua) c) ∙ sym (append-nil _))
      ∙ sym (expand_append wide parts idle (raws (port_of wide uc ua) c) (raw_at (port_of wide uc ua) c ∷ [])) ∙ sym (append-nil _)
  after_step c h false taken =
      append_assoc (expand wide parts idle (raws (port_of wide uc ua) c)) (sent c) _
      ∙ ap (λ l. expand wide parts idle l ++ (sent c ++ only_if (takes (port_of narrow dc da) c) (raw_at (port_of narrow dc da) c))) (sym (append-nil (raws (port_of wide uc ua) c)))

  -- what was taken below are the parts of what was taken above, and those that have gone since
  pub gone : (c : ℕ) → c ≤ end → raws (port_of narrow dc da) c ≡ expand wide parts idle (raws (port_of wide uc ua) c) ++ sent c
  gone zero h = sym run.begins
  gone (suc c) h =
      ap (λ l. l ++ only_if (takes (port_of narrow dc da) c) (raw_at (port_of narrow dc da) c)) (gone c (omega arith))
      ∙ after_step c h (takes (port_of wide uc ua) c) refl
      ∙ ap (λ l. expand wide parts idle (raws (port_of wide uc ua) (suc c)) ++ l) (sym (run.next c))

  module _ (legal : AreLegalAt (port_of wide uc ua) end) where
    keeps_above : KeepsItems (shows uc.signals) (takes (port_of wide uc ua)) (raw_at (port_of wide uc ua)) end
    keeps_above =
        let keeps = legal_keeps wide uc.signals (takes (port_of wide uc ua)) end (accepts_shows uc.signals uc.waitrequest) legal.legal in
        record {
          accepted = keeps.accepted;
          held = λ c h stands. ((keeps.held c h stands).0, same c (legal.legal.held c h stands) (legal.tag c h stands) (legal.more c h stands));
        }
      where
        same : (c : ℕ) → levels_at uc.signals c ≡ levels_at uc.signals (suc c) → uc.tag c ≡ uc.tag (suc c) → uc.more c ≡ uc.more (suc c) → raw_at (port_of wide uc ua) c ≡ raw_at (port_of wide uc ua) (suc c)
        same c l t m = cc

    same_burst : (c : ℕ) → takes (port_of wide uc ua) c ≡ false → burst_before wide uc.signals (takes (port_of wide uc ua)) c ≡ burst_before wide uc.signals (takes (port_of wide uc ua)) (suc c)
    same_burst c none = rw none refl

    same_parts : (c : ℕ) → suc c < end → shows uc.signals c ≡ true → takes (port_of wide uc ua) c ≡ false →
        (parts_at parts (port_of wide uc ua) c ≡ parts_at parts (port_of wide uc ua) (suc c)) × (shows uc.signals (suc c) ≡ true)
    same_parts c h shown none =
        let stands : stands_on (shows uc.signals) (takes (port_of wide uc ua)) c ≡ true = ap₂ (λ s t. s && not t) shown none in
        let held = keeps_above.held c h stands in
        (ap₂ parts (same_burst c none) held.1, held.0)

    -- what has gone is the front of the parts of what stands above, and nothing where nothing stands
    front : (c : ℕ) → c < end → (shows uc.signals c ≡ true → IsPrefix (sent c) (parts_at parts (port_of wide uc ua) c)) × (shows uc.signals c ≡ false → sent c ≡ [])
    front zero h = (λ shown. subst (λ l. IsPrefix l (parts_at parts (port_of wide uc ua) 0)) (sym run.begins) (record { rest = _; joins = refl }), λ none. run.begins)
    front (suc c) h = by_taken (takes (port_of wide uc ua) c) refl (shows uc.signals c) refl (takes (port_of narrow dc da) c) refl (front c (omega arith)) (run.next c)
      where
        by_taken : (t : Bool) → takes (port_of wide uc ua) c ≡ t → (s : Bool) → shows uc.signals c ≡ s → (d : Bool) → takes (port_of narrow dc da) c ≡ d →
            (shows uc.signals c ≡ true → IsPrefix (sent c) (parts_at parts (port_of wide uc ua) c)) × (shows uc.signals c ≡ false → sent c ≡ []) →
            sent (suc c) ≡ (if takes (port_of wide uc ua) c then [] else sent c ++ only_if (takes (port_of narrow dc da) c) (raw_at (port_of narrow dc da) c)) →
            (shows uc.signals (suc c) ≡ true → IsPrefix (sent (suc c)) (parts_at parts (port_of wide uc ua) (suc c))) × (shows uc.signals (suc c) ≡ false → sent (suc c) ≡ [])
        by_taken true t s shown d taken earlier next =
            let none : sent (suc c) ≡ [] = next ∙ ap (λ b. if b then [] else sent c ++ only_if (takes (port_of narrow dc da) c) (raw_at (port_of narrow dc da) c)) t in
            (λ shown. subst (λ l. IsPrefix l (parts_at parts (port_of wide uc ua) (suc c))) (sym none) (record { rest = _; joins = refl }), λ quiet. none)
        by_taken false t true shown d taken earlier next =
            let there = same_parts c h shown t in
            let now : sent (suc c) ≡ sent c ++ only_if d (raw_at (port_of narrow dc da) c) = next ∙ ap₂ (λ a b. if a then [] else sent c ++ only_if b (raw_at (port_of narrow dc da) c)) t taken in
            (λ later. subst (λ l. IsPrefix l (parts_at parts (port_of wide uc ua) (suc c))) (sym now) (subst (λ l. IsPrefix (sent c ++ only_if d (raw_at (port_of narrow dc da) c)) l) there.0 (grown d taken (earlier.0 shown))), λ quiet. cc)
          where
            grown : (d : Bool) → takes (port_of narrow dc da) c ≡ d → IsPrefix (sent c) (parts_at parts (port_of wide uc ua) c) → IsPrefix (sent c ++ only_if d (raw_at (port_of narrow dc da) c)) (parts_at parts (port_of wide uc ua) c)
            grown true taken p =
                let below = accepts_shows dc.signals dc.waitrequest c taken in
                record { rest = rest c; joins = append_assoc (sent c) (raw_at (port_of narrow dc da) c ∷ []) (rest c) ∙ sym (run.part c (omega arith) below) }
            grown false taken p = subst (λ l. IsPrefix l (parts_at parts (port_of wide uc ua) c)) (sym (append-nil (sent c))) p
        by_taken false t false shown true taken earlier next = let bad = run.stands c (omega arith) (accepts_shows dc.signals dc.waitrequest c taken) in cc
        by_taken false t false shown false taken earlier next =
            let none : sent (suc c) ≡ [] = next ∙ ap₂ (λ a b. if a then [] else sent c ++ only_if b (raw_at (port_of narrow dc da) c)) t taken ∙ append-nil (sent c) ∙ earlier.1 shown in
            (λ shown. subst (λ l. IsPrefix l (parts_at parts (port_of wide uc ua) (suc c))) (sym none) (record { rest = _; joins = refl }), λ quiet. none)

    -- with the beat that stands above there are the parts that have gone, the one that is shown below, and the rest
    whole : (c : ℕ) → c < end → (shown : shows dc.signals c ≡ true) → expand wide parts idle (raws (port_of wide uc ua) c ++ raw_at (port_of wide uc ua) c ∷ []) ≡ raws (port_of narrow dc da) c ++ raw_at (port_of narrow dc da) c ∷ rest c
    whole c h shown =
        expand_append wide parts idle (raws (port_of wide uc ua) c) (raw_at (port_of wide uc ua) c ∷ [])
        ∙ ap (λ l. expand wide parts idle (raws (port_of wide uc ua) c) ++ l)
        (append-nil (parts (burst_of wide idle (raws (port_of wide uc ua) c)) (raw_at (port_of wide uc ua) c)) ∙ ap (λ b. parts b (raw_at (port_of wide uc ua) c)) (sym (burst_is (port_of wide uc ua) c)) ∙ run.part c (omega arith) shown)
        ∙ sym (append_assoc (expand wide parts idle (raws (port_of wide uc ua) c)) (sent c) (raw_at (port_of narrow dc da) c ∷ rest c))
        ∙ ap (λ l. l ++ raw_at (port_of narrow dc da) c ∷ rest c) (sym (gone c (omega arith)))

    fit_below : (c : ℕ) → c < end → shows dc.signals c ≡ true → IsFitBeat narrow (burst_before narrow dc.signals (takes (port_of narrow dc da)) c) (raw_at (port_of narrow dc da) c)
    fit_below c h shown =
        let fit = fit_when_shown (port_of wide uc ua) end c legal h (run.stands c (omega arith) shown) in
        let above = fit_push wide idle (raws (port_of wide uc ua) c) (raw_at (port_of wide uc ua) c) (fits (port_of wide uc ua) end c legal (omega arith)) (subst (λ b. IsFitBeat wide b (raw_at (port_of wide uc ua) c)) (burst_is (port_of wide uc ua) c) fit) in
        let below = (expand_fits target wide narrow parts Stands stays law idle (raws (port_of wide uc ua) c ++ raw_at (port_of wide uc ua) c ∷ []) idle above first_stands refl).0 in
        let here = fit_at narrow idle (raws (port_of narrow dc da) c) (raw_at (port_of narrow dc da) c) (rest c) (subst (AreFit narrow idle) (whole c h shown) below) in
        subst (λ b. IsFitBeat narrow b (raw_at (port_of narrow dc da) c)) (sym (burst_is (port_of narrow dc da) c)) here

    still : (c : ℕ) → c < end → is_held dc.signals (takes (port_of narrow dc da)) c ≡ true → sent (suc c) ≡ sent c
    still c h held =
        let below : takes (port_of narrow dc da) c ≡ false = not-true (takes (port_of narrow dc da) c) (and_parts (shows dc.signals c) (not (takes (port_of narrow dc da) c)) held).1 in
        run.next c ∙ ap₂ (λ a b. if a then [] else sent c ++ only_if b (raw_at (port_of narrow dc da) c)) (run.waits c (omega arith) held) below ∙ append-nil (sent c)

    held_on : (c : ℕ) → suc c < end → is_held dc.signals (takes (port_of narrow dc da)) c ≡ true → raw_at (port_of narrow dc da) c ≡ raw_at (port_of narrow dc da) (suc c)
    held_on c h held =
        let shown = (and_parts (shows dc.signals c) (not (takes (port_of narrow dc da) c)) held).0 in
        let later = run.keeps c h held in
        let same = (same_parts c h (run.stands c (omega arith) shown) (run.waits c (omega arith) held)).0 in
        same_head (sent c) (raw_at (port_of narrow dc da) c) (raw_at (port_of narrow dc da) (suc c)) (rest c) (rest (suc c))
        (sym (run.part c (omega arith) shown) ∙ same ∙ run.part (suc c) h later ∙ ap (λ l. l ++ raw_at (port_of narrow dc da) (suc c) ∷ rest (suc c)) (still c (omega arith) held))

    pub expander_legal : AreLegalAt (port_of narrow dc da) end
    expander_legal = legal_when_shown narrow dc da end fit_below held_on

    -- of the parts of the beat that stands, those that have gone and the one that stands are the front
    or_stands : (c : ℕ) → c < end → shows uc.signals c ≡ true → (d s : Bool) → shows dc.signals c ≡ s → takes (port_of narrow dc da) c ≡ d →
        IsPrefix ((sent c ++ only_if d (raw_at (port_of narrow dc da) c)) ++ only_if (s && not d) (raw_at (port_of narrow dc da) c)) (parts_at parts (port_of wide uc ua) c)
    or_stands c h above true true shown taken = record { rest = rest c; joins = ap (λ l. l ++ rest c) (append-nil _) ∙ append_assoc (sent c) (raw_at (port_of narrow dc da) c ∷ []) (rest c) ∙ sym (run.part c (omega arith) shown) }
    or_stands c h above true false shown taken = let bad = accepts_shows dc.signals dc.waitrequest c taken in cc
    or_stands c h above false true shown taken = record { rest = rest c; joins = ap (λ l. (l ++ raw_at (port_of narrow dc da) c ∷ []) ++ rest c) (append-nil (sent c)) ∙ append_assoc (sent c) (raw_at (port_of narrow dc da) c ∷ []) (rest c) ∙ sym (run.part c (omega arith) shown) }
    or_stands c h above false false shown taken = subst (λ l. IsPrefix l (parts_at parts (port_of wide uc ua) c)) (sym (append-nil (sent c ++ []) ∙ append-nil (sent c))) ((front c h).0 above)

    -- where nothing of the beat above has gone and none of it stands
    nothing_more : (c : ℕ) → suc c ≤ end → sent (suc c) ≡ [] → is_held dc.signals (takes (port_of narrow dc da)) c ≡ false → is_held uc.signals (takes (port_of wide uc ua)) c ≡ false →
        IsPrefix (shown_raws (port_of narrow dc da) (suc c)) (expand wide parts idle (shown_raws (port_of wide uc ua) (suc c)))
    nothing_more c h none below above =
        let all = expand wide parts idle (raws (port_of wide uc ua) (suc c)) in
        let left : shown_raws (port_of narrow dc da) (suc c) ≡ all =
        ap₂ (λ l b. l ++ only_if b (raw_at (port_of narrow dc da) c)) (gone (suc c) h ∙ ap (λ l. all ++ l) none ∙ append-nil all) below ∙ append-nil all in
        let right : expand wide parts idle (shown_raws (port_of wide uc ua) (suc c)) ≡ all =
        ap (λ b. expand wide parts idle (raws (port_of wide uc ua) (suc c) ++ only_if b (raw_at (port_of wide uc ua) c))) above ∙ ap (expand wide parts idle) (append-nil (raws (port_of wide uc ua) (suc c))) in
        record { rest = []; joins = append-nil _ ∙ left ∙ sym right }

    pub shown_below : (k : ℕ) → k ≤ end → IsPrefix (shown_raws (port_of narrow dc da) k) (expand wide parts idle (shown_raws (port_of wide uc ua) k))
    shown_below zero h = record { rest = []; joins = refl }
    shown_below (suc c) h = by_taken (takes (port_of wide uc ua) c) refl (shows uc.signals c) refl (is_held dc.signals (takes (port_of narrow dc da)) c) refl
      where
        by_taken : (t : Bool) → takes (port_of wide uc ua) c ≡ t → (s : Bool) → shows uc.signals c ≡ s → (b : Bool) → is_held dc.signals (takes (port_of narrow dc da)) c ≡ b →
            IsPrefix (shown_raws (port_of narrow dc da) (suc c)) (expand wide parts idle (shown_raws (port_of wide uc ua) (suc c)))
        by_taken true t s shown true held = let bad = run.waits c (omega arith) held in cc
        by_taken true t true shown false held =
            nothing_more c h (run.next c ∙ ap (λ b. if b then [] else sent c ++ only_if (takes (port_of narrow dc da) c) (raw_at (port_of narrow dc da) c)) t) held (ap₂ (λ s t. s && not t) shown t)
        by_taken true t false shown false held =
            nothing_more c h (run.next c ∙ ap (λ b. if b then [] else sent c ++ only_if (takes (port_of narrow dc da) c) (raw_at (port_of narrow dc da) c)) t) held (ap₂ (λ s t. s && not t) shown t)
        by_taken false t true shown b held =
            let all = expand wide parts idle (raws (port_of wide uc ua) (suc c)) in
            let more = (sent c ++ only_if (takes (port_of narrow dc da) c) (raw_at (port_of narrow dc da) c)) in
            let stands = only_if (is_held dc.signals (takes (port_of narrow dc da)) c) (raw_at (port_of narrow dc da) c) in
            let same : raws (port_of wide uc ua) (suc c) ≡ raws (port_of wide uc ua) c = ap (λ b. raws (port_of wide uc ua) c ++ only_if b (raw_at (port_of wide uc ua) c)) t ∙ append-nil _ in
            let burst : burst_of wide idle (raws (port_of wide uc ua) (suc c)) ≡ burst_before wide uc.signals (takes (port_of wide uc ua)) c = ap (burst_of wide idle) same ∙ sym (burst_is (port_of wide uc ua) c) in
            let right : expand wide parts idle (shown_raws (port_of wide uc ua) (suc c)) ≡ all ++ parts_at parts (port_of wide uc ua) c =
            ap₂ (λ s t. expand wide parts idle (raws (port_of wide uc ua) (suc c) ++ only_if (s && not t) (raw_at (port_of wide uc ua) c))) shown t
            ∙ expand_append wide parts idle (raws (port_of wide uc ua) (suc c)) (raw_at (port_of wide uc ua) c ∷ [])
            ∙ ap (λ l. all ++ l) (append-nil (parts (burst_of wide idle (raws (port_of wide uc ua) (suc c))) (raw_at (port_of wide uc ua) c)) ∙ ap (λ b. parts b (raw_at (port_of wide uc ua) c)) burst) in
            let left : shown_raws (port_of narrow dc da) (suc c) ≡ all ++ (more ++ stands) =
            ap (λ l. l ++ stands) (gone (suc c) h ∙ ap (λ l. all ++ l) (run.next c ∙ ap (λ b. if b then [] else more) t)) ∙ append_assoc all more stands in
            subst (λ l. IsPrefix l (expand wide parts idle (shown_raws (port_of wide uc ua) (suc c)))) (sym left)
            (subst (λ r. IsPrefix (all ++ (more ++ stands)) r) (sym right) (prefix_behind all (or_stands c h shown (takes (port_of narrow dc da) c) (shows dc.signals c) refl refl)))
        by_taken false t false shown true held = let bad = run.stands c (omega arith) (and_parts (shows dc.signals c) (not (takes (port_of narrow dc da) c)) held).0 in cc
        by_taken false t false shown false held = by_below (takes (port_of narrow dc da) c) refl
          where
            by_below : (d : Bool) → takes (port_of narrow dc da) c ≡ d → IsPrefix (shown_raws (port_of narrow dc da) (suc c)) (expand wide parts idle (shown_raws (port_of wide uc ua) (suc c)))
            by_below true d = let bad = run.stands c (omega arith) (accepts_shows dc.signals dc.waitrequest c d) in cc
            by_below false d =
                nothing_more c h (run.next c ∙ ap₂ (λ a b. if a then [] else sent c ++ only_if b (raw_at (port_of narrow dc da) c)) t d ∙ append-nil (sent c) ∙ (front c h).1 shown) held (ap₂ (λ s t. s && not t) shown t)

    marked_prefix : {xs ys : List Raw} → IsPrefix xs ys → IsPrefix (marked narrow idle xs) (marked narrow idle ys)
    marked_prefix {xs} p = record { rest = marked narrow (burst_of narrow idle xs) p.rest; joins = sym (marked_append narrow idle xs p.rest) ∙ ap (marked narrow idle) p.joins }

    -- what is shown below is the front of the parts of what is shown above
    transfers_below : (k : ℕ) → k ≤ end → IsPrefix (shown_at (port_of narrow dc da) k) (marked narrow idle (expand wide parts idle (shown_raws (port_of wide uc ua) k)))
    transfers_below k h = subst (λ l. IsPrefix l (marked narrow idle (expand wide parts idle (shown_raws (port_of wide uc ua) k)))) (sym (shown_is (port_of narrow dc da) end k expander_legal h)) (marked_prefix (shown_below k h))

    -- all that is said of commands, and nothing is held
    pub expander_commands : CarriesCommands target 0 (port_of wide uc ua) (port_of narrow dc da) end
    expander_commands = record {
      in_order = λ k h.
          subst (λ l. IsPrefix (items target (port_of narrow dc da) k) (items_from target wide false l)) (sym (shown_is (port_of wide uc ua) end k legal h))
          (subst (λ l. IsPrefix (items target (port_of narrow dc da) k) l) (expand_items target wide narrow parts Stands stays law idle (shown_raws (port_of wide uc ua) k) idle false (shown_fit (port_of wide uc ua) end k legal h) first_stands refl)
          (items_prefix target narrow false (transfers_below k h)));
      beats = λ k tag h.
          let all = expand_beats target wide narrow parts Stands stays law tag idle (shown_raws (port_of wide uc ua) k) idle (shown_fit (port_of wide uc ua) end k legal h) first_stands refl in
          let fewer = prefix_length (prefix_flat_map (λ (m : Marked). m.transfer.beats) (prefix_filter (λ (m : Marked). nat_eq m.tag tag) (transfers_below k h))) in
          let above : pieces wide narrow * length (beats_with tag (marked wide idle (shown_raws (port_of wide uc ua) k))) ≡ pieces wide narrow * length (beats_with tag (shown_at (port_of wide uc ua) k)) =
          ap (λ l. pieces wide narrow * length (beats_with tag l)) (sym (shown_is (port_of wide uc ua) end k legal h)) in
          omega (arith, all, fewer, above);
      legal = expander_legal;
      held = λ k h.
          let parts_taken = expand wide parts idle (raws (port_of wide uc ua) k) in
          let split : taken_at (port_of narrow dc da) k ≡ marked narrow idle parts_taken ++ marked narrow (burst_of narrow idle parts_taken) (sent k) =
          taken_is (port_of narrow dc da) k ∙ ap (marked narrow idle) (gone k h) ∙ marked_append narrow idle parts_taken (sent k) in
          let front : IsPrefix (marked narrow idle parts_taken) (taken_at (port_of narrow dc da) k) = record { rest = marked narrow (burst_of narrow idle parts_taken) (sent k); joins = sym split } in
          let fewer : length (operations_among target narrow (marked narrow idle parts_taken)) ≤ length (operations_among target narrow (taken_at (port_of narrow dc da) k)) = prefix_length (prefix_flat_map (operations_in target narrow) front) in
          let same : length (operations_among target narrow (marked narrow idle parts_taken)) ≡ length (operations_among target wide (taken_at (port_of wide uc ua) k)) =
          ap length (expand_operations target wide narrow parts Stands stays law idle (raws (port_of wide uc ua) k) idle (fits (port_of wide uc ua) end k legal h) first_stands refl ∙ ap (operations_among target wide) (sym (taken_is (port_of wide uc ua) k))) in
          let sum = total_sizes target wide (taken_at (port_of wide uc ua) k) in
          le_of_eq (all_reached (sizes target wide (taken_at (port_of wide uc ua) k)) (length (operations_among target narrow (taken_at (port_of narrow dc da) k))) (omega (arith, fewer, same, sum)));
      whole = λ k h.
          subst (λ l. AreWithin (sizes target narrow (shown_at (port_of narrow dc da) k)) (sizes target wide l)) (sym (shown_is (port_of wide uc ua) end k legal h))
          (within_trans _ _ _ (transfers_within target narrow (transfers_below k h)) (expand_within target wide narrow parts Stands stays law idle (shown_raws (port_of wide uc ua) k) idle (shown_fit (port_of wide uc ua) end k legal h) first_stands refl));
    }
