-- A splitter shows a first beat in its own cycle, once all earlier ones are taken and answered.
use Rattle.std.proofs.Common.{ℕ, suc, ◌<◌, ◌≤◌, ◌≡◌, ◌+◌, ◌*◌, Bool, true, false, not, ◌&&◌, ◌||◌, List, [], ◌∷◌, ◌++◌, if◌then◌else◌, arith, refl, sym, ap, ap₂, subst, ◌∙◌, length, map, filter, flat_map, nat_lt, nat_eq, append-nil, append_assoc, length-append, ltb-true}
use Rattle.std.proofs.lemmas.Bool.{and_parts}
use Rattle.std.proofs.lemmas.List.{map-append, length-map}
use Rattle.std.proofs.lemmas.Grind.{flat_map-append}
use Rattle.histories.specs.History.{is_raised, only_if, numbers, IsPrefix}
use Rattle.memory_runs.specs.Operations.{filled_lanes, pieces}
use Rattle.memory_runs.specs.Views.{Shape, levels_at}
use Rattle.memory_runs.specs.Commands.{shows, is_held, is_of_reads, burst_before, write_transfer, read_transfer}
use Rattle.memory_machines.specs.Link.{Target, Port, Marked, AreLegalAt, AnswersAreOwed, CarriesCommands, takes, marked_at, taken_at, shown_at, operations_among, operations_in, is_nonempty, sizes, words_at, words_owed}
use Rattle.memory_machines.specs.Machines.{Raw, raw_at, raws, parts_sent, single, joined, piece_of, beat_of, MaySplit}
use Rattle.memory_links.specs.Begins.{BeginsBelow, operations_taken}
use Rattle.memory_links.specs.Splits.{SplitState, RunsAsSplit, split_at, opens, or_first_piece}
use Rattle.memory_links.proofs.Gated.{total_sizes}
use Rattle.memory_links.proofs.Gather.{HasPieces, cut_of, has_lane_in, spread, wide_lanes}
use Rattle.memory_links.proofs.OneBeat.{flat_mark, flat_shown, flat_at, shown_raws}
use Rattle.memory_links.proofs.Beginning.{first_parts, taken_one, shown_later}
use Rattle.memory_links.proofs.InStep.{both}
use Rattle.memory_links.proofs.Prompt.{some_in, is_some}
use Rattle.memory_links.proofs.Splitting.{shown_above, either_of, same_true}
use Rattle.memory_links.proofs.SplitParts.{parts_of, parts_are, sent_pieces, chosen, raws_below, write_below}
use Rattle.memory_links.proofs.SplitWords.{none_owed}
use Rattle.memory_links.proofs.SplitShown.{going_front, upper_acts, acts, ArePartsOf, are_parts, no_lane}
use Rattle.memory_links.proofs.SplitShown.ArePartsOf.{last_part, more_parts, no_parts}
use Rattle.memory_links.proofs.SplitLink.{Carries, carried, one_up, one_down, up_taken, shut, reached_all}

one_size : {A B : Type 0} (f : A → B) (xs : List A) → length (map f xs ++ []) ≡ length xs
one_size f xs = ap length (append-nil (map f xs)) ∙ length-map xs f

module _ (law : HasPieces) (target : Target) (wide narrow : Shape) (count : ℕ) (may : MaySplit target wide narrow count) where
  -- the parts of a beat have as many operations as it has
  joined_sizes : (raw : Raw) (tag last : ℕ) (ps : List ℕ) → length (operations_among target narrow (map (flat_mark narrow) (joined tag last (map (piece_of narrow.word_bytes (beat_of wide raw.levels)) ps))))
      ≡ length (spread narrow.word_bytes (λ p. filled_lanes narrow target.shape (cut_of narrow.word_bytes raw.levels.enables p)) ps)
  joined_sizes raw tag last [] = refl
  joined_sizes raw tag last (p ∷ []) =
      ap length (append-nil _) ∙ one_size _ (filled_lanes narrow target.shape (cut_of narrow.word_bytes raw.levels.enables p))
      ∙ sym (one_size (λ lane. p * narrow.word_bytes + lane) (filled_lanes narrow target.shape (cut_of narrow.word_bytes raw.levels.enables p)))
  joined_sizes raw tag last (p ∷ q ∷ ps) =
      let lanes = filled_lanes narrow target.shape (cut_of narrow.word_bytes raw.levels.enables p) in
      let rest = joined_sizes raw tag last (q ∷ ps) in
      length-append (operations_in target narrow (flat_mark narrow (single tag 1 (piece_of narrow.word_bytes (beat_of wide raw.levels) p)))) _
      ∙ ap₂ (λ a b. a + b) (one_size _ lanes ∙ sym (length-map lanes (λ lane. p * narrow.word_bytes + lane))) rest
      ∙ sym (length-append (map (λ lane. p * narrow.word_bytes + lane) lanes) _)

  pub parts_sizes : (raw : Raw) → length (operations_among target narrow (map (flat_mark narrow) (parts_of wide narrow raw))) ≡ length (operations_in target wide (flat_mark wide raw))
  parts_sizes raw =
      ap (λ l. length (operations_among target narrow (map (flat_mark narrow) l))) (parts_are wide narrow raw)
      ∙ joined_sizes raw raw.tag raw.more (sent_pieces wide narrow raw)
      ∙ by_list (filter (has_lane_in narrow.word_bytes raw.levels.enables) (numbers 0 (pieces wide narrow))) refl (not (is_raised raw.more) || not (is_raised raw.levels.write))
      ∙ sym (one_size _ (filled_lanes wide target.shape raw.levels.enables))
    where
      asked_sizes : (l : List ℕ) → filter (has_lane_in narrow.word_bytes raw.levels.enables) (numbers 0 (pieces wide narrow)) ≡ l →
          length (spread narrow.word_bytes (λ p. filled_lanes narrow target.shape (cut_of narrow.word_bytes raw.levels.enables p)) (or_first_piece l)) ≡ length (filled_lanes wide target.shape raw.levels.enables)
      asked_sizes l e =
          ap (λ ns. length (spread narrow.word_bytes (λ p. filled_lanes narrow target.shape (cut_of narrow.word_bytes raw.levels.enables p)) (or_first_piece ns))) (sym e)
          ∙ ap length (sym (wide_lanes law wide narrow target.shape may.some may.same count may.one may.whole raw.levels.enables))

      by_list : (l : List ℕ) → filter (has_lane_in narrow.word_bytes raw.levels.enables) (numbers 0 (pieces wide narrow)) ≡ l → (needed : Bool) →
          length (spread narrow.word_bytes (λ p. filled_lanes narrow target.shape (cut_of narrow.word_bytes raw.levels.enables p)) (chosen needed (filter (has_lane_in narrow.word_bytes raw.levels.enables) (numbers 0 (pieces wide narrow))))) ≡ length (filled_lanes wide target.shape raw.levels.enables)
      by_list (p ∷ ps) e needed =
          ap (λ ns. length (spread narrow.word_bytes (λ p. filled_lanes narrow target.shape (cut_of narrow.word_bytes raw.levels.enables p)) (chosen needed ns))) e ∙ asked_sizes (p ∷ ps) e
      by_list [] e true =
          ap (λ ns. length (spread narrow.word_bytes (λ p. filled_lanes narrow target.shape (cut_of narrow.word_bytes raw.levels.enables p)) (chosen true ns))) e ∙ asked_sizes [] e
      by_list [] e false =
          ap (λ ns. length (spread narrow.word_bytes (λ p. filled_lanes narrow target.shape (cut_of narrow.word_bytes raw.levels.enables p)) (chosen false ns))) e
          ∙ none_in (filled_lanes wide target.shape raw.levels.enables) (no_lane law target wide narrow count may raw.levels.enables e).1
        where
          none_in : (xs : List ℕ) → is_nonempty xs ≡ false → 0 ≡ length xs
          none_in [] f = refl
          none_in (x ∷ xs) f = cc

  pub all_sizes : (rs : List Raw) → length (operations_among target narrow (map (flat_mark narrow) (flat_map (parts_of wide narrow) rs))) ≡ length (operations_among target wide (map (flat_mark wide) rs))
  all_sizes [] = refl
  all_sizes (r ∷ rs) =
      ap length (ap (operations_among target narrow) (map-append (flat_mark narrow) (parts_of wide narrow r) (flat_map (parts_of wide narrow) rs))
      ∙ flat_map-append (operations_in target narrow) (map (flat_mark narrow) (parts_of wide narrow r)) (map (flat_mark narrow) (flat_map (parts_of wide narrow) rs)))
      ∙ length-append (operations_among target narrow (map (flat_mark narrow) (parts_of wide narrow r))) _
      ∙ ap₂ (λ a b. a + b) (parts_sizes r) (all_sizes rs)
      ∙ sym (length-append (operations_in target wide (flat_mark wide r)) _)

  first_acts : (x : Raw) (l : List Raw) → is_nonempty (operations_in target narrow (flat_mark narrow x)) ≡ true → 0 < length (operations_among target narrow (map (flat_mark narrow) (x ∷ l)))
  first_acts x l f =
      let size = length-append (operations_in target narrow (flat_mark narrow x)) (operations_among target narrow (map (flat_mark narrow) l)) in
      let first = some_in (operations_in target narrow (flat_mark narrow x)) f in
      omega (arith, size, first)

  -- a front of the parts of a beat with an operation has one
  pub front_acts : (raw : Raw) (ps : List Raw) → ArePartsOf law target wide narrow count may raw ps → acts law target wide narrow count may raw ≡ true → (l : List Raw) → IsPrefix l (ps ++ []) → 0 < length l →
      0 < length (operations_among target narrow (map (flat_mark narrow) l))
  front_acts raw ps all e [] p some = absurd (omega (arith, some))
  front_acts raw ps (no_parts out) e (x ∷ l) p some = let bad = p.joins in cc
  front_acts raw ps (last_part part is more) e (x ∷ l) p some =
      let joins = p.joins in
      let same : part ≡ x = cc in
      first_acts x l (ap (λ (r : Raw). is_nonempty (operations_in target narrow (flat_mark narrow r))) (sym same) ∙ is.acts_so ∙ e)
  front_acts raw ps (more_parts part next later is more rest) e (x ∷ l) p some =
      let joins = p.joins in
      let same : part ≡ x = cc in
      first_acts x l (ap (λ (r : Raw). is_nonempty (operations_in target narrow (flat_mark narrow r))) (sym same) ∙ is.acts_so ∙ e)

module _ (law : HasPieces) (carries : Carries) (target : Target) (count room : ℕ) (up down : Port) (state : SplitState) (may : MaySplit target up.shape down.shape count) (some_room : 0 < room) (run : RunsAsSplit room up down state)
    (end : ℕ) (legal : AreLegalAt up end) (owed : AnswersAreOwed down end) where
  abbrev pub carry : CarriesCommands target 0 up down end
  carry = carried law carries target count room up down state may some_room run end legal

  -- the beat that stands is shown below, behind all earlier ones
  pub stands_below : (c : ℕ) → c < end → shows up.commands.signals c ≡ true → takes up c ≡ false → words_owed up c ≤ length (words_at up c) → 0 < length (operations_in target up.shape (marked_at up c)) →
      length (operations_among target up.shape (taken_at up c)) < length (operations_among target down.shape (shown_at down (suc c)))
  stands_below c h shown not_taken answered some =
      let same : taken_at up (suc c) ≡ taken_at up c = ap (λ b. taken_at up c ++ only_if b (marked_at up c)) not_taken ∙ append-nil (taken_at up c) in
      subst (λ l. length (operations_among target up.shape l) < length (operations_among target down.shape (shown_at down (suc c)))) same (by_below (shows down.commands.signals c) refl)
    where
      by_below : (d : Bool) → shows down.commands.signals c ≡ d → length (operations_among target up.shape (taken_at up (suc c))) < length (operations_among target down.shape (shown_at down (suc c)))
      by_below false d =
          let waits = (shut law carries target count room up down state may some_room run end legal c h shown not_taken d).some in
          let none = none_owed law target count room up down state may run end legal c (omega (arith, h)) (λ k less. owed k (omega (arith, h, less))) answered in
          absurd (omega (arith, waits, none))
      by_below true d =
          let tail = parts_sent up down (suc c) ++ only_if (is_held down.commands.signals (takes down) c) (raw_at down c) in
          let before = flat_map (parts_of up.shape down.shape) (raws up (suc c)) in
          let raws_are : shown_raws down (suc c) ≡ before ++ tail =
          ap (λ l. l ++ only_if (is_held down.commands.signals (takes down) c) (raw_at down c)) (raws_below room up down state run end legal (suc c) h)
          ∙ append_assoc before (parts_sent up down (suc c)) (only_if (is_held down.commands.signals (takes down) c) (raw_at down c)) in
          let ops : operations_among target down.shape (shown_at down (suc c)) ≡ operations_among target down.shape (map (flat_mark down.shape) before) ++ operations_among target down.shape (map (flat_mark down.shape) tail) =
          ap (operations_among target down.shape) (flat_shown down end carry.legal (one_down law carries target count room up down state may some_room run end legal) (suc c) h ∙ ap (map (flat_mark down.shape)) raws_are ∙ map-append (flat_mark down.shape) before tail)
          ∙ flat_map-append (operations_in target down.shape) (map (flat_mark down.shape) before) (map (flat_mark down.shape) tail) in
          let size = ap length ops ∙ length-append (operations_among target down.shape (map (flat_mark down.shape) before)) (operations_among target down.shape (map (flat_mark down.shape) tail)) in
          let first : length (operations_among target down.shape (map (flat_mark down.shape) before)) ≡ length (operations_among target up.shape (taken_at up (suc c))) =
          all_sizes law target up.shape down.shape count may (raws up (suc c)) ∙ ap (λ l. length (operations_among target up.shape l)) (sym (up_taken law carries target count room up down state may some_room run end legal (suc c) h)) in
          let does : acts law target up.shape down.shape count may (raw_at up c) ≡ true =
          sym (upper_acts law target up.shape down.shape count may (raw_at up c)) ∙ ap (λ (m : Marked). is_nonempty (operations_in target up.shape m)) (sym (flat_at up end legal (one_up law carries target count room up down state may some_room run end legal) c h shown))
          ∙ is_some (operations_in target up.shape (marked_at up c)) some in
          let front : IsPrefix tail (parts_of up.shape down.shape (raw_at up c) ++ []) =
          subst (λ b. IsPrefix tail (flat_map (parts_of up.shape down.shape) (only_if b (raw_at up c)))) (ap₂ (λ s t. s && not t) shown not_taken)
          (going_front room up down state run end legal c h (is_held down.commands.signals (takes down) c) refl (takes up c) refl (shows up.commands.signals c) refl) in
          let more = front_acts law target up.shape down.shape count may (raw_at up c) (parts_of up.shape down.shape (raw_at up c)) (are_parts law target up.shape down.shape count may (raw_at up c)) does tail front (some_stands (takes down c) refl) in
          omega (arith, size, first, more)
        where
          some_stands : (t : Bool) → takes down c ≡ t → 0 < length (parts_sent up down (suc c) ++ only_if (is_held down.commands.signals (takes down) c) (raw_at down c))
          some_stands true t =
              let sent : length (parts_sent up down (suc c)) ≡ length (parts_sent up down c ++ raw_at down c ∷ []) = ap₂ (λ a b. length (if a then [] else parts_sent up down c ++ only_if b (raw_at down c))) not_taken t in
              let size = length-append (parts_sent up down c) (raw_at down c ∷ []) in
              let all = length-append (parts_sent up down (suc c)) (only_if (is_held down.commands.signals (takes down) c) (raw_at down c)) in
              omega (arith, sent, size, all)
          some_stands false t =
              let one : length (only_if (is_held down.commands.signals (takes down) c) (raw_at down c)) ≡ 1 = ap₂ (λ s k. length (only_if (s && not k) (raw_at down c))) d t in
              let all = length-append (parts_sent up down (suc c)) (only_if (is_held down.commands.signals (takes down) c) (raw_at down c)) in
              omega (arith, one, all)

  -- a beat that is accepted is shown below in its last part alone
  pub taken_with : (c : ℕ) → takes up c ≡ true → shows down.commands.signals c ≡ true → takes down c ≡ true
  taken_with c t shown =
      let parts = and_parts (shows up.commands.signals c && opens room up down state c) (nat_eq (length (split_at up down c)) 0 || (takes down c && nat_eq (suc (state.place c)) (length (split_at up down c)))) (sym (run.accepts c) ∙ t) in
      let room_left = ltb-true (state.place c) (length (split_at up down c)) (and_parts (shows up.commands.signals c && opens room up down state c) (nat_lt (state.place c) (length (split_at up down c))) (sym (run.shown c) ∙ shown)).1 in
      either_of (nat_eq (length (split_at up down c)) 0) (takes down c && nat_eq (suc (state.place c)) (length (split_at up down c))) parts.1
      (λ empty. (let none = same_true (length (split_at up down c)) 0 empty in absurd (omega (arith, none, room_left))))
      (λ last. (and_parts (takes down c) (nat_eq (suc (state.place c)) (length (split_at up down c))) last).0)

  -- all that was accepted is taken below
  pub accepted : (c : ℕ) → c ≤ end → operations_taken target up c ≤ operations_taken target down c
  accepted c h =
      let all = reached_all (sizes target up.shape (taken_at up c)) (operations_taken target down c) (carry.held c h) in
      let sum = total_sizes target up.shape (taken_at up c) in
      omega (arith, all, sum)

  pub split_begins : (few : ℕ) (may_burst : Bool) → BeginsBelow few may_burst target up down end
  split_begins few may_burst = record {
    taken = λ c h first t.
        let one = taken_one target up c t in
        let some = some_in (operations_in target up.shape (marked_at up c)) (first_parts may_burst target up c first).acts in
        let all = accepted (suc c) h in
        omega (arith, one, some, all);
    waits = λ c h first not_taken reached given.
        let is = first_parts may_burst target up c first in
        let here = stands_below c (omega (arith, h)) is.shown not_taken given (some_in (operations_in target up.shape (marked_at up c)) is.acts) in
        let more = shown_later target down (suc c) (suc (c + few)) (omega arith) in
        omega (arith, here, more);
    empty = λ c h empty.
        let writes = and_parts (shows down.commands.signals c && not (is_of_reads (marked_at down c).transfer.kind)) _ empty in
        let there = and_parts (shows down.commands.signals c) (not (is_of_reads (marked_at down c).transfer.kind)) writes.0 in
        let above = (shown_above room up down state run end legal c there.0).0 in
        (both above (ap not (kind_of up c _ refl ∙ ap not (sym (write_below room up down state run end legal c there.0)) ∙ sym (kind_of down c _ refl)) ∙ there.1), λ t. taken_with c t there.0);
  }
    where
      kind_of : (port : Port) (c : ℕ) (w : Bool) → is_raised (port.commands.write c) ≡ w → is_of_reads (marked_at port c).transfer.kind ≡ not w
      kind_of port c w e =
          ap (λ w. is_of_reads (if w then write_transfer port.shape (levels_at port.commands.signals c) (burst_before port.shape port.commands.signals (takes port) c) else read_transfer port.shape (levels_at port.commands.signals c)).kind) e ∙ by_write w
        where
          by_write : (w : Bool) → is_of_reads (if w then write_transfer port.shape (levels_at port.commands.signals c) (burst_before port.shape port.commands.signals (takes port) c) else read_transfer port.shape (levels_at port.commands.signals c)).kind ≡ not w
          by_write true = refl
          by_write false = refl
