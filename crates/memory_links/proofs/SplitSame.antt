-- A splitter between equal words sends each beat as one piece: it is straight, and goes in step.
use Rattle.std.proofs.Common.{ℕ, zero, suc, ◌<◌, ◌≤◌, ◌≡◌, ◌+◌, ◌*◌, ◌/◌, ◌%◌, ◌⊎◌, inl, inr, min, Bool, true, false, not, ◌&&◌, ◌||◌, List, [], ◌∷◌, ◌++◌, if◌then◌else◌, arith, refl, sym, ap, ap₂, subst, ◌∙◌, length, map, filter, flat_map, nat_eq, nat_lt, IsTrue, append-nil, ltb-true, le-leb, leb-true}
use Rattle.std.proofs.lemmas.Bool.{and_parts, both_ways, not-true, or_right, eq-eqb}
use Rattle.histories.specs.History.{is_raised, only_if, numbers}
use Rattle.memory_runs.specs.Views.Kind.{Reads, Writes}
use Rattle.memory_runs.specs.Operations.{Beat, operations_of, filled_lanes, operation_at, pieces}
use Rattle.memory_runs.specs.Commands.{shows, byte_address}
use Rattle.memory_machines.specs.Link.{Target, Port, Marked, AreLegalAt, AnswersAreOwed, takes, marked_at, taken_at, operations_in, operations_among, is_nonempty, words_at, words_owed, read_beats, is_last_joined}
use Rattle.memory_machines.specs.Machines.{Raw, raw_at, raws, parts_sent, single, joined, piece_of, beat_of, MaySplit}
use Rattle.memory_machines.specs.Straight.{GoesStraightThrough, has_lane, are_answered, are_just_taken, earlier_shown, shows_plain}
use Rattle.memory_links.specs.Begins.{operations_taken}
use Rattle.memory_links.specs.Drops.{any_lane}
use Rattle.memory_links.specs.InStep.{GoesInStep}
use Rattle.memory_links.specs.Splits.{SplitState, RunsAsSplit, split_at, split_rest, opens}
use Rattle.memory_links.proofs.CutLists.{or_nil}
use Rattle.memory_links.proofs.DropPrompt.{plain_acts}
use Rattle.memory_links.proofs.DropShown.{lanes_are}
use Rattle.memory_links.proofs.Gather.{HasPieces, has_lane_in, piece_count}
use Rattle.memory_links.proofs.InStep.{plain_parts, plain_from, earlier_is, of_next}
use Rattle.memory_links.proofs.OneBeat.{flat_mark, flat_taken, beat_by, aligned, whole_address}
use Rattle.memory_links.proofs.SplitJoins.{joined_last, more_down}
use Rattle.memory_links.proofs.SplitLink.{Carries, carried, one_down, up_taken}
use Rattle.memory_links.proofs.SplitPart.{Acts, above_is, there_is, acts_above, part_shown, last_taken, shows_there}
use Rattle.memory_links.proofs.SplitParts.{parts_of, parts_are, sent_pieces, chosen, raws_below, reads_among}
use Rattle.memory_links.proofs.SplitPrompt.{all_sizes, accepted}
use Rattle.memory_links.proofs.Splitting.{shown_above, shown_taken, part_there}
use Rattle.memory_links.proofs.SplitWords.{owed_below, quiet_below}

joined_length : (tag last : ℕ) (beats : List Beat) → length (joined tag last beats) ≡ length beats
joined_length tag last [] = refl
joined_length tag last (b ∷ []) = refl
joined_length tag last (b ∷ next ∷ later) = ap (λ n. suc n) (joined_length tag last (next ∷ later))

first_is : {A : Type 0} (x y : A) (xs ys : List A) → x ∷ xs ≡ y ∷ ys → x ≡ y
first_is x y xs ys e = cc

module _ (law : HasPieces) (carries : Carries) (target : Target) (count room : ℕ) (up down : Port) (state : SplitState) (may : MaySplit target up.shape down.shape count) (some_room : 0 < room) (run : RunsAsSplit room up down state)
    (end : ℕ) (legal : AreLegalAt up end) (owed : AnswersAreOwed down end) (one : count ≡ 1) where
  legal_there : AreLegalAt down end
  legal_there = (carried law carries target count room up down state may some_room run end legal).legal

  same_words : up.shape.word_bytes ≡ down.shape.word_bytes
  same_words = (let once : 1 * down.shape.word_bytes ≡ down.shape.word_bytes = omega arith in may.whole ∙ ap (λ n. n * down.shape.word_bytes) one ∙ once)

  one_piece : pieces up.shape down.shape ≡ 1
  one_piece = piece_count law up.shape down.shape target.shape may.some may.same count may.one may.whole ∙ one

  -- ---- one piece, or none

  abbrev IsOne : List ℕ → Type 0
  IsOne ps = (ps ≡ []) ⊎ (ps ≡ 0 ∷ [])

  sent_is : (raw : Raw) → IsOne (sent_pieces up.shape down.shape raw)
  sent_is raw = subst (λ n. IsOne (chosen needed (filter (has_lane_in down.shape.word_bytes raw.levels.enables) (numbers 0 n)))) (sym one_piece) (by_test (has_lane_in down.shape.word_bytes raw.levels.enables 0) needed)
    where
      needed : Bool
      needed = not (is_raised raw.more) || not (is_raised raw.levels.write)

      by_test : (t n : Bool) → IsOne (chosen n (if t then 0 ∷ [] else []))
      by_test true n = inr refl
      by_test false true = inr refl
      by_test false false = inl refl

  abbrev part_is : Raw → Raw
  part_is raw = single raw.tag raw.more (piece_of down.shape.word_bytes (beat_of up.shape raw.levels) 0)

  abbrev IsAlone : Raw → List Raw → Type 0
  IsAlone raw ps = (ps ≡ []) ⊎ (ps ≡ part_is raw ∷ [])

  parts_alone : (raw : Raw) → IsAlone raw (parts_of up.shape down.shape raw)
  parts_alone raw = subst (IsAlone raw) (sym (parts_are up.shape down.shape raw)) (by_sent (sent_is raw))
    where
      by_sent : IsOne (sent_pieces up.shape down.shape raw) → IsAlone raw (joined raw.tag raw.more (map (piece_of down.shape.word_bytes (beat_of up.shape raw.levels)) (sent_pieces up.shape down.shape raw)))
      by_sent (inl e) = inl (ap (λ ps. joined raw.tag raw.more (map (piece_of down.shape.word_bytes (beat_of up.shape raw.levels)) ps)) e)
      by_sent (inr e) = inr (ap (λ ps. joined raw.tag raw.more (map (piece_of down.shape.word_bytes (beat_of up.shape raw.levels)) ps)) e)

  few_parts : (c : ℕ) → length (split_at up down c) ≤ 1
  few_parts c = by_alone (parts_alone (raw_at up c))
    where
      by_alone : IsAlone (raw_at up c) (split_at up down c) → length (split_at up down c) ≤ 1
      by_alone (inl e) = let size = ap length e in omega (arith, size)
      by_alone (inr e) = let size = ap length e in omega (arith, size)

  -- it is accepted as it is taken
  taken_above : (c : ℕ) → c < end → takes down c ≡ true → takes up c ≡ true
  taken_above c h t =
      let shown = shown_taken room up down state run end legal c t in
      let above = shown_above room up down state run end legal c shown in
      let low = ltb-true (state.place c) (length (split_at up down c)) (and_parts (shows up.commands.signals c && opens room up down state c) (nat_lt (state.place c) (length (split_at up down c))) (sym (run.shown c) ∙ shown)).1 in
      let few = few_parts c in
      let last : suc (state.place c) ≡ length (split_at up down c) = omega (arith, low, few) in
      run.accepts c ∙ ap₂ (λ x y. x && y) (ap₂ (λ x y. x && y) above.0 above.1) (or_right (nat_eq (length (split_at up down c)) 0) _ (ap₂ (λ x y. x && y) t (eq-eqb _ _ last)))

  none_gone : (c : ℕ) → c ≤ end → parts_sent up down c ≡ []
  none_gone zero h = refl
  none_gone (suc c) h = by_take (takes up c) refl (takes down c) refl (none_gone c (omega (arith, h)))
    where
      by_take : (t : Bool) → takes up c ≡ t → (d : Bool) → takes down c ≡ d → parts_sent up down c ≡ [] → parts_sent up down (suc c) ≡ []
      by_take true t d e before = ap (λ b. if b then [] else parts_sent up down c ++ only_if (takes down c) (raw_at down c)) t
      by_take false t true e before = absurd (both_ways (takes up c) t (taken_above c h e))
      by_take false t false e before = ap₂ (λ a b. if a then [] else parts_sent up down c ++ only_if b (raw_at down c)) t e ∙ append-nil (parts_sent up down c) ∙ before

  alone_shown : (c : ℕ) → c < end → shows down.commands.signals c ≡ true → raw_at down c ≡ part_is (raw_at up c)
  alone_shown c h shown = by_alone (parts_alone (raw_at up c))
    where
      there : split_at up down c ≡ raw_at down c ∷ split_rest up down state c
      there = part_there room up down state run end legal c h shown ∙ ap (λ l. l ++ raw_at down c ∷ split_rest up down state c) (none_gone c (omega (arith, h)))

      by_alone : IsAlone (raw_at up c) (split_at up down c) → raw_at down c ≡ part_is (raw_at up c)
      by_alone (inl e) = let bad = sym there ∙ e in cc
      by_alone (inr e) = first_is _ _ _ _ (sym there ∙ e)

  -- ---- what it does

  same_operations : (raw : Raw) → operations_in target down.shape (flat_mark down.shape (part_is raw)) ≡ operations_in target up.shape (flat_mark up.shape raw)
  same_operations raw = lower (is_raised raw.levels.write) ∙ sym upper
    where
      address : ℕ
      address = byte_address up.shape raw.levels.address

      beat : Bool → Beat
      beat w = record { kind = if w then Writes else Reads; address = address; word = if w then raw.levels.word else 0; enables = raw.levels.enables }

      whole : operations_of up.shape target.shape target.span (beat (is_raised raw.levels.write)) ≡ operations_of down.shape target.shape target.span (piece_of target.shape.word_bytes (beat (is_raised raw.levels.write)) 0) ++ []
      whole =
          let some = may.some in
          let same = may.same in
          let words = same_words in
          law up.shape down.shape target.shape target.span (omega (arith, some, same)) may.same (omega (arith, words, same)) (beat (is_raised raw.levels.write))
          ∙ ap (λ n. flat_map (λ piece. operations_of down.shape target.shape target.span (piece_of target.shape.word_bytes (beat (is_raised raw.levels.write)) piece)) (numbers 0 n)) (ap (λ n. up.shape.word_bytes / min up.shape.word_bytes n) (sym may.same) ∙ one_piece)

      upper : operations_in target up.shape (flat_mark up.shape raw) ≡ operations_of down.shape target.shape target.span (piece_of down.shape.word_bytes (beat (is_raised raw.levels.write)) 0)
      upper =
          append-nil _
          ∙ ap (λ a. operations_of up.shape target.shape target.span (beat_by (if is_raised raw.levels.write then Writes else Reads) a (if is_raised raw.levels.write then raw.levels.word else 0) raw.levels.enables)) (let none : address + 0 * up.shape.word_bytes ≡ address = omega arith in none)
          ∙ whole ∙ append-nil _ ∙ ap (λ n. operations_of down.shape target.shape target.span (piece_of n (beat (is_raised raw.levels.write)) 0)) (sym may.same)

      place : byte_address down.shape (address + 0 * down.shape.word_bytes) + 0 * down.shape.word_bytes ≡ address + 0 * down.shape.word_bytes
      place =
          let none : address + 0 * down.shape.word_bytes ≡ address = omega arith in
          whole_address (address + 0 * down.shape.word_bytes) down.shape.unit_bytes down.shape.word_bytes may.bytes
          (ap (λ n. n % down.shape.word_bytes) none ∙ ap (λ n. address % n) (sym same_words) ∙ aligned (raw.levels.address * up.shape.unit_bytes) up.shape.word_bytes)

      lower : (w : Bool) → operations_in target down.shape (flat_mark down.shape (single raw.tag raw.more (piece_of down.shape.word_bytes (beat w) 0))) ≡ operations_of down.shape target.shape target.span (piece_of down.shape.word_bytes (beat w) 0)
      lower true = append-nil _ ∙ ap (λ a. operations_of down.shape target.shape target.span (record (piece_of down.shape.word_bytes (beat true) 0) { address = a })) place
      lower false = append-nil _ ∙ ap (λ a. operations_of down.shape target.shape target.span (record (piece_of down.shape.word_bytes (beat false) 0) { address = a })) place

  down_taken : (c : ℕ) → c ≤ end → taken_at down c ≡ map (flat_mark down.shape) (flat_map (parts_of up.shape down.shape) (raws up c))
  down_taken c h =
      flat_taken down end legal_there (one_down law carries target count room up down state may some_room run end legal) c h
      ∙ ap (map (flat_mark down.shape)) (raws_below room up down state run end legal c h ∙ ap (λ l. flat_map (parts_of up.shape down.shape) (raws up c) ++ l) (none_gone c h) ∙ append-nil (flat_map (parts_of up.shape down.shape) (raws up c)))

  level : (c : ℕ) → c ≤ end → operations_taken target down c ≡ operations_taken target up c
  level c h =
      ap (λ l. length (operations_among target down.shape l)) (down_taken c h) ∙ all_sizes law target up.shape down.shape count may (raws up c)
      ∙ ap (λ l. length (operations_among target up.shape l)) (sym (up_taken law carries target count room up down state may some_room run end legal c h))

  quiet : (c : ℕ) → c ≤ end → IsTrue (are_answered up (taken_at up c) c) → IsTrue (are_answered down (taken_at down c) c)
  quiet c h answered =
      let owed_c : AnswersAreOwed down c = λ k less. owed k (omega (arith, h, less)) in
      let given = leb-true (length (read_beats (taken_at up c))) (length (words_at up c)) answered in
      let asks = owed_below law target count room up down state may run end legal c h in
      let all = quiet_below law target count room up down state may run end legal c h owed_c given in
      let left = ap (λ l. length (reads_among l)) (none_gone c h) in
      le-leb (length (read_beats (taken_at down c))) (length (words_at down c)) (omega (arith, asks, all, left))

  joined_above : (c : ℕ) → c ≤ end → is_last_joined (taken_at down c) ≡ true → is_last_joined (taken_at up c) ≡ true
  joined_above c h e =
      ap is_last_joined (up_taken law carries target count room up down state may some_room run end legal c h) ∙ joined_last up.shape (raws up c)
      ∙ more_down law target up down count may (raws up c) (sym (joined_last down.shape (flat_map (parts_of up.shape down.shape) (raws up c))) ∙ ap is_last_joined (sym (down_taken c h)) ∙ e)

  -- ---- a plain command

  record IsPlain (c : ℕ) : Type 0 where
    pub shown : shows up.commands.signals c ≡ true
    pub alone : is_last_joined (taken_at up c) ≡ false
    pub last : is_raised (up.commands.more c) ≡ false
    pub act : Acts law carries target count room up down state may some_room run end legal (raw_at up c)

  plain_at : (c : ℕ) → c < end → IsTrue (shows_plain up c) → IsPlain c
  plain_at c h plain =
      let p = plain_parts up c plain in
      let words = same_words in
      let some = may.some in
      record {
        shown = p.shown;
        alone = ap is_last_joined (sym (earlier_is up end legal c h p.shown)) ∙ not-true (is_last_joined (earlier_shown up c)) p.alone;
        last = not-true (is_raised (up.commands.more c)) p.closing;
        act = acts_above law carries target count room up down state may some_room run end legal c h p.shown (plain_acts target up c (omega (arith, words, some)) (sym may.same ∙ sym same_words) plain);
      }

  acts_there : (c : ℕ) → c < end → IsPlain c → shows down.commands.signals c ≡ true → is_nonempty (operations_in target down.shape (marked_at down c)) ≡ true
  acts_there c h p shown =
      ap (λ (m : Marked). is_nonempty (operations_in target down.shape m)) (there_is law carries target count room up down state may some_room run end legal c h shown)
      ∙ (part_shown law carries target count room up down state may some_room run end legal c h shown).acts_so ∙ p.act

  shown_below : (c : ℕ) → c < end → IsPlain c → words_owed up c ≤ length (words_at up c) → shows down.commands.signals c ≡ true
  shown_below c h p given = by_take (takes up c) refl
    where
      by_take : (t : Bool) → takes up c ≡ t → shows down.commands.signals c ≡ true
      by_take true t = shown_taken room up down state run end legal c (last_taken law carries target count room up down state may some_room run end legal c h t p.act).0
      by_take false t = shows_there law carries target count room up down state may some_room run end legal owed c h p.shown t given

  plain_below : (c : ℕ) → c < end → IsPlain c → shows down.commands.signals c ≡ true → IsTrue (shows_plain down c)
  plain_below c h p shown = plain_from down c (record {
    shown = shown;
    begins = ap (λ (m : Marked). m.transfer.begins) is;
    alone = alone;
    ends = ap (λ (m : Marked). m.transfer.ends) is;
    closing = ap (λ (r : Raw). not (is_raised r.more)) (alone_shown c h shown) ∙ ap not p.last;
    one = ap (λ (m : Marked). nat_eq (length m.transfer.beats) 1) is;
    lane = lanes;
  })
    where
      is : marked_at down c ≡ flat_mark down.shape (raw_at down c)
      is = there_is law carries target count room up down state may some_room run end legal c h shown

      alone : IsTrue (not (is_last_joined (earlier_shown down c)))
      alone = ap (λ l. not (is_last_joined l)) (earlier_is down end legal_there c h shown) ∙ by_joined (is_last_joined (taken_at down c)) refl
        where
          by_joined : (b : Bool) → is_last_joined (taken_at down c) ≡ b → not (is_last_joined (taken_at down c)) ≡ true
          by_joined false e = ap not e
          by_joined true e = absurd (both_ways (is_last_joined (taken_at up c)) p.alone (joined_above c (omega (arith, h)) e))

      lanes : IsTrue (has_lane down.shape (marked_at down c))
      lanes =
          ap (has_lane down.shape) is ∙ only (any_lane down.shape (down.commands.enables c))
          (sym (lanes_are target.shape down.shape (down.commands.enables c) may.some (sym may.same)) ∙ sym (only_map (filled_lanes down.shape target.shape (down.commands.enables c)))
          ∙ sym (or_nil (map (operation_at target.span beat) (filled_lanes down.shape target.shape (down.commands.enables c)))) ∙ ap (λ (m : Marked). is_nonempty (operations_in target down.shape m)) (sym is) ∙ acts_there c h p shown)
        where
          beat : Beat
          beat = beat_by (if is_raised (down.commands.write c) then Writes else Reads) (byte_address down.shape (down.commands.address c) + 0 * down.shape.word_bytes) (if is_raised (down.commands.write c) then down.commands.word c else 0) (down.commands.enables c)

          only : (b : Bool) → b ≡ true → b || false ≡ true
          only true e = refl
          only false e = e

          only_map : (l : List ℕ) → is_nonempty (map (operation_at target.span beat) l) ≡ is_nonempty l
          only_map [] = refl
          only_map (x ∷ l) = refl

  given_at : (c : ℕ) → c < end → IsPlain c → IsTrue (are_answered up (earlier_shown up c) c) → words_owed up c ≤ length (words_at up c)
  given_at c h p answered =
      let given = leb-true (length (read_beats (earlier_shown up c))) (length (words_at up c)) answered in
      let same = ap (λ l. length (read_beats l)) (earlier_is up end legal c h p.shown) in
      omega (arith, given, same)

  pub same_in_step : GoesInStep false target up down end
  same_in_step = record {
    accepts = λ c h. (let same = level c h in omega (arith, same));
    full = λ c h next shown. (let is = of_next false target up down c next in acts_there c h (plain_at c h is.plain) shown);
    plain = λ c h next. (let is = of_next false target up down c next in let p = plain_at c h is.plain in plain_below c h p (shown_below c h p (given_at c h p is.given)));
    at_once = λ c h plain taken. (
        let p = plain_at c h plain in
        let last = (last_taken law carries target count room up down state may some_room run end legal c h taken p.act).0 in
        (plain_below c h p (shown_taken room up down state run end legal c last), last));
    quiet = quiet;
  }

  pub same_straight : GoesStraightThrough (λ c. false) target up down end
  same_straight = record {
    shown = λ c h same plain ready.
        let p = plain_at c h plain in
        let answered = (and_parts (are_just_taken target up down (earlier_shown up c) c) (are_answered up (earlier_shown up c) c) ready).1 in
        let there = shown_below c h p (given_at c h p answered) in (
          there,
          ap (operations_in target down.shape) (there_is law carries target count room up down state may some_room run end legal c h there ∙ ap (flat_mark down.shape) (alone_shown c h there))
              ∙ same_operations (raw_at up c) ∙ ap (operations_in target up.shape) (sym (above_is law carries target count room up down state may some_room run end legal c h p.shown)),
        );
    accepted = λ c h same plain ready. takes_same c h (plain_at c h plain) (takes up c) refl (takes down c) refl;
    kept = λ c h same plain taken. (let all = accepted law carries target count room up down state may some_room run end legal owed (suc c) h in le-leb _ _ all);
  }
    where
      takes_same : (c : ℕ) → c < end → IsPlain c → (t : Bool) → takes up c ≡ t → (d : Bool) → takes down c ≡ d → takes up c ≡ takes down c
      takes_same c h p true t d e = t ∙ sym (last_taken law carries target count room up down state may some_room run end legal c h t p.act).0
      takes_same c h p false t true e = absurd (both_ways (takes up c) t (taken_above c h e))
      takes_same c h p false t false e = t ∙ sym e
