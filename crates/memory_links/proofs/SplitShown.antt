-- What a splitter shows below is a front of the parts of what is shown above, and each part does as its beat does.
use Rattle.std.proofs.Common.{ℕ, zero, suc, ◌<◌, ◌≤◌, ◌≡◌, ◌+◌, ◌*◌, Bool, true, false, not, ◌&&◌, ◌||◌, List, [], ◌∷◌, ◌++◌, if◌then◌else◌, arith, refl, sym, ap, subst, ◌∙◌, take, drop, map, filter, flat_map, append-nil, append_assoc, take-append-drop}
use Rattle.std.proofs.lemmas.Bool.{and_parts, not-true}
use Rattle.std.proofs.lemmas.Grind.{flat_map-append}
use Rattle.histories.specs.History.{is_raised, only_if, numbers, IsPrefix}
use Rattle.memory_runs.specs.Views.{Shape}
use Rattle.memory_runs.specs.Views.Kind.{Reads, Writes}
use Rattle.memory_runs.specs.Operations.{Beat, filled_lanes, pieces}
use Rattle.memory_runs.specs.Commands.{shows, is_held, is_of_reads}
use Rattle.memory_machines.specs.Link.{Target, Port, Marked, AreLegalAt, takes, is_nonempty, operations_in}
use Rattle.memory_machines.specs.Machines.{Raw, raw_at, raws, parts_sent, single, joined, piece_of, beat_of, MaySplit}
use Rattle.memory_links.specs.Splits.{SplitState, RunsAsSplit, split_at, split_rest, or_first_piece}
use Rattle.memory_links.proofs.Gather.{HasPieces, cut_of, has_lane_in, asked_of, piece_lanes, piece_count, wide_lanes}
use Rattle.memory_links.proofs.OneBeat.{flat_mark, shown_raws}
use Rattle.memory_links.proofs.Splitting.{shown_above, shown_taken, stands, part_there, waits_there}
use Rattle.memory_links.proofs.SplitParts.{parts_of, parts_are, sent_pieces, chosen, raws_below}

-- ---- fronts

front_of : {A : Type 0} (n : ℕ) (xs : List A) → IsPrefix (take n xs) xs
front_of n xs = record { rest = drop n xs; joins = take-append-drop n xs }

behind_front : {A : Type 0} (xs ys zs : List A) → IsPrefix ys zs → IsPrefix (xs ++ ys) (xs ++ zs)
behind_front xs ys zs p = record { rest = p.rest; joins = append_assoc xs ys p.rest ∙ ap (λ l. xs ++ l) p.joins }

module _ (room : ℕ) (up down : Port) (state : SplitState) (run : RunsAsSplit room up down state) (end : ℕ) (legal : AreLegalAt up end) where
  abbrev all_parts : List Raw → List Raw
  all_parts rs = flat_map (parts_of up.shape down.shape) rs

  -- the parts that have gone, and the one that is shown, are a front of the parts of what stands
  pub going_front : (c : ℕ) → c < end → (h : Bool) → is_held down.commands.signals (takes down) c ≡ h → (t : Bool) → takes up c ≡ t → (s : Bool) → shows up.commands.signals c ≡ s →
      IsPrefix ((if t then [] else parts_sent up down c ++ only_if (takes down c) (raw_at down c)) ++ only_if h (raw_at down c)) (all_parts (only_if (s && not t) (raw_at up c)))
  going_front c low true held true t s shown = let bad = sym (waits_there room up down state run end legal c held) ∙ t in cc
  going_front c low false held true t s shown = record { rest = _; joins = refl }
  going_front c low true held false t false shown =
      let bad = (shown_above room up down state run end legal c (and_parts (shows down.commands.signals c) (not (takes down c)) held).0).0 in cc
  going_front c low true held false t true shown =
      let parts = and_parts (shows down.commands.signals c) (not (takes down c)) held in
      let not_taken = not-true (takes down c) parts.1 in
      let there = part_there room up down state run end legal c low parts.0 in
      record {
        rest = split_rest up down state c;
        joins = ap (λ b. ((parts_sent up down c ++ only_if b (raw_at down c)) ++ raw_at down c ∷ []) ++ split_rest up down state c) not_taken
            ∙ ap (λ l. (l ++ raw_at down c ∷ []) ++ split_rest up down state c) (append-nil (parts_sent up down c))
            ∙ append_assoc (parts_sent up down c) (raw_at down c ∷ []) (split_rest up down state c) ∙ sym there ∙ sym (append-nil (split_at up down c));
      }
  going_front c low false held false t s shown = by_take (takes down c) refl s shown
    where
      by_take : (d : Bool) → takes down c ≡ d → (s : Bool) → shows up.commands.signals c ≡ s → IsPrefix ((parts_sent up down c ++ only_if (takes down c) (raw_at down c)) ++ []) (all_parts (only_if (s && true) (raw_at up c)))
      by_take true d false e = let bad = (shown_above room up down state run end legal c (shown_taken room up down state run end legal c d)).0 in cc
      by_take true d true e =
          let there = part_there room up down state run end legal c low (shown_taken room up down state run end legal c d) in
          record {
            rest = split_rest up down state c;
            joins = ap (λ b. ((parts_sent up down c ++ only_if b (raw_at down c)) ++ []) ++ split_rest up down state c) d
                ∙ ap (λ l. l ++ split_rest up down state c) (append-nil (parts_sent up down c ++ raw_at down c ∷ []))
                ∙ append_assoc (parts_sent up down c) (raw_at down c ∷ []) (split_rest up down state c) ∙ sym there ∙ sym (append-nil (split_at up down c));
          }
      by_take false d true e =
          subst (λ l. IsPrefix l (split_at up down c ++ [])) (sym (append-nil (parts_sent up down c ++ only_if (takes down c) (raw_at down c)) ∙ ap (λ b. parts_sent up down c ++ only_if b (raw_at down c)) d ∙ append-nil (parts_sent up down c) ∙ (stands room up down state run end legal c low).0 e))
          (subst (IsPrefix (take (state.place c) (split_at up down c))) (sym (append-nil (split_at up down c))) (front_of (state.place c) (split_at up down c)))
      by_take false d false e =
          record { rest = []; joins = append-nil _ ∙ append-nil (parts_sent up down c ++ only_if (takes down c) (raw_at down c)) ∙ ap (λ b. parts_sent up down c ++ only_if b (raw_at down c)) d ∙ append-nil (parts_sent up down c) ∙ ((stands room up down state run end legal c low).1 e).0 }

  pub shown_front : (k : ℕ) → k ≤ end → IsPrefix (shown_raws down k) (all_parts (shown_raws up k))
  shown_front zero h = record { rest = []; joins = refl }
  shown_front (suc c) h =
      let sent = parts_sent up down (suc c) in
      let stood = only_if (is_held down.commands.signals (takes down) c) (raw_at down c) in
      let lower : shown_raws down (suc c) ≡ all_parts (raws up (suc c)) ++ (sent ++ stood) =
      ap (λ l. l ++ stood) (raws_below room up down state run end legal (suc c) h) ∙ append_assoc (all_parts (raws up (suc c))) sent stood in
      let upper : all_parts (shown_raws up (suc c)) ≡ all_parts (raws up (suc c)) ++ all_parts (only_if (is_held up.commands.signals (takes up) c) (raw_at up c)) =
      flat_map-append (parts_of up.shape down.shape) (raws up (suc c)) (only_if (is_held up.commands.signals (takes up) c) (raw_at up c)) in
      subst (λ l. IsPrefix l (all_parts (shown_raws up (suc c)))) (sym lower)
      (subst (IsPrefix (all_parts (raws up (suc c)) ++ (sent ++ stood))) (sym upper)
      (behind_front (all_parts (raws up (suc c))) (sent ++ stood) (all_parts (only_if (is_held up.commands.signals (takes up) c) (raw_at up c)))
      (going_front c (omega (arith, h)) (is_held down.commands.signals (takes down) c) refl (takes up c) refl (shows up.commands.signals c) refl)))

-- ---- what each part does

nonempty_map : {A B : Type 0} (f : A → B) (xs : List A) → is_nonempty (map f xs ++ []) ≡ is_nonempty xs
nonempty_map f [] = refl
nonempty_map f (x ∷ xs) = refl

module _ (law : HasPieces) (target : Target) (wide narrow : Shape) (count : ℕ) (may : MaySplit target wide narrow count) where
  abbrev pub upper : Raw → Marked
  upper raw = flat_mark wide raw

  abbrev pub lower : Raw → Marked
  lower raw = flat_mark narrow raw

  -- a beat has an operation where it has a lane
  abbrev pub acts : Raw → Bool
  acts raw = is_nonempty (filled_lanes wide target.shape raw.levels.enables)

  pub upper_acts : (raw : Raw) → is_nonempty (operations_in target wide (upper raw)) ≡ acts raw
  upper_acts raw = nonempty_map _ (filled_lanes wide target.shape raw.levels.enables)

  part_acts : (tag more : ℕ) (beat : Beat) (p : ℕ) → is_nonempty (operations_in target narrow (lower (single tag more (piece_of narrow.word_bytes beat p)))) ≡ has_lane_in narrow.word_bytes beat.enables p
  part_acts tag more beat p = nonempty_map _ (filled_lanes narrow target.shape (cut_of narrow.word_bytes beat.enables p)) ∙ piece_lanes law wide narrow target.shape may.some may.same count may.one may.whole beat.enables p

  abbrev AllLanes : Bool → ℕ → List ℕ → Type 0
  AllLanes x enables [] = Unit {0}
  AllLanes x enables (p ∷ ps) = (has_lane_in narrow.word_bytes enables p ≡ x) × AllLanes x enables ps

  filtered_all : (enables : ℕ) (ns : List ℕ) → AllLanes true enables (filter (has_lane_in narrow.word_bytes enables) ns)
  filtered_all enables [] = tt
  filtered_all enables (n ∷ ns) = by_test (has_lane_in narrow.word_bytes enables n) refl (filtered_all enables ns)
    where
      by_test : (b : Bool) → has_lane_in narrow.word_bytes enables n ≡ b → AllLanes true enables (filter (has_lane_in narrow.word_bytes enables) ns) →
          AllLanes true enables (if b then n ∷ filter (has_lane_in narrow.word_bytes enables) ns else filter (has_lane_in narrow.word_bytes enables) ns)
      by_test true e rest = (e, rest)
      by_test false e rest = rest

  abbrev touched_of : Raw → List ℕ
  touched_of raw = filter (has_lane_in narrow.word_bytes raw.levels.enables) (numbers 0 (pieces wide narrow))

  first_lane : (enables p : ℕ) (ps : List ℕ) → asked_of wide narrow enables ≡ p ∷ ps → has_lane_in narrow.word_bytes enables p ≡ true → is_nonempty (filled_lanes wide target.shape enables) ≡ true
  first_lane enables p ps is has =
      ap is_nonempty (wide_lanes law wide narrow target.shape may.some may.same count may.one may.whole enables ∙ ap (flat_map (λ q. map (λ lane. q * narrow.word_bytes + lane) (filled_lanes narrow target.shape (cut_of narrow.word_bytes enables q)))) is)
      ∙ some_first (filled_lanes narrow target.shape (cut_of narrow.word_bytes enables p)) _ (piece_lanes law wide narrow target.shape may.some may.same count may.one may.whole enables p ∙ has)
    where
      some_first : (xs ys : List ℕ) → is_nonempty xs ≡ true → is_nonempty (map (λ lane. p * narrow.word_bytes + lane) xs ++ ys) ≡ true
      some_first [] ys e = cc
      some_first (x ∷ xs) ys e = refl

  pub no_lane : (enables : ℕ) → filter (has_lane_in narrow.word_bytes enables) (numbers 0 (pieces wide narrow)) ≡ [] → (has_lane_in narrow.word_bytes enables 0 ≡ false) × (is_nonempty (filled_lanes wide target.shape enables) ≡ false)
  no_lane enables e = by_list (filled_lanes wide target.shape enables) refl (has_lane_in narrow.word_bytes enables 0) refl
    where
      first_asked : asked_of wide narrow enables ≡ 0 ∷ []
      first_asked = ap or_first_piece e

      by_list : (l : List ℕ) → filled_lanes wide target.shape enables ≡ l → (b : Bool) → has_lane_in narrow.word_bytes enables 0 ≡ b → (has_lane_in narrow.word_bytes enables 0 ≡ false) × (is_nonempty (filled_lanes wide target.shape enables) ≡ false)
      by_list l f false g = (g, none_wide)
        where
          none_wide : is_nonempty (filled_lanes wide target.shape enables) ≡ false
          none_wide =
              ap is_nonempty (wide_lanes law wide narrow target.shape may.some may.same count may.one may.whole enables ∙ ap (flat_map (λ q. map (λ lane. q * narrow.word_bytes + lane) (filled_lanes narrow target.shape (cut_of narrow.word_bytes enables q)))) first_asked)
              ∙ nonempty_nil (filled_lanes narrow target.shape (cut_of narrow.word_bytes enables 0)) (piece_lanes law wide narrow target.shape may.some may.same count may.one may.whole enables 0 ∙ g)
            where
              nonempty_nil : (xs : List ℕ) → is_nonempty xs ≡ false → is_nonempty (map (λ lane. 0 * narrow.word_bytes + lane) xs ++ []) ≡ false
              nonempty_nil [] k = refl
              nonempty_nil (x ∷ xs) k = cc
      by_list l f true g = let bad = first_touched (pieces wide narrow) (let n = piece_count law wide narrow target.shape may.some may.same count may.one may.whole in let some = may.one in omega (arith, n, some)) e g in absurd bad
        where
          first_touched : (n : ℕ) → 0 < n → filter (has_lane_in narrow.word_bytes enables) (numbers 0 n) ≡ [] → has_lane_in narrow.word_bytes enables 0 ≡ true → ⊥
          first_touched zero h k m = omega (arith, h)
          first_touched (suc n) h k m = let bad = ap (λ b. if b then 0 ∷ filter (has_lane_in narrow.word_bytes enables) (numbers 1 n) else filter (has_lane_in narrow.word_bytes enables) (numbers 1 n)) (sym m) ∙ k in cc

  -- each piece that is sent has a lane where the beat has one
  sent_acts : (raw : Raw) → AllLanes (acts raw) raw.levels.enables (sent_pieces wide narrow raw)
  sent_acts raw = by_list (touched_of raw) refl (filtered_all raw.levels.enables (numbers 0 (pieces wide narrow)))
    where
      by_list : (l : List ℕ) → touched_of raw ≡ l → AllLanes true raw.levels.enables l → AllLanes (acts raw) raw.levels.enables (chosen (not (is_raised raw.more) || not (is_raised raw.levels.write)) l)
      by_list [] e all = by_needed (not (is_raised raw.more) || not (is_raised raw.levels.write))
        where
          by_needed : (b : Bool) → AllLanes (acts raw) raw.levels.enables (if b then 0 ∷ [] else [])
          by_needed true = let none = no_lane raw.levels.enables e in (none.0 ∙ sym none.1, tt)
          by_needed false = tt
      by_list (p ∷ ps) e all = subst (λ x. AllLanes x raw.levels.enables (p ∷ ps)) (sym (first_lane raw.levels.enables p ps (ap or_first_piece e) all.0)) all

  -- a beat that isn't sent is a write without a lane, to which the next one is joined
  pub record IsLeftOut (raw : Raw) : Type 0 where
    pub more : is_raised raw.more ≡ true
    pub writes : is_raised raw.levels.write ≡ true
    pub acts_not : acts raw ≡ false

  left_out : (raw : Raw) → sent_pieces wide narrow raw ≡ [] → IsLeftOut raw
  left_out raw none = by_list (touched_of raw) refl none
    where
      by_list : (l : List ℕ) → touched_of raw ≡ l → chosen (not (is_raised raw.more) || not (is_raised raw.levels.write)) l ≡ [] → IsLeftOut raw
      by_list (p ∷ ps) e k = cc
      by_list [] e k = by_bits (is_raised raw.more) refl (is_raised raw.levels.write) refl k
        where
          by_bits : (m : Bool) → is_raised raw.more ≡ m → (w : Bool) → is_raised raw.levels.write ≡ w → chosen (not m || not w) [] ≡ [] → IsLeftOut raw
          by_bits true f true g k = record { more = f; writes = g; acts_not = (no_lane raw.levels.enables e).1 }
          by_bits true f false g k = cc
          by_bits false f w g k = cc

  -- a part has the tag and the kind of its beat, and acts as it does
  pub record IsPart (raw part : Raw) : Type 0 where
    pub tag : part.tag ≡ raw.tag
    pub writes : is_raised part.levels.write ≡ is_raised raw.levels.write
    pub acts_so : is_nonempty (operations_in target narrow (lower part)) ≡ acts raw

  -- those behind the first one are joined to it, and the last one ends as the beat does
  pub data ArePartsOf (raw : Raw) : List Raw → Type 0 where
    last_part : (part : Raw) → IsPart raw part → part.more ≡ raw.more → ArePartsOf raw (part ∷ [])
    more_parts : (part next : Raw) (later : List Raw) → IsPart raw part → is_raised part.more ≡ true → ArePartsOf raw (next ∷ later) → ArePartsOf raw (part ∷ next ∷ later)
    no_parts : IsLeftOut raw → ArePartsOf raw []

  is_part : (raw : Raw) (more p : ℕ) → has_lane_in narrow.word_bytes raw.levels.enables p ≡ acts raw → IsPart raw (single raw.tag more (piece_of narrow.word_bytes (beat_of wide raw.levels) p))
  is_part raw more p e = record {
    tag = refl;
    writes = by_write (is_raised raw.levels.write);
    acts_so = part_acts raw.tag more (beat_of wide raw.levels) p ∙ e;
  }
    where
      by_write : (w : Bool) → is_raised (if is_of_reads (if w then Writes else Reads) then 0 else 1) ≡ w
      by_write true = refl
      by_write false = refl

  joined_parts : (raw : Raw) (p : ℕ) (ps : List ℕ) → AllLanes (acts raw) raw.levels.enables (p ∷ ps) → ArePartsOf raw (joined raw.tag raw.more (map (piece_of narrow.word_bytes (beat_of wide raw.levels)) (p ∷ ps)))
  joined_parts raw p [] all = last_part _ (is_part raw raw.more p all.0) refl
  joined_parts raw p (q ∷ []) all = more_parts _ _ [] (is_part raw 1 p all.0) refl (joined_parts raw q [] all.1)
  joined_parts raw p (q ∷ r ∷ ps) all = more_parts _ _ _ (is_part raw 1 p all.0) refl (joined_parts raw q (r ∷ ps) all.1)

  pub are_parts : (raw : Raw) → ArePartsOf raw (parts_of wide narrow raw)
  are_parts raw = subst (ArePartsOf raw) (sym (parts_are wide narrow raw)) (by_list (sent_pieces wide narrow raw) refl (sent_acts raw))
    where
      by_list : (l : List ℕ) → sent_pieces wide narrow raw ≡ l → AllLanes (acts raw) raw.levels.enables l → ArePartsOf raw (joined raw.tag raw.more (map (piece_of narrow.word_bytes (beat_of wide raw.levels)) l))
      by_list [] e all = no_parts (left_out raw e)
      by_list (p ∷ ps) e all = joined_parts raw p ps all
