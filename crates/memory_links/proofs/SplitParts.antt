-- What a splitter has taken below: the parts of what it has accepted above, and those that have gone since.
use Rattle.std.proofs.Common.{ℕ, zero, suc, ◌<◌, ◌≤◌, ◌≡◌, Bool, true, false, not, ◌&&◌, ◌||◌, List, [], ◌∷◌, ◌++◌, if◌then◌else◌, arith, refl, sym, ap, ap₂, ◌∙◌, length, take, map, filter, flat_map, nat_lt, nat_eq, append-nil, append_assoc, ltb-true, ltb-false, le_refl}
use Rattle.std.proofs.lemmas.Bool.{eqb-false}
use Rattle.std.proofs.lemmas.List.{map-append, length-map}
use Rattle.std.proofs.lemmas.List.Elements.{filter-append}
use Rattle.std.proofs.lemmas.Grind.{flat_map-append}
use Rattle.histories.specs.History.{is_raised, only_if, all_accepted, numbers}
use Rattle.memory_runs.specs.Views.{Shape, levels_at}
use Rattle.memory_runs.specs.Views.Kind.{Reads, Writes}
use Rattle.memory_runs.specs.Operations.{Beat, pieces}
use Rattle.memory_runs.specs.Commands.{shows, is_of_reads}
use Rattle.memory_machines.specs.Link.{Port, AreLegalAt, takes}
use Rattle.memory_machines.specs.Machines.{Raw, raw_at, raws, idle, parts_sent, split_parts, single, joined, piece_of, is_touched, or_first, beat_of}
use Rattle.memory_links.specs.Selects.{takes_read}
use Rattle.memory_links.specs.Splits.{SplitState, RunsAsSplit, split_at, asked_at, opens, or_first_piece}
use Rattle.memory_links.proofs.Gather.{cut_of, has_lane_in, asked_of, pieces_by}
use Rattle.memory_links.proofs.Groups.{pieces_of_all}
use Rattle.memory_links.proofs.Splitting.{same_raw, stands, accepted_whole, shown_above, shown_taken}
use Rattle.memory_links.proofs.SplitTags.{bears_shown}

-- ---- lists

filter_map : {A B : Type 0} (test : B → Bool) (f : A → B) (xs : List A) → filter test (map f xs) ≡ map f (filter (λ x. test (f x)) xs)
filter_map test f [] = refl
filter_map test f (x ∷ xs) = by_test (test (f x)) (filter_map test f xs)
  where
    by_test : (b : Bool) → filter test (map f xs) ≡ map f (filter (λ x. test (f x)) xs) →
        (if b then f x ∷ filter test (map f xs) else filter test (map f xs)) ≡ map f (if b then x ∷ filter (λ x. test (f x)) xs else filter (λ x. test (f x)) xs)
    by_test true rest = ap (λ l. f x ∷ l) rest
    by_test false rest = rest

fewer_filtered : {A : Type 0} (test : A → Bool) (xs : List A) → length (filter test xs) ≤ length xs
fewer_filtered test [] = le_refl 0
fewer_filtered test (x ∷ xs) = by_test (test x) (fewer_filtered test xs)
  where
    by_test : (b : Bool) → length (filter test xs) ≤ length xs → length (if b then x ∷ filter test xs else filter test xs) ≤ suc (length xs)
    by_test true rest = omega (arith, rest)
    by_test false rest = omega (arith, rest)

fewer_taken : {A : Type 0} (n : ℕ) (xs : List A) → length (take n xs) ≤ n
fewer_taken zero xs = omega arith
fewer_taken (suc n) [] = omega arith
fewer_taken (suc n) (x ∷ xs) = let rest = fewer_taken n xs in omega (arith, rest)

none_taken : {A : Type 0} (test : A → Bool) (n : ℕ) (xs : List A) → filter test xs ≡ [] → filter test (take n xs) ≡ []
none_taken test zero xs h = refl
none_taken test (suc n) [] h = refl
none_taken test (suc n) (x ∷ xs) h = by_test (test x) h (none_taken test n xs)
  where
    by_test : (b : Bool) → (if b then x ∷ filter test xs else filter test xs) ≡ [] → (filter test xs ≡ [] → filter test (take n xs) ≡ []) → (if b then x ∷ filter test (take n xs) else filter test (take n xs)) ≡ []
    by_test true e rest = cc
    by_test false e rest = rest e

pub below_last : (place size next after : ℕ) → nat_eq (suc place) size ≡ false → next ≡ suc place → place < size → after ≡ size → next < after
below_last place size next after e is low same = by_less (nat_lt (suc place) size) refl
  where
    by_less : (b : Bool) → nat_lt (suc place) size ≡ b → next < after
    by_less true less = let more = ltb-true (suc place) size less in omega (arith, more, is, same)
    by_less false less =
        let most = ltb-false (suc place) size less in
        let last : suc place ≡ size = omega (arith, most, low) in
        absurd (eqb-false (suc place) size e last)

-- ---- the parts of a beat, by the numbers of their pieces

abbrev pub chosen : Bool → List ℕ → List ℕ
chosen needed [] = if needed then 0 ∷ [] else []
chosen needed (x ∷ xs) = x ∷ xs

pub or_first_is : (narrow : Shape) (needed : Bool) (beat : Beat) (ns : List ℕ) →
    or_first narrow needed beat (filter is_touched (map (piece_of narrow.word_bytes beat) ns)) ≡ map (piece_of narrow.word_bytes beat) (chosen needed (filter (has_lane_in narrow.word_bytes beat.enables) ns))
or_first_is narrow needed beat ns =
    ap (or_first narrow needed beat) (filter_map is_touched (piece_of narrow.word_bytes beat) ns) ∙ by_list needed (filter (has_lane_in narrow.word_bytes beat.enables) ns)
  where
    by_list : (b : Bool) (l : List ℕ) → or_first narrow b beat (map (piece_of narrow.word_bytes beat) l) ≡ map (piece_of narrow.word_bytes beat) (chosen b l)
    by_list true [] = refl
    by_list false [] = refl
    by_list b (x ∷ xs) = refl

pub joined_length : (tag last : ℕ) (beats : List Beat) → length (joined tag last beats) ≡ length beats
joined_length tag last [] = refl
joined_length tag last (b ∷ []) = refl
joined_length tag last (b ∷ next ∷ later) = ap suc (joined_length tag last (next ∷ later))

abbrev pub asks : Raw → Bool
asks raw = not (is_raised raw.levels.write)

abbrev pub raw_enables : Raw → ℕ
raw_enables raw = raw.levels.enables

-- the byte enables of the reads among some beats
abbrev pub reads_among : List Raw → List ℕ
reads_among rs = map raw_enables (filter asks rs)

reads_append : (xs ys : List Raw) → reads_among (xs ++ ys) ≡ reads_among xs ++ reads_among ys
reads_append xs ys = ap (map raw_enables) (filter-append asks xs ys) ∙ map-append raw_enables (filter asks xs) (filter asks ys)

one_part : (tag more bytes : ℕ) (beat : Beat) (p : ℕ) (k : Bool) → is_of_reads beat.kind ≡ k → (rest : List Raw) →
    reads_among (single tag more (piece_of bytes beat p) ∷ rest) ≡ (if k then cut_of bytes beat.enables p ∷ reads_among rest else reads_among rest)
one_part tag more bytes beat p true e rest = rw e refl
one_part tag more bytes beat p false e rest = rw e refl

joined_reads : (tag last bytes : ℕ) (beat : Beat) (k : Bool) → is_of_reads beat.kind ≡ k → (ps : List ℕ) →
    reads_among (joined tag last (map (piece_of bytes beat) ps)) ≡ (if k then map (cut_of bytes beat.enables) ps else [])
joined_reads tag last bytes beat true e [] = refl
joined_reads tag last bytes beat false e [] = refl
joined_reads tag last bytes beat true e (p ∷ []) = one_part tag last bytes beat p true e []
joined_reads tag last bytes beat false e (p ∷ []) = one_part tag last bytes beat p false e []
joined_reads tag last bytes beat true e (p ∷ q ∷ ps) =
    one_part tag 1 bytes beat p true e (joined tag last (map (piece_of bytes beat) (q ∷ ps))) ∙ ap (λ l. cut_of bytes beat.enables p ∷ l) (joined_reads tag last bytes beat true e (q ∷ ps))
joined_reads tag last bytes beat false e (p ∷ q ∷ ps) =
    one_part tag 1 bytes beat p false e (joined tag last (map (piece_of bytes beat) (q ∷ ps))) ∙ joined_reads tag last bytes beat false e (q ∷ ps)

module _ (wide narrow : Shape) where
  abbrev pub parts_of : Raw → List Raw
  parts_of raw = split_parts wide narrow idle raw

  -- the numbers of the pieces that are sent
  abbrev pub sent_pieces : Raw → List ℕ
  sent_pieces raw = chosen (not (is_raised raw.more) || not (is_raised raw.levels.write)) (filter (has_lane_in narrow.word_bytes raw.levels.enables) (numbers 0 (pieces wide narrow)))

  pub parts_are : (raw : Raw) → parts_of raw ≡ joined raw.tag raw.more (map (piece_of narrow.word_bytes (beat_of wide raw.levels)) (sent_pieces raw))
  parts_are raw = ap (joined raw.tag raw.more) (or_first_is narrow (not (is_raised raw.more) || not (is_raised raw.levels.write)) (beat_of wide raw.levels) (numbers 0 (pieces wide narrow)))

  pub sent_of_read : (raw : Raw) → is_raised raw.levels.write ≡ false → sent_pieces raw ≡ asked_of wide narrow raw.levels.enables
  sent_of_read raw e =
      ap (λ w. chosen (not (is_raised raw.more) || not w) (filter (has_lane_in narrow.word_bytes raw.levels.enables) (numbers 0 (pieces wide narrow)))) e
      ∙ by_more (not (is_raised raw.more)) (filter (has_lane_in narrow.word_bytes raw.levels.enables) (numbers 0 (pieces wide narrow)))
    where
      by_more : (b : Bool) (l : List ℕ) → chosen (b || true) l ≡ or_first_piece l
      by_more true [] = refl
      by_more false [] = refl
      by_more true (x ∷ xs) = refl
      by_more false (x ∷ xs) = refl

  pub reads_of_parts : (raw : Raw) → reads_among (parts_of raw) ≡ (if asks raw then pieces_by wide narrow raw.levels.enables else [])
  reads_of_parts raw = ap reads_among (parts_are raw) ∙ by_write (is_raised raw.levels.write) refl
    where
      by_write : (w : Bool) → is_raised raw.levels.write ≡ w → reads_among (joined raw.tag raw.more (map (piece_of narrow.word_bytes (beat_of wide raw.levels)) (sent_pieces raw))) ≡ (if not (is_raised raw.levels.write) then pieces_by wide narrow raw.levels.enables else [])
      by_write true e =
          joined_reads raw.tag raw.more narrow.word_bytes (beat_of wide raw.levels) false (ap (λ w. is_of_reads (if w then Writes else Reads)) e) (sent_pieces raw)
          ∙ ap (λ w. if not w then pieces_by wide narrow raw.levels.enables else []) (sym e)
      by_write false e =
          joined_reads raw.tag raw.more narrow.word_bytes (beat_of wide raw.levels) true (ap (λ w. is_of_reads (if w then Writes else Reads)) e) (sent_pieces raw)
          ∙ ap (map (cut_of narrow.word_bytes raw.levels.enables)) (sent_of_read raw e)
          ∙ ap (λ w. if not w then pieces_by wide narrow raw.levels.enables else []) (sym e)

  pub reads_of_all : (rs : List Raw) → reads_among (flat_map parts_of rs) ≡ pieces_of_all wide narrow (reads_among rs)
  reads_of_all [] = refl
  reads_of_all (r ∷ rs) = reads_append (parts_of r) (flat_map parts_of rs) ∙ ap₂ (λ x y. x ++ y) (reads_of_parts r) (reads_of_all rs) ∙ by_kind (asks r)
    where
      by_kind : (b : Bool) → (if b then pieces_by wide narrow r.levels.enables else []) ++ pieces_of_all wide narrow (reads_among rs) ≡ pieces_of_all wide narrow (map raw_enables (if b then r ∷ filter asks rs else filter asks rs))
      by_kind true = refl
      by_kind false = refl

-- the reads of a side, by its beats
pub reads_of_raws : (port : Port) (c : ℕ) → all_accepted (takes_read port) port.commands.enables c ≡ reads_among (raws port c)
reads_of_raws port zero = refl
reads_of_raws port (suc c) =
    ap₂ (λ x y. x ++ y) (reads_of_raws port c) (by_take (takes port c) (is_raised (port.commands.write c)) refl) ∙ sym (reads_append (raws port c) (only_if (takes port c) (raw_at port c)))
  where
    by_take : (t w : Bool) → is_raised (port.commands.write c) ≡ w → only_if (t && not (is_raised (port.commands.write c))) (port.commands.enables c) ≡ reads_among (only_if t (raw_at port c))
    by_take false w e = refl
    by_take true true e = rw e refl
    by_take true false e = rw e refl

-- ---- the machine

module _ (room : ℕ) (up down : Port) (state : SplitState) (run : RunsAsSplit room up down state) (end : ℕ) (legal : AreLegalAt up end) where
  abbrev pub asked_above : ℕ → List ℕ
  asked_above c = all_accepted (takes_read up) up.commands.enables c

  abbrev pub asked_below : ℕ → List ℕ
  asked_below c = all_accepted (takes_read down) down.commands.enables c

  -- the reads among the parts that have gone of the beat that stands
  abbrev pub gone : ℕ → List ℕ
  gone c = reads_among (parts_sent up down c)

  pub raws_below : (c : ℕ) → c ≤ end → raws down c ≡ flat_map (parts_of up.shape down.shape) (raws up c) ++ parts_sent up down c
  raws_below zero h = refl
  raws_below (suc c) h = by_take (raws_below c (omega (arith, h))) (takes up c) refl
    where
      by_take : raws down c ≡ flat_map (parts_of up.shape down.shape) (raws up c) ++ parts_sent up down c → (t : Bool) → takes up c ≡ t →
          raws down c ++ only_if (takes down c) (raw_at down c) ≡ flat_map (parts_of up.shape down.shape) (raws up c ++ only_if (takes up c) (raw_at up c)) ++ (if takes up c then [] else parts_sent up down c ++ only_if (takes down c) (raw_at down c))
      by_take so_far true t =
          ap (λ l. l ++ only_if (takes down c) (raw_at down c)) so_far ∙ append_assoc (flat_map (parts_of up.shape down.shape) (raws up c)) (parts_sent up down c) (only_if (takes down c) (raw_at down c))
          ∙ ap (λ l. flat_map (parts_of up.shape down.shape) (raws up c) ++ l) (accepted_whole room up down state run end legal c (omega (arith, h)) t ∙ sym (append-nil (split_at up down c)))
          ∙ sym (flat_map-append (parts_of up.shape down.shape) (raws up c) (raw_at up c ∷ [])) ∙ sym (append-nil (flat_map (parts_of up.shape down.shape) (raws up c ++ raw_at up c ∷ [])))
          ∙ ap (λ b. flat_map (parts_of up.shape down.shape) (raws up c ++ only_if b (raw_at up c)) ++ (if b then [] else parts_sent up down c ++ only_if (takes down c) (raw_at down c))) (sym t)
      by_take so_far false t =
          ap (λ l. l ++ only_if (takes down c) (raw_at down c)) so_far ∙ append_assoc (flat_map (parts_of up.shape down.shape) (raws up c)) (parts_sent up down c) (only_if (takes down c) (raw_at down c))
          ∙ ap (λ l. flat_map (parts_of up.shape down.shape) l ++ (parts_sent up down c ++ only_if (takes down c) (raw_at down c))) (sym (append-nil (raws up c)))
          ∙ ap (λ b. flat_map (parts_of up.shape down.shape) (raws up c ++ only_if b (raw_at up c)) ++ (if b then [] else parts_sent up down c ++ only_if (takes down c) (raw_at down c))) (sym t)

  -- the reads below are the pieces of those above, and those that have gone since
  pub reads_below : (c : ℕ) → c ≤ end → asked_below c ≡ pieces_of_all up.shape down.shape (asked_above c) ++ gone c
  reads_below c h =
      reads_of_raws down c ∙ ap reads_among (raws_below c h) ∙ reads_append (flat_map (parts_of up.shape down.shape) (raws up c)) (parts_sent up down c)
      ∙ ap (λ l. l ++ gone c) (reads_of_all up.shape down.shape (raws up c) ∙ ap (pieces_of_all up.shape down.shape) (sym (reads_of_raws up c)))

  pub write_below : (c : ℕ) → shows down.commands.signals c ≡ true → is_raised (down.commands.write c) ≡ is_raised (up.commands.write c)
  write_below c shown = (bears_shown room up down state run end legal c shown).writes ∙ by_write (is_raised (up.commands.write c))
    where
      by_write : (w : Bool) → not (is_of_reads (if w then Writes else Reads)) ≡ w
      by_write true = refl
      by_write false = refl

  -- the register stands before a part, where there is one
  pub place_low : (c : ℕ) → c < end → shows up.commands.signals c ≡ true → 0 < length (split_at up down c) → state.place c < length (split_at up down c)
  place_low zero h shown some = let first = run.place_begins in omega (arith, first, some)
  place_low (suc c) h shown some = by_take (takes up c) refl (shows up.commands.signals c) refl (takes down c) refl (place_low c (omega (arith, h)))
    where
      place_is : (t d : Bool) → takes up c ≡ t → takes down c ≡ d → state.place (suc c) ≡ (if t then 0 else if d then suc (state.place c) else state.place c)
      place_is t d e f = run.place_next c ∙ ap₂ (λ a b. if a then 0 else if b then suc (state.place c) else state.place c) e f

      by_take : (t : Bool) → takes up c ≡ t → (s : Bool) → shows up.commands.signals c ≡ s → (d : Bool) → takes down c ≡ d →
          (shows up.commands.signals c ≡ true → 0 < length (split_at up down c) → state.place c < length (split_at up down c)) → state.place (suc c) < length (split_at up down (suc c))
      by_take true t s f d g earlier = let first = place_is true d t g in omega (arith, first, some)
      by_take false t false f d g earlier =
          let none = ((stands room up down state run end legal c (omega (arith, h))).1 f).1 in
          by_below d g none
        where
          by_below : (d : Bool) → takes down c ≡ d → state.place c ≡ 0 → state.place (suc c) < length (split_at up down (suc c))
          by_below false g none = let same = place_is false false t g in omega (arith, same, none, some)
          by_below true g none = let bad = (shown_above room up down state run end legal c (shown_taken room up down state run end legal c g)).0 in cc
      by_take false t true f d g earlier =
          let held = same_raw room up down state run end legal c h f t in
          let same : length (split_at up down (suc c)) ≡ length (split_at up down c) = ap (λ (r : Raw). length (split_parts up.shape down.shape idle r)) (sym held.0) in
          let low = earlier f (omega (arith, same, some)) in
          by_below d g low same
        where
          by_below : (d : Bool) → takes down c ≡ d → state.place c < length (split_at up down c) → length (split_at up down (suc c)) ≡ length (split_at up down c) → state.place (suc c) < length (split_at up down (suc c))
          by_below false g low same = let now = place_is false false t g in omega (arith, now, low, same)
          by_below true g low same =
              let now = place_is false true t g in
              let opened = (shown_above room up down state run end legal c (shown_taken room up down state run end legal c g)).1 in
              by_last (nat_eq (suc (state.place c)) (length (split_at up down c))) refl now opened
            where
              by_last : (b : Bool) → nat_eq (suc (state.place c)) (length (split_at up down c)) ≡ b → state.place (suc c) ≡ suc (state.place c) → opens room up down state c ≡ true → state.place (suc c) < length (split_at up down (suc c))
              by_last true e now opened =
                  let accepted : takes up c ≡ true =
                  run.accepts c ∙ ap₂ (λ x y. x && (nat_eq (length (split_at up down c)) 0 || y)) (ap₂ (λ x y. x && y) f opened) (ap₂ (λ x y. x && y) g e) ∙ or_true (nat_eq (length (split_at up down c)) 0) in
                  absurd (clash (takes up c) accepted t)
                where
                  or_true : (b : Bool) → (b || true) ≡ true
                  or_true true = refl
                  or_true false = refl

                  clash : (b : Bool) → b ≡ true → b ≡ false → ⊥
                  clash true p q = cc
                  clash false p q = cc
              by_last false e now opened = below_last (state.place c) (length (split_at up down c)) (state.place (suc c)) (length (split_at up down (suc c))) e now low same

  -- while parts of a read have gone, the set is that read's
  pub set_held : (c : ℕ) → c < end → shows up.commands.signals c ≡ true → is_raised (up.commands.write c) ≡ false → 0 < state.place c → state.set c ≡ asked_at up down c
  set_held zero h shown reads some = let first = run.place_begins in absurd (omega (arith, first, some))
  set_held (suc c) h shown reads some = by_take (takes up c) refl (shows up.commands.signals c) refl (takes down c) refl (set_held c (omega (arith, h)))
    where
      place_is : (t d : Bool) → takes up c ≡ t → takes down c ≡ d → state.place (suc c) ≡ (if t then 0 else if d then suc (state.place c) else state.place c)
      place_is t d e f = run.place_next c ∙ ap₂ (λ a b. if a then 0 else if b then suc (state.place c) else state.place c) e f

      by_take : (t : Bool) → takes up c ≡ t → (s : Bool) → shows up.commands.signals c ≡ s → (d : Bool) → takes down c ≡ d →
          (shows up.commands.signals c ≡ true → is_raised (up.commands.write c) ≡ false → 0 < state.place c → state.set c ≡ asked_at up down c) → state.set (suc c) ≡ asked_at up down (suc c)
      by_take true t s f d g earlier = let first = place_is true d t g in absurd (omega (arith, first, some))
      by_take false t false f true g earlier = let bad = (shown_above room up down state run end legal c (shown_taken room up down state run end legal c g)).0 in cc
      by_take false t false f false g earlier =
          let none = ((stands room up down state run end legal c (omega (arith, h))).1 f).1 in
          let same = place_is false false t g in
          absurd (omega (arith, none, same, some))
      by_take false t true f d g earlier =
          let held = same_raw room up down state run end legal c h f t in
          let level : is_raised (up.commands.write c) ≡ false = ap (λ (r : Raw). is_raised r.levels.write) held.0 ∙ reads in
          let asked : asked_at up down c ≡ asked_at up down (suc c) = ap (λ (r : Raw). asked_of up.shape down.shape r.levels.enables) held.0 in
          by_below d g level asked
        where
          by_below : (d : Bool) → takes down c ≡ d → is_raised (up.commands.write c) ≡ false → asked_at up down c ≡ asked_at up down (suc c) → state.set (suc c) ≡ asked_at up down (suc c)
          by_below true g level asked =
              run.set_next c
              ∙ ap₂ (λ t w. if t && not w then asked_at up down c else state.set c) g (write_below c (shown_taken room up down state run end legal c g) ∙ level) ∙ asked
          by_below false g level asked =
              let same = place_is false false t g in
              run.set_next c ∙ ap (λ t. if t && not (is_raised (down.commands.write c)) then asked_at up down c else state.set c) g ∙ earlier f level (omega (arith, same, some)) ∙ asked

  -- what has gone of a read: less than the whole of it
  pub record IsGoing (c : ℕ) : Type 0 where
    pub shown : shows up.commands.signals c ≡ true
    pub reads : is_raised (up.commands.write c) ≡ false
    pub some : 0 < state.place c
    pub set : state.set c ≡ asked_at up down c
    pub few : length (gone c) < length (state.set c)

  pub going : (c : ℕ) → c < end → 0 < length (gone c) → IsGoing c
  going c h some = by_shown (shows up.commands.signals c) refl (is_raised (up.commands.write c)) refl
    where
      by_shown : (s : Bool) → shows up.commands.signals c ≡ s → (w : Bool) → is_raised (up.commands.write c) ≡ w → IsGoing c
      by_shown false s w e = let none = ap (λ l. length (reads_among l)) ((stands room up down state run end legal c h).1 s).0 in absurd (omega (arith, none, some))
      by_shown true s true e =
          let nothing_asked : filter asks (split_at up down c) ≡ [] = none_of_map (filter asks (split_at up down c)) (reads_of_parts up.shape down.shape (raw_at up c) ∙ ap (λ w. if not w then pieces_by up.shape down.shape (up.commands.enables c) else []) e) in
          let none : length (gone c) ≡ 0 = ap (λ l. length (reads_among l)) ((stands room up down state run end legal c h).0 s) ∙ ap (λ l. length (map raw_enables l)) (none_taken asks (state.place c) (split_at up down c) nothing_asked) in
          absurd (omega (arith, none, some))
        where
          none_of_map : (xs : List Raw) → map raw_enables xs ≡ [] → xs ≡ []
          none_of_map [] e = refl
          none_of_map (x ∷ xs) e = cc
      by_shown true s false e =
          let sent = (stands room up down state run end legal c h).0 s in
          let size = ap (λ l. length (reads_among l)) sent in
          let mapped = length-map (filter asks (take (state.place c) (split_at up down c))) raw_enables in
          let filtered = fewer_filtered asks (take (state.place c) (split_at up down c)) in
          let taken = fewer_taken (state.place c) (split_at up down c) in
          let placed : 0 < state.place c = omega (arith, size, mapped, filtered, taken, some) in
          let set = set_held c h s e placed in
          let parts : length (split_at up down c) ≡ length (asked_at up down c) =
          ap length (parts_are up.shape down.shape (raw_at up c)) ∙ joined_length (up.commands.tag c) (up.commands.more c) _
          ∙ length-map (sent_pieces up.shape down.shape (raw_at up c)) (piece_of down.shape.word_bytes (beat_of up.shape (levels_at up.commands.signals c))) ∙ ap length (sent_of_read up.shape down.shape (raw_at up c) e) in
          let sized = ap length set in
          let low = place_low c h s (longer (split_at up down c) (state.place c) (length (gone c)) (omega (arith, some)) (omega (arith, size, mapped, filtered))) in
          record { shown = s; reads = e; some = placed; set = set; few = omega (arith, size, mapped, filtered, taken, parts, sized, low) }
        where
          longer : (xs : List Raw) (n k : ℕ) → 0 < k → k ≤ length (take n xs) → 0 < length xs
          longer [] zero k p q = omega (arith, p, q)
          longer [] (suc n) k p q = omega (arith, p, q)
          longer (x ∷ xs) n k p q = omega arith
