-- A splitter of commands of one beat: what it sends for a beat keeps what an expander needs.
use Rattle.std.proofs.Common.{ℕ, zero, suc, ◌<◌, ◌≤◌, ◌≡◌, ◌+◌, ◌-◌, ◌*◌, ◌/◌, ◌%◌, ◌^◌, [], ◌∷◌, ◌++◌, List, Bool, true, false, not, ◌&&◌, ◌||◌, arith, refl, sym, ap, ap₂, ◌∙◌, append-nil, subst, length, map, filter, flat_map, nat_eq, nat_lt, if◌then◌else◌, zero-mul, min, mul_assoc, mul-one, one-mul, mul-div_cancel, le_refl, mul-le-mul_right}
use Rattle.std.specs.List.{list_any}
use Rattle.std.proofs.lemmas.List.{length-map}
use Rattle.std.proofs.lemmas.List.Folds.{flat_map-map}
use Rattle.std.proofs.lemmas.Bool.{eqb-true}
use Rattle.std.proofs.Math.Nat.{zero-div, add-mul, mul-mod_left, mod-eq-sub-div-mul, div-mul-le_self}
use Rattle.memory_machines.proofs.Pieces.{beat_is_pieces}
use Rattle.memory_machines.proofs.ExpanderLink.{expander_commands}
use Rattle.memory_machines.proofs.Joined.{sends, AreAligned, transfer_by}
use Rattle.histories.specs.History.{only_if, is_raised, numbers}
use Rattle.memory_runs.specs.Views.{Shape, Levels}
use Rattle.memory_machines.specs.Paths.{CommandView, AnswerView}
use Rattle.memory_runs.specs.Views.Kind.{Reads, Writes}
use Rattle.memory_runs.specs.Operations.{Beat, Operation, operations_of, operation_at, filled_lanes, filled_of_piece, is_enabled, pieces}
use Rattle.memory_runs.specs.Commands.{Burst, byte_address, Transfer, next_burst}
use Rattle.memory_machines.specs.Link.{Target, Marked, beat_operations, AreLegalAt, CarriesCommands, operations_in, operations_among, items_from, closes, beats_with, is_nonempty}
use Rattle.memory_machines.specs.Link.Item.{Acts, Ends}
use Rattle.memory_machines.specs.Machines.{Raw, mark, burst_past, marked, burst_of, IsFitBeat, AreFit, acted_past, joined, touched, is_touched, or_first, beat_of, split_parts, piece_of, Expands, IsExpanderRun, port_of}

-- a beat without an enabled lane has no operation
not_enabled : (lane : ℕ) → is_enabled 0 lane ≡ false
not_enabled lane = ap (λ n. nat_eq (n % 2) 1) (zero-div (2 ^ lane))

none_enabled : (l : List ℕ) → (filter (is_enabled 0) l ≡ []) × (list_any (is_enabled 0) l ≡ false)
none_enabled [] = (refl, refl)
none_enabled (x ∷ xs) = let rest = none_enabled xs in (ap (λ b. if b then x ∷ filter (is_enabled 0) xs else filter (is_enabled 0) xs) (not_enabled x) ∙ rest.0, ap (λ b. b || list_any (is_enabled 0) xs) (not_enabled x) ∙ rest.1)

none_in : (t t' : Shape) (has : Bool) (l : List ℕ) → (if has then filter (is_enabled 0) l else if list_any (is_enabled 0) l then l else []) ≡ []
none_in t t' true l = (none_enabled l).0
none_in t t' false l = ap (λ b. if b then l else []) (none_enabled l).1

none_filled : (from to : Shape) (ps : List ℕ) → flat_map (filled_of_piece from to 0) ps ≡ []
none_filled from to [] = refl
none_filled from to (p ∷ ps) = ap₂ (λ x y. x ++ y) (none_in from to to.has_enables (numbers (p * min from.word_bytes to.word_bytes) (min from.word_bytes to.word_bytes))) (none_filled from to ps)

no_operation : (from to : Shape) (span : ℕ) (beat : Beat) → beat.enables ≡ 0 → operations_of from to span beat ≡ []
no_operation from to span beat none = ap (λ e. map (operation_at span beat) (filled_lanes from to e)) none ∙ ap (map (operation_at span beat)) (none_filled from to (numbers 0 (pieces from to)))

touched_one : (f : Beat → List Operation) (b : Beat) (bs : List Beat) (t : Bool) → (nat_eq b.enables 0 ≡ true → f b ≡ []) → nat_eq b.enables 0 ≡ t → flat_map f (filter is_touched bs) ≡ flat_map f bs →
    flat_map f (if not t then b ∷ filter is_touched bs else filter is_touched bs) ≡ f b ++ flat_map f bs
touched_one f b bs false none e rest = ap (λ l. f b ++ l) rest
touched_one f b bs true none e rest = rest ∙ ap (λ l. l ++ flat_map f bs) (sym (none e))

touched_operations : (f : Beat → List Operation) → ((b : Beat) → b.enables ≡ 0 → f b ≡ []) → (bs : List Beat) → flat_map f (filter is_touched bs) ≡ flat_map f bs
touched_operations f none [] = refl
touched_operations f none (b ∷ bs) = touched_one f b bs (nat_eq b.enables 0) (λ e. none b (eqb-true b.enables 0 e)) refl (touched_operations f none bs)

module _ (target : Target) (wide narrow : Shape) (units : narrow.unit_bytes ≡ 1) (words : 0 < narrow.word_bytes) (same_words : narrow.word_bytes ≡ target.shape.word_bytes)
    (k : ℕ) (some : 0 < k) (multiple : wide.word_bytes ≡ k * narrow.word_bytes) where
  abbrev ops_of : Beat → List Operation
  ops_of beat = operations_of narrow target.shape target.span beat

  piece_count : pieces wide narrow ≡ k
  piece_count =
      let least : min wide.word_bytes narrow.word_bytes ≡ narrow.word_bytes = (let more = mul-le-mul_right narrow.word_bytes some in let one = one-mul narrow.word_bytes in omega (arith, more, one, multiple)) in
      ap (λ n. wide.word_bytes / n) least ∙ ap (λ n. n / narrow.word_bytes) multiple ∙ mul-div_cancel k words

  piece_aligned : (a piece : ℕ) → (byte_address wide a + piece * narrow.word_bytes) % narrow.word_bytes ≡ 0
  piece_aligned a piece =
      let x = a * wide.unit_bytes in
      let cut : x - x % wide.word_bytes ≡ x / wide.word_bytes * wide.word_bytes =
      (let low = mod-eq-sub-div-mul x wide.word_bytes in let fits = div-mul-le_self x wide.word_bytes in omega (arith, low, fits)) in
      let all : byte_address wide a + piece * narrow.word_bytes ≡ (x / wide.word_bytes * k + piece) * narrow.word_bytes =
      ap (λ n. n + piece * narrow.word_bytes) (cut ∙ ap (λ n. x / wide.word_bytes * n) multiple ∙ sym (mul_assoc (x / wide.word_bytes) k narrow.word_bytes)) ∙ sym (add-mul (x / wide.word_bytes * k) piece narrow.word_bytes) in
      ap (λ n. n % narrow.word_bytes) all ∙ mul-mod_left (x / wide.word_bytes * k + piece) narrow.word_bytes

  fits : target.shape.word_bytes ≤ wide.word_bytes
  fits = let more = mul-le-mul_right narrow.word_bytes some in let one = one-mul narrow.word_bytes in omega (arith, more, one, multiple, same_words)

  -- the touched pieces have the operations of the beat
  touched_have : (beat : Beat) → flat_map ops_of (touched wide narrow beat) ≡ operations_of wide target.shape target.span beat
  touched_have beat =
      touched_operations ops_of (no_operation narrow target.shape target.span) (map (piece_of narrow.word_bytes beat) (numbers 0 (pieces wide narrow)))
      ∙ flat_map-map ops_of (piece_of narrow.word_bytes beat) (numbers 0 (pieces wide narrow))
      ∙ ap (λ d. flat_map (λ piece. ops_of (piece_of d beat piece)) (numbers 0 (wide.word_bytes / min wide.word_bytes d))) same_words
      ∙ sym (beat_is_pieces wide narrow target.shape target.span (omega (arith, words, same_words)) same_words fits beat)

  first_untouched : (f : ℕ → Beat) (n : ℕ) → 0 < n → filter is_touched (map f (numbers 0 n)) ≡ [] → is_touched (f 0) ≡ false
  first_untouched f zero h none = absurd (omega arith)
  first_untouched f (suc n) h none = by_test (is_touched (f 0)) none
    where
      by_test : (t : Bool) → (if t then f 0 ∷ filter is_touched (map f (numbers 1 n)) else filter is_touched (map f (numbers 1 n))) ≡ [] → t ≡ false
      by_test true e = cc
      by_test false e = refl

  not_touched : (b : Bool) → not b ≡ false → b ≡ true
  not_touched true e = refl
  not_touched false e = cc

  chosen_have : (needed : Bool) (beat : Beat) (l : List Beat) → touched wide narrow beat ≡ l → flat_map ops_of (or_first narrow needed beat l) ≡ operations_of wide target.shape target.span beat
  chosen_have needed beat (x ∷ xs) is = ap (flat_map ops_of) (sym is) ∙ touched_have beat
  chosen_have false beat [] is = ap (flat_map ops_of) (sym is) ∙ touched_have beat
  chosen_have true beat [] is =
      let none = first_untouched (piece_of narrow.word_bytes beat) (pieces wide narrow) (let count = piece_count in omega (arith, count, some)) is in
      let empty = eqb-true (piece_of narrow.word_bytes beat 0).enables 0 (not_touched _ none) in
      append-nil _ ∙ no_operation narrow target.shape target.span (piece_of narrow.word_bytes beat 0) empty ∙ ap (flat_map ops_of) (sym is) ∙ touched_have beat

  aligned_touched : (levels : Levels) (ps : List ℕ) → AreAligned target narrow units (filter is_touched (map (piece_of narrow.word_bytes (beat_of wide levels)) ps))
  aligned_touched levels [] = tt
  aligned_touched levels (p ∷ ps) = by_test (is_touched (piece_of narrow.word_bytes (beat_of wide levels) p)) (aligned_touched levels ps)
    where
      by_test : (t : Bool) → AreAligned target narrow units (filter is_touched (map (piece_of narrow.word_bytes (beat_of wide levels)) ps)) →
          AreAligned target narrow units (if t then piece_of narrow.word_bytes (beat_of wide levels) p ∷ filter is_touched (map (piece_of narrow.word_bytes (beat_of wide levels)) ps) else filter is_touched (map (piece_of narrow.word_bytes (beat_of wide levels)) ps))
      by_test true rest = (piece_aligned levels.address p, rest)
      by_test false rest = rest

  aligned_chosen : (levels : Levels) (needed : Bool) (l : List Beat) → AreAligned target narrow units l → AreAligned target narrow units (or_first narrow needed (beat_of wide levels) l)
  aligned_chosen levels needed (x ∷ xs) aligned = aligned
  aligned_chosen levels true [] aligned = (piece_aligned levels.address 0, tt)
  aligned_chosen levels false [] aligned = tt

  few_touched : (bs : List Beat) → length (filter is_touched bs) ≤ length bs
  few_touched [] = le_refl 0
  few_touched (b ∷ bs) = by_test (is_touched b) (few_touched bs)
    where
      by_test : (t : Bool) → length (filter is_touched bs) ≤ length bs → length (if t then b ∷ filter is_touched bs else filter is_touched bs) ≤ suc (length bs)
      by_test true rest = omega (arith, rest)
      by_test false rest = omega (arith, rest)

  length_numbers : (from n : ℕ) → length (numbers from n) ≡ n
  length_numbers from zero = refl
  length_numbers from (suc n) = ap (λ n. suc n) (length_numbers (suc from) n)

  few_chosen : (needed : Bool) (beat : Beat) (l : List Beat) → length l ≤ k → length (or_first narrow needed beat l) ≤ k
  few_chosen needed beat (x ∷ xs) few = few
  few_chosen true beat [] few = some
  few_chosen false beat [] few = omega arith

  needed_not : (needed : Bool) (beat : Beat) (l : List Beat) → or_first narrow needed beat l ≡ [] → needed ≡ false
  needed_not needed beat (x ∷ xs) none = cc
  needed_not true beat [] none = cc
  needed_not false beat [] none = refl

  or_nothing : (b : Bool) → b ≡ (b || false)
  or_nothing true = refl
  or_nothing false = refl

  neither : (a b : Bool) → (a || b) ≡ false → a ≡ false
  neither true b e = cc
  neither false b e = refl

  abbrev chosen : Raw → List Beat
  chosen raw = or_first narrow (not (is_raised raw.more) || not (is_raised raw.levels.write)) (beat_of wide raw.levels) (touched wide narrow (beat_of wide raw.levels))

  beats_bound : (m : Marked) (b : Bool) (n : ℕ) → length m.transfer.beats ≡ 1 → n ≤ k → (if b then n else 0) ≤ pieces wide narrow * length (flat_map (λ (m : Marked). m.transfer.beats) (if b then m ∷ [] else []))
  beats_bound m false n one few = omega arith
  beats_bound m true n one few =
      let all : pieces wide narrow * length (m.transfer.beats ++ []) ≡ k = ap₂ (λ p l. p * l) piece_count (ap length (append-nil m.transfer.beats) ∙ one) ∙ mul-one k in
      omega (arith, all, few)

  module _ (burst : Burst) (raw : Raw) (below : Burst) (one : raw.levels.count ≡ 1) (free : burst.left ≡ 0) (none : below.left ≡ 0) where
    have : operations_in target wide (mark wide burst raw) ≡ operations_of wide target.shape target.span (beat_of wide raw.levels)
    have =
        let place : byte_address wide raw.levels.address + 0 * wide.word_bytes ≡ byte_address wide raw.levels.address = (let nothing = zero-mul wide.word_bytes in omega (arith, nothing)) in
        ap (λ (t : Transfer). flat_map (beat_operations target wide) t.beats) (transfer_by wide raw.levels burst free one (is_raised raw.levels.write)) ∙ append-nil _
        ∙ ap (λ x. operations_of wide target.shape target.span (record { kind = if is_raised raw.levels.write then Writes else Reads; address = x; word = if is_raised raw.levels.write then raw.levels.word else 0; enables = raw.levels.enables })) place

    closed : closes (mark wide burst raw) ≡ not (is_raised raw.more)
    closed = ap (λ (t : Transfer). t.ends && not (is_raised raw.more)) (transfer_by wide raw.levels burst free one (is_raised raw.levels.write))

    one_beat : length (mark wide burst raw).transfer.beats ≡ 1
    one_beat = ap (λ (t : Transfer). length t.beats) (transfer_by wide raw.levels burst free one (is_raised raw.levels.write))

    few : (l : List Beat) → chosen raw ≡ l → length l ≤ k
    few l is =
        let counted = few_touched (map (piece_of narrow.word_bytes (beat_of wide raw.levels)) (numbers 0 (pieces wide narrow))) in
        let all : length (map (piece_of narrow.word_bytes (beat_of wide raw.levels)) (numbers 0 (pieces wide narrow))) ≡ k = length-map (numbers 0 (pieces wide narrow)) _ ∙ length_numbers 0 (pieces wide narrow) ∙ piece_count in
        subst (λ l. length l ≤ k) is (few_chosen _ (beat_of wide raw.levels) (touched wide narrow (beat_of wide raw.levels)) (omega (arith, counted, all)))

    with_parts : (x : Beat) (xs : List Beat) → chosen raw ≡ x ∷ xs → Expands target wide narrow (split_parts wide narrow) burst raw below
    with_parts x xs is =
        let aligned = aligned_chosen raw.levels (not (is_raised raw.more) || not (is_raised raw.levels.write)) (touched wide narrow (beat_of wide raw.levels)) (aligned_touched raw.levels (numbers 0 (pieces wide narrow))) in
        let sent = sends target narrow units raw.tag raw.more x xs below none (subst (AreAligned target narrow units) is aligned) in
        let ops : flat_map ops_of (x ∷ xs) ≡ operations_in target wide (mark wide burst raw) =
        ap (flat_map ops_of) (sym is) ∙ chosen_have (not (is_raised raw.more) || not (is_raised raw.levels.write)) (beat_of wide raw.levels) (touched wide narrow (beat_of wide raw.levels)) refl ∙ sym have in
        record {
          fit = subst (λ l. AreFit narrow below (joined raw.tag raw.more l)) (sym is) sent.fit;
          free = subst (λ l. (burst_of narrow below (joined raw.tag raw.more l)).left ≡ 0) (sym is) sent.free;
          items = λ acted. ap (λ l. items_from target narrow acted (marked narrow below (joined raw.tag raw.more l))) is ∙ sent.items acted
              ∙ ap₂ (λ o c. map (Acts raw.tag) o ++ only_if (c && (acted || is_nonempty o)) (Ends raw.tag)) ops (sym closed);
          acted = λ acted. ap (λ l. acted_past target narrow acted (marked narrow below (joined raw.tag raw.more l))) is ∙ sent.acted acted
              ∙ ap₂ (λ o c. not c && (acted || is_nonempty o)) ops (sym closed);
          operations = ap (λ l. operations_among target narrow (marked narrow below (joined raw.tag raw.more l))) is ∙ sent.operations ∙ ops;
          beats = λ t. subst (λ n. n ≤ pieces wide narrow * length (beats_with t (mark wide burst raw ∷ []))) (sym (ap (λ l. length (beats_with t (marked narrow below (joined raw.tag raw.more l)))) is ∙ sent.beats t))
              (beats_bound (mark wide burst raw) (nat_eq raw.tag t) (length (x ∷ xs)) one_beat (few (x ∷ xs) is));
        }

    without_parts : chosen raw ≡ [] → Expands target wide narrow (split_parts wide narrow) burst raw below
    without_parts is =
        let ops : [] ≡ operations_in target wide (mark wide burst raw) =
        ap (flat_map ops_of) (sym is) ∙ chosen_have (not (is_raised raw.more) || not (is_raised raw.levels.write)) (beat_of wide raw.levels) (touched wide narrow (beat_of wide raw.levels)) refl ∙ sym have in
        let open_on : not (is_raised raw.more) ≡ false = neither (not (is_raised raw.more)) (not (is_raised raw.levels.write)) (needed_not _ (beat_of wide raw.levels) (touched wide narrow (beat_of wide raw.levels)) is) in
        let not_closed : false ≡ closes (mark wide burst raw) = sym (closed ∙ open_on) in
        record {
          fit = subst (λ l. AreFit narrow below (joined raw.tag raw.more l)) (sym is) tt;
          free = subst (λ l. (burst_of narrow below (joined raw.tag raw.more l)).left ≡ 0) (sym is) none;
          items = λ acted. ap (λ l. items_from target narrow acted (marked narrow below (joined raw.tag raw.more l))) is
              ∙ ap₂ (λ o c. map (Acts raw.tag) o ++ only_if (c && (acted || is_nonempty o)) (Ends raw.tag)) ops not_closed;
          acted = λ acted. ap (λ l. acted_past target narrow acted (marked narrow below (joined raw.tag raw.more l))) is ∙ or_nothing acted
              ∙ ap₂ (λ o c. not c && (acted || is_nonempty o)) ops not_closed;
          operations = ap (λ l. operations_among target narrow (marked narrow below (joined raw.tag raw.more l))) is ∙ ops;
          beats = λ t. subst (λ l. length (beats_with t (marked narrow below (joined raw.tag raw.more l))) ≤ pieces wide narrow * length (beats_with t (mark wide burst raw ∷ []))) (sym is) (omega arith);
        }

    by_parts : (l : List Beat) → chosen raw ≡ l → Expands target wide narrow (split_parts wide narrow) burst raw below
    by_parts [] is = without_parts is
    by_parts (x ∷ xs) is = with_parts x xs is

  pub split_expands : (burst : Burst) (raw : Raw) (below : Burst) → raw.levels.count ≡ 1 → burst.left ≡ 0 → below.left ≡ 0 → Expands target wide narrow (split_parts wide narrow) burst raw below
  split_expands burst raw below one free none = by_parts burst raw below one free none (chosen raw) refl

  module _ (no_bursts : wide.burst_bits ≡ 1) where
    one_of_fit : (burst : Burst) (raw : Raw) → IsFitBeat wide burst raw → burst.left ≡ 0 → raw.levels.count ≡ 1
    one_of_fit burst raw fit free =
        let idle : nat_lt 0 burst.left ≡ false = ap (nat_lt 0) free in
        let least = fit.least idle in
        let most : raw.levels.count ≤ 2 ^ (1 - 1) = subst (λ b. raw.levels.count ≤ 2 ^ (b - 1)) no_bursts (fit.most idle) in
        omega (arith, least, most)

    stays_free : (burst : Burst) (raw : Raw) → IsFitBeat wide burst raw → burst.left ≡ 0 → (burst_past wide burst raw).left ≡ 0
    stays_free burst raw fit free = by_write (is_raised raw.levels.write)
      where
        by_write : (w : Bool) → (if w then next_burst wide raw.levels burst else burst).left ≡ 0
        by_write false = free
        by_write true =
            ap₂ (λ l n. (next_burst wide (record raw.levels { count = n }) (record { left = l; done = burst.done; first = burst.first })).left) free (one_of_fit burst raw fit free)

    -- a splitter of commands of one beat carries commands and holds nothing
    pub split_carries : (uc dc : CommandView) (ua da : AnswerView) (sent rest : ℕ → List Raw) (end : ℕ) → IsExpanderRun (split_parts wide narrow) (port_of wide uc ua) (port_of narrow dc da) sent rest end →
        AreLegalAt (port_of wide uc ua) end → CarriesCommands target 0 (port_of wide uc ua) (port_of narrow dc da) end
    split_carries uc dc ua da sent rest end run legal =
        expander_commands target wide narrow (split_parts wide narrow) (λ burst. burst.left ≡ 0) refl stays_free
        (λ burst raw below fit free none. split_expands burst raw below (one_of_fit burst raw fit free) free none) uc dc ua da sent rest end run legal
