-- The beat below a splitter is the next part of the beat above.
use Rattle.std.proofs.Common.{ℕ, suc, ◌<◌, ◌≡◌, ◌+◌, ◌-◌, ◌*◌, ◌/◌, ◌%◌, ◌^◌, Bool, true, false, not, ◌&&◌, ◌||◌, List, [], ◌∷◌, length, map, filter, slice_get, Some, if◌then◌else◌, ◌==◌, nat_eq, arith, refl, sym, ap, ap₂, ◌∙◌}
use Rattle.std.proofs.lemmas.List.{length-map}
use Rattle.histories.specs.History.{is_raised, one_if, numbers}
use Rattle.memory_runs.specs.Views.{Shape}
use Rattle.memory_runs.specs.Views.Kind.{Reads, Writes}
use Rattle.memory_runs.specs.Operations.{Beat, pieces}
use Rattle.memory_runs.specs.Commands.{Burst, is_of_reads, byte_address}
use Rattle.memory_machines.specs.Machines.{Raw, single, joined, piece_of, is_touched, or_first, beat_of, split_parts}
use Rattle.mm_split.specs.Pieces.{lane, has_lane, stands_at, pick, those}
use Rattle.memory_links.specs.Splits.{pieces_asked, or_first_piece}
use Rattle.mm_split.specs.declared.sizes.Sizes.{Sizes}
use Rattle.mm_split.specs.Parts.{IsBeatBelow, count_in, touched_of, here_of, number_of}
use Rattle.mm_split.proofs.Masks.{those_are, those_count}
use Rattle.mm_split.proofs.Places.{picked, none_picked}
use Rattle.mm_split.proofs.Same.{number_is, marked_count, byte_lane, get_map, part_get, joined_count, chosen, chosen_get, chosen_count}

filter_map : {A B : Type 0} (test : B → Bool) (f : A → B) (xs : List A) → filter test (map f xs) ≡ map f (filter (λ x. test (f x)) xs)
filter_map test f [] = refl
filter_map test f (x ∷ xs) = by_test (test (f x)) (filter_map test f xs)
  where
    by_test : (b : Bool) → filter test (map f xs) ≡ map f (filter (λ x. test (f x)) xs) →
        (if b then f x ∷ filter test (map f xs) else filter test (map f xs)) ≡ map f (if b then x ∷ filter (λ x. test (f x)) xs else filter (λ x. test (f x)) xs)
    by_test true rest = ap (λ l. f x ∷ l) rest
    by_test false rest = rest

or_first_map : (narrow : Shape) (needed : Bool) (beat : Beat) (xs : List ℕ) → or_first narrow needed beat (map (piece_of narrow.word_bytes beat) xs) ≡ map (piece_of narrow.word_bytes beat) (chosen needed xs)
or_first_map narrow true beat [] = refl
or_first_map narrow false beat [] = refl
or_first_map narrow needed beat (x ∷ xs) = refl

-- whether a beat needs a part at least
abbrev pub needs : Raw → Bool
needs raw = not (is_raised raw.more) || not (is_raised raw.levels.write)

needed_alike : (a b : Bool) → (not a || not b) ≡ not (a && b)
needed_alike true b = refl
needed_alike false b = refl

module _ (wide narrow : Shape) (sizes : Sizes) (narrow_is : narrow.word_bytes ≡ sizes.narrow_bytes) (pieces_is : pieces wide narrow ≡ sizes.pieces) where
  abbrev touches : Raw → ℕ → Bool
  touches raw = has_lane sizes.narrow_bytes raw.levels.enables

  -- the pieces that a beat touches
  touched_list : (raw : Raw) → filter (λ p. is_touched (piece_of narrow.word_bytes (beat_of wide raw.levels) p)) (numbers 0 (pieces wide narrow)) ≡ those (has_lane sizes.narrow_bytes raw.levels.enables) sizes.pieces
  touched_list raw = ap₂ (λ n k. filter (has_lane n raw.levels.enables) (numbers 0 k)) narrow_is pieces_is ∙ those_are (has_lane sizes.narrow_bytes raw.levels.enables) sizes.pieces

  pub asked_is : (raw : Raw) → pieces_asked wide narrow (beat_of wide raw.levels) ≡ or_first_piece (those (has_lane sizes.narrow_bytes raw.levels.enables) sizes.pieces)
  asked_is raw = ap or_first_piece (touched_list raw)

  -- its parts, by the numbers of their pieces
  pub parts_are : (burst : Burst) (raw : Raw) → split_parts wide narrow burst raw
      ≡ joined raw.tag raw.more (map (piece_of narrow.word_bytes (beat_of wide raw.levels)) (chosen (needs raw) (those (has_lane sizes.narrow_bytes raw.levels.enables) sizes.pieces)))
  parts_are burst raw =
      let beat = beat_of wide raw.levels in
      ap (λ l. joined raw.tag raw.more (or_first narrow (needs raw) beat l)) (filter_map is_touched (piece_of narrow.word_bytes beat) (numbers 0 (pieces wide narrow)) ∙ ap (map (piece_of narrow.word_bytes beat)) (touched_list raw))
      ∙ ap (joined raw.tag raw.more) (or_first_map narrow (needs raw) beat (those (has_lane sizes.narrow_bytes raw.levels.enables) sizes.pieces))

  -- how many there are
  pub parts_count : (burst : Burst) (raw : Raw) → length (split_parts wide narrow burst raw) ≡ count_in sizes raw
  parts_count burst raw =
      let beat = beat_of wide raw.levels in
      let list = those (has_lane sizes.narrow_bytes raw.levels.enables) sizes.pieces in
      ap length (parts_are burst raw) ∙ joined_count raw.tag raw.more (map (piece_of narrow.word_bytes beat) (chosen (needs raw) list)) ∙ length-map (chosen (needs raw) list) (piece_of narrow.word_bytes beat)
      ∙ chosen_count (needs raw) list
      ∙ ap₂ (λ n b. if n == 0 then one_if b else n) (those_count (has_lane sizes.narrow_bytes raw.levels.enables) sizes.pieces ∙ sym (marked_count (has_lane sizes.narrow_bytes raw.levels.enables) sizes.pieces)) (needed_alike (is_raised raw.more) (is_raised raw.levels.write))

  -- the part at a place
  pub part_at : (burst : Burst) (raw : Raw) (place : ℕ) → place < count_in sizes raw → slice_get (split_parts wide narrow burst raw) place
      ≡ Some (single raw.tag (if nat_eq (suc place) (count_in sizes raw) then raw.more else 1) (piece_of narrow.word_bytes (beat_of wide raw.levels) (number_of sizes (here_of sizes (touched_of sizes raw) place))))
  part_at burst raw place h =
      let beat = beat_of wide raw.levels in
      let test = has_lane sizes.narrow_bytes raw.levels.enables in
      let list = those test sizes.pieces in
      let whole = parts_count burst raw in
      let size : length (chosen (needs raw) list) ≡ count_in sizes raw = sym (length-map (chosen (needs raw) list) (piece_of narrow.word_bytes beat)) ∙ sym (joined_count raw.tag raw.more (map (piece_of narrow.word_bytes beat) (chosen (needs raw) list))) ∙ sym (ap length (parts_are burst raw)) ∙ whole in
      let count = those_count test sizes.pieces in
      let number : slice_get (chosen (needs raw) list) place ≡ Some (pick (stands_at test place) sizes.pieces) =
      chosen_get (needs raw) list place (pick (stands_at test place) sizes.pieces) (λ less. picked test place sizes.pieces (omega (arith, less, count))) (λ none. none_picked test place sizes.pieces (omega (arith, none, count))) (omega (arith, h, size)) in
      ap (λ l. slice_get l place) (parts_are burst raw)
      ∙ part_get raw.tag raw.more (map (piece_of narrow.word_bytes beat) (chosen (needs raw) list)) place (piece_of narrow.word_bytes beat (pick (stands_at test place) sizes.pieces)) (get_map (piece_of narrow.word_bytes beat) (chosen (needs raw) list) place (pick (stands_at test place) sizes.pieces) number)
      ∙ ap₂ (λ n p. Some (single raw.tag (if nat_eq (suc place) n then raw.more else 1) (piece_of narrow.word_bytes beat p))) (length-map (chosen (needs raw) list) (piece_of narrow.word_bytes beat) ∙ size) (sym (number_is test place sizes.pieces))

-- ---- the beat on the nets

kind_read : (w : Bool) → (if is_of_reads (if w then Writes else Reads) then 1 else 0) ≡ one_if (true && not w)
kind_read true = refl
kind_read false = refl

kind_write : (w : Bool) → (if is_of_reads (if w then Writes else Reads) then 0 else 1) ≡ one_if (true && w)
kind_write true = refl
kind_write false = refl

kind_word : (w : Bool) (bytes word number : ℕ) → ((if w then word else 0) / 256 ^ (number * bytes)) % 256 ^ bytes ≡ (if w then lane (bytes * 8) word number else 0)
kind_word true bytes word number = sym (byte_lane bytes word number)
kind_word false bytes word number = nothing (256 ^ (number * bytes)) (256 ^ bytes)
  where
    nothing : (a b : ℕ) → 0 / a % b ≡ 0
    nothing a b = omega arith

word_base : (address wide power : ℕ) → wide ≡ power → address * 1 - (address * 1) % wide ≡ address / power * power
word_base address wide power e = ap (λ n. address * 1 - (address * 1) % n) e ∙ down (address * 1) ∙ ap (λ a. a / power * power) same
  where
    same : address * 1 ≡ address
    same = omega arith

    down : (a : ℕ) → a - a % power ≡ a / power * power
    down a = omega arith

-- what the nets show below is that part
pub beat_is : (wide : Shape) (sizes : Sizes) (raw below : Raw) (number shows last : ℕ) (bytes more : ℕ) → wide.unit_bytes ≡ 1 → wide.word_bytes ≡ 2 ^ sizes.wide_bits → bytes ≡ sizes.narrow_bytes → is_raised shows ≡ true →
    (if is_raised last then raw.more else 1) ≡ more → IsBeatBelow sizes raw number shows last below → single raw.tag more (piece_of bytes (beat_of wide raw.levels) number) ≡ below
beat_is wide sizes raw below number shows last bytes more unit size narrow shown joins b =
    let w = is_raised raw.levels.write in
    let read : (if is_of_reads (if w then Writes else Reads) then 1 else 0) ≡ below.levels.read = kind_read w ∙ ap (λ s. one_if (s && not w)) (sym shown) ∙ sym b.read in
    let write : (if is_of_reads (if w then Writes else Reads) then 0 else 1) ≡ below.levels.write = kind_write w ∙ ap (λ s. one_if (s && w)) (sym shown) ∙ sym b.write in
    let base : byte_address wide raw.levels.address ≡ raw.levels.address / 2 ^ sizes.wide_bits * 2 ^ sizes.wide_bits = ap (λ u. raw.levels.address * u - (raw.levels.address * u) % wide.word_bytes) unit ∙ word_base raw.levels.address wide.word_bytes (2 ^ sizes.wide_bits) size in
    let address : byte_address wide raw.levels.address + number * bytes ≡ below.levels.address = ap₂ (λ x y. x + number * y) base narrow ∙ sym b.address in
    let word : ((if w then raw.levels.word else 0) / 256 ^ (number * bytes)) % 256 ^ bytes ≡ below.levels.word = kind_word w bytes raw.levels.word number ∙ ap (λ n. if w then lane (n * 8) raw.levels.word number else 0) narrow ∙ sym b.word in
    let enables : (raw.levels.enables / 2 ^ (number * bytes)) % 2 ^ bytes ≡ below.levels.enables = ap (λ n. (raw.levels.enables / 2 ^ (number * n)) % 2 ^ n) narrow ∙ sym b.enables in
    let joins_below : more ≡ below.more = sym joins ∙ sym b.more in
    let count : 1 ≡ below.levels.count = sym b.count in
    let tag : raw.tag ≡ below.tag = sym b.tag in
    rw (read, write, address, word, enables, joins_below, count, tag) refl
