-- The answers in gathered words: each wide word has the bytes of the words of its pieces, and the greatest of their codes.
use Rattle.std.proofs.Common.{ℕ, ◌<◌, ◌≡◌, ◌*◌, max, Bool, true, false, List, [], ◌∷◌, ◌++◌, if◌then◌else◌, arith, refl, sym, ap, ap₂, subst, ◌∙◌, length, map, flat_map, zip, take, drop, nat_lt, append_assoc, length-append, ltb-false}
use Rattle.std.proofs.lemmas.List.{map-append, length-map}
use Rattle.memory_runs.specs.Views.{Shape}
use Rattle.memory_runs.specs.Legal.{Word}
use Rattle.memory_runs.specs.Operations.{filled_lanes, byte_at}
use Rattle.memory_runs.specs.Order.{Answer}
use Rattle.memory_machines.specs.Blocks.{Block, highest, codes_of, worded, AreGreatest}
use Rattle.memory_machines.specs.Lines.{bytes_of}
use Rattle.memory_machines.specs.Link.{is_nonempty}
use Rattle.memory_links.proofs.Gather.{HasPieces, AllDigits, lane_bytes, cut_of, asked_of, pieces_by, answer_by, answers_by, HaveLanes, wide_lanes, asked_have, lanes_below}

-- ---- lists of answers

bytes_given : (given : Word) (lanes : List ℕ) → bytes_of (map (answer_by given) lanes) ≡ map (byte_at given.word) lanes
bytes_given given [] = refl
bytes_given given (lane ∷ lanes) = ap (λ l. byte_at given.word lane ∷ l) (bytes_given given lanes)

pub highest_append : (xs ys : List ℕ) → highest (xs ++ ys) ≡ max (highest xs) (highest ys)
highest_append [] ys = omega arith
highest_append (x ∷ xs) ys = let rest = highest_append xs ys in omega (arith, rest)

code_given : (given : Word) (lanes : List ℕ) → is_nonempty lanes ≡ true → highest (codes_of (map (answer_by given) lanes)) ≡ given.code
code_given given [] h = cc
code_given given (lane ∷ []) h = omega arith
code_given given (lane ∷ next ∷ lanes) h = let rest = code_given given (next ∷ lanes) refl in omega (arith, rest)

pub answers_append : (shape target : Shape) (xs ys : List ℕ) (ws vs : List Word) → length ws ≡ length xs → answers_by shape target (xs ++ ys) (ws ++ vs) ≡ answers_by shape target xs ws ++ answers_by shape target ys vs
answers_append shape target [] ys [] vs h = refl
answers_append shape target [] ys (w ∷ ws) vs h = absurd (omega (arith, h))
answers_append shape target (x ∷ xs) ys [] vs h = absurd (omega (arith, h))
answers_append shape target (x ∷ xs) ys (w ∷ ws) vs h =
    ap (λ l. map (answer_by w) (filled_lanes shape target x) ++ l) (answers_append shape target xs ys ws vs (omega (arith, h)))
    ∙ sym (append_assoc (map (answer_by w) (filled_lanes shape target x)) (answers_by shape target xs ws) (answers_by shape target ys vs))

abbrev pub codes_in : List Word → List ℕ
codes_in ws = map (λ (w : Word). w.code) ws

pub codes_push : (ws : List Word) (w : Word) → highest (codes_in (ws ++ w ∷ [])) ≡ max (highest (codes_in ws)) w.code
codes_push ws w = ap highest (map-append (λ (w : Word). w.code) ws (w ∷ [])) ∙ highest_append (codes_in ws) (w.code ∷ []) ∙ ap (max (highest (codes_in ws))) (omega arith)

-- ---- whole groups

-- a read of a wide word that is answered: its byte enables, its word, and the words of its pieces
pub record Group : Type 0 where
  pub enables : ℕ
  pub given : Word
  pub words : List Word

abbrev pub IsWhole : Shape → Shape → Group → Type 0
IsWhole wide narrow g =
    (length g.words ≡ length (asked_of wide narrow g.enables)) × AllDigits narrow.word_bytes g.given.word (asked_of wide narrow g.enables) g.words × (g.given.code ≡ highest (codes_in g.words))

abbrev pub AllWhole : Shape → Shape → List Group → Type 0
AllWhole wide narrow [] = Unit {0}
AllWhole wide narrow (g ∷ gs) = IsWhole wide narrow g × AllWhole wide narrow gs

pub whole_push : (wide narrow : Shape) (gs : List Group) (g : Group) → AllWhole wide narrow gs → IsWhole wide narrow g → AllWhole wide narrow (gs ++ g ∷ [])
whole_push wide narrow [] g all one = (one, tt)
whole_push wide narrow (x ∷ gs) g all one = (all.0, whole_push wide narrow gs g all.1 one)

abbrev pub enables_of : List Group → List ℕ
enables_of gs = map (λ (g : Group). g.enables) gs

abbrev pub given_of : List Group → List Word
given_of gs = map (λ (g : Group). g.given) gs

abbrev pub words_of : List Group → List Word
words_of gs = flat_map (λ (g : Group). g.words) gs

abbrev pub pieces_of_all : Shape → Shape → List ℕ → List ℕ
pieces_of_all wide narrow es = flat_map (pieces_by wide narrow) es

pub words_whole : (wide narrow : Shape) (gs : List Group) → AllWhole wide narrow gs → length (words_of gs) ≡ length (pieces_of_all wide narrow (enables_of gs))
words_whole wide narrow [] all = refl
words_whole wide narrow (g ∷ gs) all =
    let rest = words_whole wide narrow gs all.1 in
    let first = all.0.0 in
    let size : length (pieces_by wide narrow g.enables) ≡ length (asked_of wide narrow g.enables) = length-map (asked_of wide narrow g.enables) (cut_of narrow.word_bytes g.enables) in
    let left = length-append g.words (words_of gs) in
    let right = length-append (pieces_by wide narrow g.enables) (pieces_of_all wide narrow (enables_of gs)) in
    omega (arith, rest, first, size, left, right)

-- the words that are given, by the sizes of their blocks
abbrev pub blocks_by : Shape → Shape → List ℕ → List Word → List Block
blocks_by shape target es ws = flat_map (λ (x : ℕ × Word). record { size = length (filled_lanes shape target x.0); code = x.1.code } ∷ []) (zip es ws)

cons_greatest : (size code : ℕ) (bs : List Block) (first later : List ℕ) → length first ≡ size → (0 < size → code ≡ highest first) → AreGreatest (worded bs) later →
    AreGreatest (worded (record { size = size; code = code } ∷ bs)) (first ++ later)
cons_greatest size code bs first later same greatest rest = by_size (nat_lt 0 size) refl
  where
    front : (xs ys : List ℕ) → take (length xs) (xs ++ ys) ≡ xs
    front [] ys = refl
    front (x ∷ xs) ys = ap (λ l. x ∷ l) (front xs ys)

    behind : (xs ys : List ℕ) → drop (length xs) (xs ++ ys) ≡ ys
    behind [] ys = refl
    behind (x ∷ xs) ys = behind xs ys

    empty_of : (xs : List ℕ) → length xs ≡ 0 → xs ≡ []
    empty_of [] h = refl
    empty_of (x ∷ xs) h = absurd (omega (arith, h))

    by_size : (b : Bool) → nat_lt 0 size ≡ b → AreGreatest (if b then record { size = size; code = code } ∷ worded bs else worded bs) (first ++ later)
    by_size true e = (
      λ some. greatest some ∙ ap highest (sym (ap (λ n. take n (first ++ later)) (sym same) ∙ front first later)),
      subst (AreGreatest (worded bs)) (sym (ap (λ n. drop n (first ++ later)) (sym same) ∙ behind first later)) rest,
    )
    by_size false e =
        let none = ltb-false 0 size e in
        subst (AreGreatest (worded bs)) (sym (ap (λ l. l ++ later) (empty_of first (omega (arith, none, same))))) rest

module _ (law : HasPieces) (wide narrow target : Shape) (some : 0 < narrow.word_bytes) (same : narrow.word_bytes ≡ target.word_bytes)
    (count : ℕ) (one : 0 < count) (whole : wide.word_bytes ≡ count * narrow.word_bytes) where
  zip_bytes : (enables : ℕ) (ps : List ℕ) (ws : List Word) → flat_map (λ (x : ℕ × Word). map (byte_at x.1.word) (filled_lanes narrow target (cut_of narrow.word_bytes enables x.0))) (zip ps ws) ≡ bytes_of (answers_by narrow target (map (cut_of narrow.word_bytes enables) ps) ws)
  zip_bytes enables [] [] = refl
  zip_bytes enables [] (w ∷ ws) = refl
  zip_bytes enables (p ∷ ps) [] = refl
  zip_bytes enables (p ∷ ps) (w ∷ ws) =
      let lanes = filled_lanes narrow target (cut_of narrow.word_bytes enables p) in
      ap₂ (λ x y. x ++ y) (sym (bytes_given w lanes)) (zip_bytes enables ps ws)
      ∙ sym (map-append (λ (a : Answer). a.byte) (map (answer_by w) lanes) (answers_by narrow target (map (cut_of narrow.word_bytes enables) ps) ws))

  group_codes : (enables : ℕ) (ps : List ℕ) (ws : List Word) → HaveLanes narrow target enables ps → length ws ≡ length ps →
      highest (codes_of (answers_by narrow target (map (cut_of narrow.word_bytes enables) ps) ws)) ≡ highest (map (λ (w : Word). w.code) ws)
  group_codes enables [] [] have h = refl
  group_codes enables [] (w ∷ ws) have h = absurd (omega (arith, h))
  group_codes enables (p ∷ ps) [] have h = absurd (omega (arith, h))
  group_codes enables (p ∷ ps) (w ∷ ws) have h =
      let lanes = filled_lanes narrow target (cut_of narrow.word_bytes enables p) in
      let later = answers_by narrow target (map (cut_of narrow.word_bytes enables) ps) ws in
      ap highest (map-append (λ (a : Answer). a.code) (map (answer_by w) lanes) later) ∙ highest_append (codes_of (map (answer_by w) lanes)) (codes_of later)
      ∙ ap₂ max (code_given w lanes have.0) (group_codes enables ps ws have.1 (omega (arith, h)))

  whole_bytes : (g : Group) → IsWhole wide narrow g → map (byte_at g.given.word) (filled_lanes wide target g.enables) ≡ bytes_of (answers_by narrow target (pieces_by wide narrow g.enables) g.words)
  whole_bytes g is =
      let ps = asked_of wide narrow g.enables in
      ap (map (byte_at g.given.word)) (wide_lanes law wide narrow target some same count one whole g.enables)
      ∙ lane_bytes narrow.word_bytes g.given.word (λ p. filled_lanes narrow target (cut_of narrow.word_bytes g.enables p)) (λ p. lanes_below law wide narrow target some same count one whole g.enables p) ps g.words is.0 is.1
      ∙ zip_bytes g.enables ps g.words

  whole_size : (g : Group) → IsWhole wide narrow g → length (codes_of (answers_by narrow target (pieces_by wide narrow g.enables) g.words)) ≡ length (filled_lanes wide target g.enables)
  whole_size g is =
      let answers = answers_by narrow target (pieces_by wide narrow g.enables) g.words in
      length-map answers (λ (a : Answer). a.code) ∙ sym (length-map answers (λ (a : Answer). a.byte)) ∙ ap length (sym (whole_bytes g is)) ∙ length-map (filled_lanes wide target g.enables) (byte_at g.given.word)

  whole_code : (g : Group) → IsWhole wide narrow g → 0 < length (filled_lanes wide target g.enables) → g.given.code ≡ highest (codes_of (answers_by narrow target (pieces_by wide narrow g.enables) g.words))
  whole_code g is h =
      let ps = asked_of wide narrow g.enables in
      is.2 ∙ sym (group_codes g.enables ps g.words (asked_have law wide narrow target some same count one whole g.enables h) is.0)

  pub all_bytes : (gs : List Group) → AllWhole wide narrow gs → bytes_of (answers_by wide target (enables_of gs) (given_of gs)) ≡ bytes_of (answers_by narrow target (pieces_of_all wide narrow (enables_of gs)) (words_of gs))
  all_bytes [] all = refl
  all_bytes (g ∷ gs) all =
      let lanes = filled_lanes wide target g.enables in
      let size : length g.words ≡ length (pieces_by wide narrow g.enables) = all.0.0 ∙ sym (length-map (asked_of wide narrow g.enables) (cut_of narrow.word_bytes g.enables)) in
      map-append (λ (a : Answer). a.byte) (map (answer_by g.given) lanes) (answers_by wide target (enables_of gs) (given_of gs))
      ∙ ap₂ (λ x y. x ++ y) (bytes_given g.given lanes ∙ whole_bytes g all.0) (all_bytes gs all.1)
      ∙ sym (map-append (λ (a : Answer). a.byte) (answers_by narrow target (pieces_by wide narrow g.enables) g.words) (answers_by narrow target (pieces_of_all wide narrow (enables_of gs)) (words_of gs)))
      ∙ ap bytes_of (sym (answers_append narrow target (pieces_by wide narrow g.enables) (pieces_of_all wide narrow (enables_of gs)) g.words (words_of gs) size))

  pub all_codes : (gs : List Group) (rest : List ℕ) → AllWhole wide narrow gs →
      AreGreatest (worded (blocks_by wide target (enables_of gs) (given_of gs))) (codes_of (answers_by narrow target (pieces_of_all wide narrow (enables_of gs)) (words_of gs)) ++ rest)
  all_codes [] rest all = tt
  all_codes (g ∷ gs) rest all =
      let size : length g.words ≡ length (pieces_by wide narrow g.enables) = all.0.0 ∙ sym (length-map (asked_of wide narrow g.enables) (cut_of narrow.word_bytes g.enables)) in
      let first = answers_by narrow target (pieces_by wide narrow g.enables) g.words in
      let later = answers_by narrow target (pieces_of_all wide narrow (enables_of gs)) (words_of gs) in
      let split : codes_of (answers_by narrow target (pieces_of_all wide narrow (enables_of (g ∷ gs))) (words_of (g ∷ gs))) ++ rest ≡ codes_of first ++ (codes_of later ++ rest) =
      ap (λ l. codes_of l ++ rest) (answers_append narrow target (pieces_by wide narrow g.enables) (pieces_of_all wide narrow (enables_of gs)) g.words (words_of gs) size)
      ∙ ap (λ l. l ++ rest) (map-append (λ (a : Answer). a.code) first later) ∙ append_assoc (codes_of first) (codes_of later) rest in
      subst (AreGreatest (worded (blocks_by wide target (enables_of (g ∷ gs)) (given_of (g ∷ gs))))) (sym split)
      (cons_greatest (length (filled_lanes wide target g.enables)) g.given.code (blocks_by wide target (enables_of gs) (given_of gs)) (codes_of first) (codes_of later ++ rest)
      (whole_size g all.0) (whole_code g all.0) (all_codes gs rest all.1))
