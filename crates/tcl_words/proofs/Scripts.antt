-- Whole scripts: what is read is spelled so, and what is spelled so is read.
use Rattle.std.proofs.Common.{◌≡◌, ℕ, zero, suc, ◌-◌, ◌<◌, Bool, true, false, cond, List, [], ◌∷◌, ◌++◌, length, take, drop, refl, sym, ap, subst, ◌∙◌, arith, append_assoc}
use Rattle.std.specs.Prelude.{Result, Ok, Err, not, filter}
use Rattle.std.proofs.lemmas.List.{append-nil, take_at, drop_at}
use Rattle.av_base.specs.declared.faults.Place.{Place}
use Rattle.tcl_words.specs.declared.words.Word.{Word}
use Rattle.tcl_words.specs.declared.pieces.Piece.{Piece}
use Rattle.tcl_words.specs.declared.pieces.Piece.TheVariants.{Gap, End, Says}
use Rattle.tcl_words.specs.Script.{placed, place_after, has_word}
use Rattle.tcl_words.specs.Reading.{Flaw, Fault, Found, found, ◌>>=◌, in_file, lines_after, words_after, piece_of, commands_from}
use Rattle.tcl_words.specs.Spelling.{IsPiece, Spelled, spelling, fresh_after, ArePieces, Lines, with_piece, lines_of, commands_in}
use Rattle.tcl_words.proofs.Comments.{nothing_left}
use Rattle.tcl_words.proofs.PieceLemmas.{bind_ok, IsFound, piece-takes}
use Rattle.tcl_words.proofs.PieceAgain.{Begins, piece-again, piece_begins}

-- these words before the first line of some lines
abbrev pub with_words : List Word → Lines → Lines
with_words words lines = record { first = words ++ lines.first; later = lines.later }

-- bytes that are passed over
pub commands-skip : (file skip : ℕ) (front : List ℕ) (lines : List (List Word)) (words : List Word) (bytes : List ℕ)
    → commands_from file skip front lines words bytes ≡ commands_from file 0 (front ++ take skip bytes) lines words (drop skip bytes)
unfolding commands_from
commands-skip file zero front lines words bytes = ap (λ (f : List ℕ). commands_from file 0 f lines words bytes) (sym (append-nil front))
commands-skip file (suc skip) front lines words [] = refl
commands-skip file (suc skip) front lines words (byte ∷ rest) =
    commands-skip file skip (front ++ byte ∷ []) lines words rest
    ∙ ap (λ (f : List ℕ). commands_from file 0 f lines words (drop skip rest)) (append_assoc front (byte ∷ []) (take skip rest))

-- ---- a command begins exactly where no word of it is read yet

has_word_push : (words : List Word) (word : Word) → has_word (words ++ word ∷ []) ≡ true
has_word_push [] word = refl
has_word_push (first ∷ words) word = refl

pub fresh_behind : (piece : Piece) (place : Place) (words : List Word) (fresh : Bool) → fresh ≡ not (has_word words) → fresh_after fresh piece ≡ not (has_word (words_after piece place words))
fresh_behind Gap place words fresh e = e
fresh_behind End place words fresh e = refl
fresh_behind (Says text) place words fresh e = ap not (sym (has_word_push words (placed text place)))

-- ---- the commands, with a piece put before or behind

filter_two : (words : List Word) (b : Bool) (others : List (List Word)) → cond b (words ∷ []) [] ++ others ≡ cond b (words ∷ others) others
filter_two words true others = refl
filter_two words false others = refl

pub piece_behind : (piece : Piece) (place : Place) (lines : List (List Word)) (words : List Word) (later : Lines)
    → lines_after piece lines words ++ commands_in (with_words (words_after piece place words) later) ≡ lines ++ commands_in (with_words words (with_piece piece place later))
piece_behind Gap place lines words later = refl
piece_behind End place lines words later =
    append_assoc lines (filter has_word (words ∷ [])) (commands_in later)
    ∙ ap (λ (cs : List (List Word)). lines ++ cs) (filter_two words (has_word words) (commands_in later))
    ∙ ap (λ (ws : List Word). lines ++ filter has_word (ws ∷ later.first ∷ later.later)) (sym (append-nil words))
piece_behind (Says text) place lines words later =
    ap (λ (ws : List Word). lines ++ filter has_word (ws ∷ later.later)) (append_assoc words (placed text place ∷ []) later.first)

-- one piece is read
commands_step : (file : ℕ) (front : List ℕ) (lines : List (List Word)) (words : List Word) (byte : ℕ) (others after : List ℕ) (piece : Piece)
    → piece_of (not (has_word words)) (byte ∷ (others ++ after)) ≡ found piece (length (byte ∷ others))
    → commands_from file 0 front lines words (byte ∷ (others ++ after)) ≡ commands_from file 0 (front ++ byte ∷ others) (lines_after piece lines words) (words_after piece (place_after file front) words) after
unfolding commands_from
commands_step file front lines words byte others after piece e =
    let lines' = lines_after piece lines words in
    let words' = words_after piece (place_after file front) words in
    let less : suc (length others) - 1 ≡ length others = omega arith in
    ap (λ (r : Result (Found Piece) Flaw). in_file file front (byte ∷ (others ++ after)) r >>= λ next. commands_from file (next.len - 1) (front ++ byte ∷ []) (lines_after next.value lines words) (words_after next.value (place_after file front) words) (others ++ after)) e
    ∙ ap (λ (n : ℕ). commands_from file n (front ++ byte ∷ []) lines' words' (others ++ after)) less
    ∙ commands-skip file (length others) (front ++ byte ∷ []) lines' words' (others ++ after)
    ∙ ap (λ (t : List ℕ). commands_from file 0 ((front ++ byte ∷ []) ++ t) lines' words' (drop (length others) (others ++ after))) (take_at others after (length others) refl)
    ∙ ap (commands_from file 0 ((front ++ byte ∷ []) ++ others) lines' words') (drop_at others after (length others) refl)
    ∙ ap (λ (f : List ℕ). commands_from file 0 f lines' words' after) (append_assoc front (byte ∷ []) others)

-- ---- what is spelled so is read

pub read_piece : (file : ℕ) (front : List ℕ) (lines : List (List Word)) (words : List Word) (fresh : Bool) (piece : Piece) (text after : List ℕ) → fresh ≡ not (has_word words) → IsPiece fresh piece text after → Begins text
    → commands_from file 0 front lines words (text ++ after) ≡ commands_from file 0 (front ++ text) (lines_after piece lines words) (words_after piece (place_after file front) words) after
read_piece file front lines words fresh piece text after e is b =
    let read : piece_of (not (has_word words)) (b.byte ∷ (b.others ++ after)) ≡ found piece (length (b.byte ∷ b.others)) =
    subst (λ (f : Bool). piece_of f (b.byte ∷ (b.others ++ after)) ≡ found piece (length (b.byte ∷ b.others))) e
    (subst (λ (t : List ℕ). piece_of fresh (t ++ after) ≡ found piece (length t)) b.is (piece-again is)) in
    subst (λ (t : List ℕ). commands_from file 0 front lines words (t ++ after) ≡ commands_from file 0 (front ++ t) (lines_after piece lines words) (words_after piece (place_after file front) words) after) (sym b.is)
    (commands_step file front lines words b.byte b.others after piece read)

pub commands-again : (file : ℕ) (pieces : List Spelled) (front : List ℕ) (lines : List (List Word)) (words : List Word) (fresh : Bool) → fresh ≡ not (has_word words) → ArePieces fresh pieces
    → commands_from file 0 front lines words (spelling pieces) ≡ Ok (lines ++ commands_in (with_words words (lines_of file front pieces)))
unfolding commands_from
commands-again file [] front lines words fresh e are = ap (λ (ws : List Word). Ok (lines ++ filter has_word (ws ∷ []))) (sym (append-nil words))
commands-again file (s ∷ pieces) front lines words fresh e are =
    let place = place_after file front in
    read_piece file front lines words fresh s.piece s.bytes (spelling pieces) e are.0 (piece_begins are.0)
    ∙ commands-again file pieces (front ++ s.bytes) (lines_after s.piece lines words) (words_after s.piece place words) (fresh_after fresh s.piece) (fresh_behind s.piece place words fresh e) are.1
    ∙ ap (λ (cs : List (List Word)). Ok cs) (piece_behind s.piece place lines words (lines_of file (front ++ s.bytes) pieces))

-- ---- what is read is spelled so

-- the pieces that were read
pub record IsRead (file : ℕ) (front : List ℕ) (lines : List (List Word)) (words : List Word) (fresh : Bool) (bytes : List ℕ) (all : List (List Word)) : Type 0 where
  pub pieces : List Spelled
  pub are : ArePieces fresh pieces
  pub spelled : spelling pieces ≡ bytes
  pub says : all ≡ lines ++ commands_in (with_words words (lines_of file front pieces))

abbrev read_as : List (List Word) → Result (List (List Word)) Fault
read_as commands = Ok commands

commands_are : (x y : List (List Word)) → read_as x ≡ Ok y → x ≡ y
commands_are x y e = cc

pub in_file_ok : (file : ℕ) (front bytes : List ℕ) (r : Result (Found Piece) Flaw) (piece : Found Piece) → in_file file front bytes r ≡ Ok piece → r ≡ Ok piece
in_file_ok file front bytes (Ok x) piece e = let same : x ≡ piece = cc in ap (λ (p : Found Piece). Ok p) same
in_file_ok file front bytes (Err flaw) piece e = absurd cc

-- what follows the first byte of a piece
pub record Splits (byte : ℕ) (rest text after : List ℕ) (len : ℕ) : Type 0 where
  pub others : List ℕ
  pub is : text ≡ byte ∷ others
  pub taken : take (len - 1) rest ≡ others
  pub left : drop (len - 1) rest ≡ after

pub splits : (byte : ℕ) (rest text after : List ℕ) (len : ℕ) → byte ∷ rest ≡ text ++ after → len ≡ length text → 0 < len → Splits byte rest text after len
splits byte rest [] after len parts size some = absurd (omega (arith, size))
splits byte rest (first ∷ others) after len parts size some =
    let first_is : byte ≡ first = cc in
    let rest_is : rest ≡ others ++ after = cc in
    let less : length others ≡ len - 1 = omega (arith, size) in
    record {
      others = others;
      is = ap (λ (b : ℕ). b ∷ others) (sym first_is);
      taken = ap (take (len - 1)) rest_is ∙ take_at others after (len - 1) less;
      left = ap (drop (len - 1)) rest_is ∙ drop_at others after (len - 1) less;
    }

abbrev pub IsReadFrom : List ℕ → Type 0
IsReadFrom bytes = (file skip : ℕ) (front : List ℕ) (lines : List (List Word)) (words : List Word) (fresh : Bool) (all : List (List Word)) → fresh ≡ not (has_word words)
    → commands_from file skip front lines words bytes ≡ Ok all → IsRead file (front ++ take skip bytes) lines words fresh (drop skip bytes) all

piece_read : (file : ℕ) (front : List ℕ) (lines : List (List Word)) (words : List Word) (fresh : Bool) (byte : ℕ) (rest : List ℕ) (piece : Found Piece) (all : List (List Word)) → IsFound fresh (byte ∷ rest) piece
    → IsRead file ((front ++ byte ∷ []) ++ take (piece.len - 1) rest) (lines_after piece.value lines words) (words_after piece.value (place_after file front) words) (fresh_after fresh piece.value) (drop (piece.len - 1) rest) all
    → IsRead file front lines words fresh (byte ∷ rest) all
piece_read file front lines words fresh byte rest piece all f read =
    let s = splits byte rest f.text f.rest piece.len f.parts f.len f.some in
    let behind : (front ++ byte ∷ []) ++ take (piece.len - 1) rest ≡ front ++ f.text =
    append_assoc front (byte ∷ []) (take (piece.len - 1) rest) ∙ ap (λ (t : List ℕ). front ++ byte ∷ t) s.taken ∙ ap (λ (t : List ℕ). front ++ t) (sym s.is) in
    let left : spelling read.pieces ≡ f.rest = read.spelled ∙ s.left in
    record {
      pieces = record { piece = piece.value; bytes = f.text } ∷ read.pieces;
      are = (subst (IsPiece fresh piece.value f.text) (sym left) f.is, read.are);
      spelled = ap (λ (t : List ℕ). f.text ++ t) left ∙ sym f.parts;
      says = read.says
          ∙ piece_behind piece.value (place_after file front) lines words (lines_of file ((front ++ byte ∷ []) ++ take (piece.len - 1) rest) read.pieces)
          ∙ ap (λ (t : List ℕ). lines ++ commands_in (with_words words (with_piece piece.value (place_after file front) (lines_of file t read.pieces)))) behind;
    }

pub commands-take : (bytes : List ℕ) → IsReadFrom bytes
unfolding commands_from
commands-take [] file skip front lines words fresh all e read = record {
  pieces = [];
  are = tt;
  spelled = sym (nothing_left skip);
  says = sym (commands_are (lines ++ filter has_word (words ∷ [])) all read) ∙ ap (λ (ws : List Word). lines ++ filter has_word (ws ∷ [])) (sym (append-nil words));
}
commands-take (byte ∷ rest) file zero front lines words fresh all e read =
    let b = bind_ok (in_file file front (byte ∷ rest) (piece_of (not (has_word words)) (byte ∷ rest)))
    (λ next. commands_from file (next.len - 1) (front ++ byte ∷ []) (lines_after next.value lines words) (words_after next.value (place_after file front) words) rest) all read in
    let piece = b.0 in
    let found_here = piece-takes fresh byte rest piece (ap (λ (f : Bool). piece_of f (byte ∷ rest)) e ∙ in_file_ok file front (byte ∷ rest) (piece_of (not (has_word words)) (byte ∷ rest)) piece b.1) in
    let place = place_after file front in
    let later = commands-take rest file (piece.len - 1) (front ++ byte ∷ []) (lines_after piece.value lines words) (words_after piece.value place words) (fresh_after fresh piece.value) all (fresh_behind piece.value place words fresh e) b.2 in
    subst (λ (f : List ℕ). IsRead file f lines words fresh (byte ∷ rest) all) (sym (append-nil front)) (piece_read file front lines words fresh byte rest piece all found_here later)
commands-take (byte ∷ rest) file (suc skip) front lines words fresh all e read =
    subst (λ (f : List ℕ). IsRead file f lines words fresh (drop skip rest) all) (append_assoc front (byte ∷ []) (take skip rest))
    (commands-take rest file skip (front ++ byte ∷ []) lines words fresh all e read)
