-- The first fault of a file whose encoding is right: pieces in a row, and then a word that breaks a rule.
use Rattle.std.proofs.Common.{◌≡◌, ℕ, zero, suc, ◌-◌, Bool, true, List, [], ◌∷◌, ◌++◌, length, take, drop, refl, sym, ap, subst, ◌∙◌, inl, inr, append_assoc}
use Rattle.std.specs.Prelude.{Result, Ok, Err, not}
use Rattle.std.proofs.lemmas.List.{append-nil, take_at}
use Rattle.tcl_words.specs.declared.rule.Rule.{Rule}
use Rattle.tcl_words.specs.declared.words.Word.{Word}
use Rattle.tcl_words.specs.declared.pieces.Piece.{Piece}
use Rattle.tcl_words.specs.Script.{place_after, has_word}
use Rattle.tcl_words.specs.Reading.{Flaw, Fault, Found, flaw, ◌>>=◌, in_file, lines_after, words_after, piece_of, commands_from, commands_of}
use Rattle.tcl_words.specs.Spelling.{IsPiece, Spelled, spelling, fresh_after}
use Rattle.tcl_words.specs.FirstFault.{BreaksAt, ArePiecesBefore, fresh_after_all, IsWordFlaw}
use Rattle.tcl_words.proofs.PieceLemmas.{IsFound, piece-takes}
use Rattle.tcl_words.proofs.PieceAgain.{piece_begins}
use Rattle.tcl_words.proofs.Flaws.{bind_err}
use Rattle.tcl_words.proofs.PieceFlaws.{IsFlawed, piece-flawed, piece-breaks}
use Rattle.tcl_words.proofs.Scripts.{fresh_behind, in_file_ok, splits, read_piece}

abbrev pub fault_at : ℕ → List ℕ → Rule → Fault
fault_at file front rule = record { place = place_after file front; rule = rule }

-- ---- the fault that is read stands there

-- a fault that was read behind the bytes `front` of a file
pub record IsFaulty (file : ℕ) (front : List ℕ) (fresh : Bool) (bytes : List ℕ) (fault : Fault) : Type 0 where
  pub pieces : List Spelled
  pub begun : List ℕ
  pub rest : List ℕ
  pub parts : bytes ≡ spelling pieces ++ (begun ++ rest)
  pub are : ArePiecesBefore (begun ++ rest) fresh pieces
  pub breaks : BreaksAt (fresh_after_all fresh pieces) fault.rule begun rest
  pub place : fault.place ≡ place_after file (front ++ (spelling pieces ++ begun))

in_file_err : (file : ℕ) (front bytes : List ℕ) (r : Result (Found Piece) Flaw) (fault : Fault) → in_file file front bytes r ≡ Err fault
    → (f : Flaw) × (r ≡ Err f) × (fault_at file (front ++ take f.at bytes) f.rule ≡ fault)
in_file_err file front bytes (Ok x) fault e = absurd cc
in_file_err file front bytes (Err f) fault e = (f, refl, let same : fault_at file (front ++ take f.at bytes) f.rule ≡ fault = cc in same)

fault_here : (file : ℕ) (front : List ℕ) (fresh : Bool) (bytes : List ℕ) (f : Flaw) (fault : Fault) → fault_at file (front ++ take f.at bytes) f.rule ≡ fault → IsFlawed fresh bytes f → IsFaulty file front fresh bytes fault
fault_here file front fresh bytes f fault e is = subst (IsFaulty file front fresh bytes) e record {
  pieces = [];
  begun = is.front;
  rest = is.rest;
  parts = is.parts;
  are = tt;
  breaks = is.breaks;
  place = ap (λ (t : List ℕ). place_after file (front ++ t)) (ap (take f.at) is.parts ∙ take_at is.front is.rest f.at (sym is.len));
}

piece_before : (file : ℕ) (front : List ℕ) (fresh : Bool) (byte : ℕ) (rest : List ℕ) (piece : Found Piece) (fault : Fault) → IsFound fresh (byte ∷ rest) piece
    → IsFaulty file ((front ++ byte ∷ []) ++ take (piece.len - 1) rest) (fresh_after fresh piece.value) (drop (piece.len - 1) rest) fault → IsFaulty file front fresh (byte ∷ rest) fault
piece_before file front fresh byte rest piece fault f later =
    let s = splits byte rest f.text f.rest piece.len f.parts f.len f.some in
    let behind : (front ++ byte ∷ []) ++ take (piece.len - 1) rest ≡ front ++ f.text =
    append_assoc front (byte ∷ []) (take (piece.len - 1) rest) ∙ ap (λ (t : List ℕ). front ++ byte ∷ t) s.taken ∙ ap (λ (t : List ℕ). front ++ t) (sym s.is) in
    let left : f.rest ≡ spelling later.pieces ++ (later.begun ++ later.rest) = sym s.left ∙ later.parts in
    record {
      pieces = record { piece = piece.value; bytes = f.text } ∷ later.pieces;
      begun = later.begun;
      rest = later.rest;
      parts = f.parts ∙ ap (λ (t : List ℕ). f.text ++ t) left ∙ sym (append_assoc f.text (spelling later.pieces) (later.begun ++ later.rest));
      are = (subst (IsPiece fresh piece.value f.text) left f.is, later.are);
      breaks = later.breaks;
      place = later.place
          ∙ ap (λ (t : List ℕ). place_after file (t ++ (spelling later.pieces ++ later.begun))) behind
          ∙ ap (place_after file) (append_assoc front f.text (spelling later.pieces ++ later.begun))
          ∙ ap (λ (t : List ℕ). place_after file (front ++ t)) (sym (append_assoc f.text (spelling later.pieces) later.begun));
    }

abbrev pub IsFaultyFrom : List ℕ → Type 0
IsFaultyFrom bytes = (file skip : ℕ) (front : List ℕ) (lines : List (List Word)) (words : List Word) (fresh : Bool) (fault : Fault) → fresh ≡ not (has_word words)
    → commands_from file skip front lines words bytes ≡ Err fault → IsFaulty file (front ++ take skip bytes) fresh (drop skip bytes) fault

-- what is read at the first byte of a piece, where the rest is read so
first_piece : (byte : ℕ) (rest : List ℕ) → IsFaultyFrom rest → (file : ℕ) (front : List ℕ) (lines : List (List Word)) (words : List Word) (fresh : Bool) (fault : Fault) → fresh ≡ not (has_word words)
    → commands_from file 0 front lines words (byte ∷ rest) ≡ Err fault → IsFaulty file front fresh (byte ∷ rest) fault
unfolding commands_from
first_piece byte rest goes_on file front lines words fresh fault e read =
    let here = piece_of (not (has_word words)) (byte ∷ rest) in
    let same : piece_of fresh (byte ∷ rest) ≡ here = ap (λ (f : Bool). piece_of f (byte ∷ rest)) e in
    let place = place_after file front in
    elim (bind_err (in_file file front (byte ∷ rest) here)
    (λ next. commands_from file (next.len - 1) (front ++ byte ∷ []) (lines_after next.value lines words) (words_after next.value (place_after file front) words) rest) fault read) [
      | inl fails ↦ let b = in_file_err file front (byte ∷ rest) here fault fails in fault_here file front fresh (byte ∷ rest) b.0 fault b.2 (piece-flawed fresh byte rest b.0 (same ∙ b.1))
      | inr (piece, found, fails) ↦
          piece_before file front fresh byte rest piece fault (piece-takes fresh byte rest piece (same ∙ in_file_ok file front (byte ∷ rest) here piece found))
          (goes_on file (piece.len - 1) (front ++ byte ∷ []) (lines_after piece.value lines words) (words_after piece.value place words) (fresh_after fresh piece.value) fault
          (fresh_behind piece.value place words fresh e) fails)
    ]

pub commands-flawed : (bytes : List ℕ) → IsFaultyFrom bytes
unfolding commands_from
commands-flawed [] file skip front lines words fresh fault e read = absurd cc
commands-flawed (byte ∷ rest) file zero front lines words fresh fault e read =
    subst (λ (f : List ℕ). IsFaulty file f fresh (byte ∷ rest) fault) (sym (append-nil front)) (first_piece byte rest (commands-flawed rest) file front lines words fresh fault e read)
commands-flawed (byte ∷ rest) file (suc skip) front lines words fresh fault e read =
    subst (λ (f : List ℕ). IsFaulty file f fresh (drop skip rest) fault) (append_assoc front (byte ∷ []) (take skip rest))
    (commands-flawed rest file skip (front ++ byte ∷ []) lines words fresh fault e read)

-- ---- the fault that stands there is read

-- reading goes over pieces in a row
record Reaches (file : ℕ) (front : List ℕ) (lines : List (List Word)) (words : List Word) (fresh : Bool) (pieces : List Spelled) (rest : List ℕ) : Type 0 where
  later_lines : List (List Word)
  later_words : List Word
  is_fresh : fresh_after_all fresh pieces ≡ not (has_word later_words)
  reads : commands_from file 0 front lines words (spelling pieces ++ rest) ≡ commands_from file 0 (front ++ spelling pieces) later_lines later_words rest

commands_reach : (file : ℕ) (pieces : List Spelled) (front : List ℕ) (lines : List (List Word)) (words : List Word) (fresh : Bool) (rest : List ℕ) → fresh ≡ not (has_word words) → ArePiecesBefore rest fresh pieces
    → Reaches file front lines words fresh pieces rest
commands_reach file [] front lines words fresh rest e are = record {
  later_lines = lines;
  later_words = words;
  is_fresh = e;
  reads = ap (λ (f : List ℕ). commands_from file 0 f lines words rest) (sym (append-nil front));
}
commands_reach file (s ∷ pieces) front lines words fresh rest e are =
    let place = place_after file front in
    let r = commands_reach file pieces (front ++ s.bytes) (lines_after s.piece lines words) (words_after s.piece place words) (fresh_after fresh s.piece) rest (fresh_behind s.piece place words fresh e) are.1 in
    record {
      later_lines = r.later_lines;
      later_words = r.later_words;
      is_fresh = r.is_fresh;
      reads = ap (commands_from file 0 front lines words) (append_assoc s.bytes (spelling pieces) rest)
          ∙ read_piece file front lines words fresh s.piece s.bytes (spelling pieces ++ rest) e are.0 (piece_begins are.0)
          ∙ r.reads
          ∙ ap (λ (f : List ℕ). commands_from file 0 f r.later_lines r.later_words rest) (append_assoc front s.bytes (spelling pieces));
    }

breaks_first : (file : ℕ) (front : List ℕ) (lines : List (List Word)) (words : List Word) (text : List ℕ) (at : ℕ) (rule : Rule) → piece_of (not (has_word words)) text ≡ flaw at rule
    → commands_from file 0 front lines words text ≡ Err (fault_at file (front ++ take at text) rule)
unfolding commands_from piece_of
breaks_first file front lines words [] at rule e = absurd cc
breaks_first file front lines words (byte ∷ rest) at rule e =
    ap (λ (r : Result (Found Piece) Flaw). in_file file front (byte ∷ rest) r >>= λ next. commands_from file (next.len - 1) (front ++ byte ∷ []) (lines_after next.value lines words) (words_after next.value (place_after file front) words) rest) e

pub word_flaw_read : (file : ℕ) (rule : Rule) (front rest : List ℕ) → IsWordFlaw rule front rest → commands_of file (front ++ rest) ≡ Err (fault_at file front rule)
word_flaw_read file rule front rest is =
    let r = commands_reach file is.pieces [] [] [] true (is.begun ++ rest) refl is.are_pieces in
    let whole : front ++ rest ≡ spelling is.pieces ++ (is.begun ++ rest) = ap (λ (t : List ℕ). t ++ rest) is.parts ∙ append_assoc (spelling is.pieces) is.begun rest in
    let stops : piece_of (not (has_word r.later_words)) (is.begun ++ rest) ≡ flaw (length is.begun) rule =
    subst (λ (f : Bool). piece_of f (is.begun ++ rest) ≡ flaw (length is.begun) rule) r.is_fresh (piece-breaks is.breaks) in
    ap (λ (t : List ℕ). commands_of file t) whole
    ∙ r.reads
    ∙ breaks_first file (spelling is.pieces) r.later_lines r.later_words (is.begun ++ rest) (length is.begun) rule stops
    ∙ ap (λ (t : List ℕ). Err (fault_at file (spelling is.pieces ++ t) rule)) (take_at is.begun rest (length is.begun) refl)
    ∙ ap (λ (t : List ℕ). Err (fault_at file t rule)) (sym is.parts)
