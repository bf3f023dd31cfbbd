-- Lines of plain words spell a script of the same words.
use Rattle.std.proofs.Common.{◌≡◌, ℕ, zero, suc, ◌<◌, Bool, true, false, ◌&&◌, ◌||◌, not, List, [], ◌∷◌, ◌++◌, length, refl, sym, ap, ◌∙◌, append_assoc, arith}
use Rattle.std.specs.Prelude.{◌==◌, nat_lt, slice_index_or, IsTrue}
use Rattle.std.specs.Str.{IsAscii}
use Rattle.std.proofs.lemmas.Str.{IsUtf8-from_ascii}
use Rattle.std.proofs.lemmas.Bool.Decides.{Decides-ltb}
use Rattle.std.specs.List.{list_all}
use Rattle.tcl_words.specs.Bytes.{ends_word}
use Rattle.tcl_words.specs.Script.{Script, place_after}
use Rattle.tcl_words.specs.Spelling.{Spelled, IsPiece, spelling, ArePieces, is_bare, begins_bare, lines_of, commands_in, Spells}
use Rattle.workload_systems.specs.Texts.{line_text, text_of}

-- a bare word
abbrev IsSaid : ℕ → List ℕ → Spelled → Type 0
IsSaid byte bytes spelled = (fresh : Bool) (rest : List ℕ) → IsTrue (begins_bare fresh byte) → IsTrue (list_all is_bare (byte ∷ bytes)) → IsTrue (ends_word rest)
    → IsPiece fresh spelled.piece spelled.bytes rest

abbrev said : (byte : ℕ) (bytes : List ℕ) → (spelled : Spelled) × IsSaid byte bytes spelled
said byte bytes = (record { piece = _; bytes = byte ∷ bytes }, λ fresh rest begins bare ends. IsPiece.bare begins bare ends)

-- the blank behind a word
abbrev gapped : (spelled : Spelled) × ((fresh : Bool) (rest : List ℕ) → IsPiece fresh spelled.piece spelled.bytes rest)
gapped = (record { piece = _; bytes = 32 ∷ [] }, λ fresh rest. IsPiece.blank 32 refl)

-- the end of a line
abbrev ended : (spelled : Spelled) × ((fresh : Bool) (rest : List ℕ) → IsPiece fresh spelled.piece spelled.bytes rest)
ended = (record { piece = _; bytes = 10 ∷ [] }, λ fresh rest. IsPiece.end 10 refl)

-- a word before other pieces; an empty one is none
abbrev with_word : List ℕ → List Spelled → List Spelled
with_word [] pieces = pieces
with_word (byte ∷ bytes) pieces = (said byte bytes).0 ∷ pieces

-- the pieces of a line before others
abbrev line_before : List (List ℕ) → List Spelled → List Spelled
line_before [] pieces = ended.0 ∷ pieces
line_before (word ∷ []) pieces = with_word word (ended.0 ∷ pieces)
line_before (word ∷ next ∷ words) pieces = with_word word (gapped.0 ∷ line_before (next ∷ words) pieces)

abbrev pub pieces_of : List (List (List ℕ)) → List Spelled
pieces_of [] = []
pieces_of (line ∷ lines) = line_before line (pieces_of lines)

abbrev pub script_of : ℕ → List (List (List ℕ)) → Script
script_of file lines = record { commands = commands_in (lines_of file [] (pieces_of lines)); end = place_after file (text_of lines) }

-- ---- which lines spell

-- neither a brace, a quote nor a hash at the front, and no byte that ends or changes a word
abbrev pub is_plain : List ℕ → Bool
is_plain [] = false
is_plain (byte ∷ bytes) = begins_bare true byte && list_all is_bare (byte ∷ bytes)

abbrev is_text_byte : ℕ → Bool
is_text_byte byte = nat_lt 0 byte && nat_lt byte 128

abbrev pub are_plain : List (List (List ℕ)) → Bool
are_plain lines = list_all (list_all is_plain) lines && list_all is_text_byte (text_of lines)

pub both : (a b : Bool) → (a && b) ≡ true → (a ≡ true) × (b ≡ true)
both true b e = (refl, e)
both false b e = cc

later_word : (brace quote hash : Bool) → not (brace || (quote || (hash && true))) ≡ true → not (brace || (quote || (hash && false))) ≡ true
later_word false false false e = refl
later_word false false true e = cc
later_word false true hash e = cc
later_word true quote hash e = cc

begins : (fresh : Bool) (byte : ℕ) → begins_bare true byte ≡ true → begins_bare fresh byte ≡ true
begins true byte e = e
begins false byte e = later_word (byte == 123) (byte == 34) (byte == 35) e

word_ok : (fresh : Bool) (word : List ℕ) (pieces : List Spelled) → is_plain word ≡ true → ends_word (spelling pieces) ≡ true → ArePieces false pieces → ArePieces fresh (with_word word pieces)
word_ok fresh [] pieces plain ends ok = cc
word_ok fresh (byte ∷ bytes) pieces plain ends ok =
    let parts = both (begins_bare true byte) (list_all is_bare (byte ∷ bytes)) plain in
    ((said byte bytes).1 fresh (spelling pieces) (begins fresh byte parts.0) parts.1 ends, ok)

line_ok : (fresh : Bool) (line : List (List ℕ)) (pieces : List Spelled) → list_all is_plain line ≡ true → ArePieces true pieces → ArePieces fresh (line_before line pieces)
line_ok fresh [] pieces plain ok = (ended.1 fresh _, ok)
line_ok fresh (word ∷ []) pieces plain ok =
    let parts = both (is_plain word) true plain in
    word_ok fresh word (ended.0 ∷ pieces) parts.0 refl (ended.1 false _, ok)
line_ok fresh (word ∷ next ∷ words) pieces plain ok =
    let parts = both (is_plain word) (list_all is_plain (next ∷ words)) plain in
    word_ok fresh word (gapped.0 ∷ line_before (next ∷ words) pieces) parts.0 refl (gapped.1 false _, line_ok false (next ∷ words) pieces parts.1 ok)

lines_ok : (lines : List (List (List ℕ))) → list_all (list_all is_plain) lines ≡ true → ArePieces true (pieces_of lines)
lines_ok [] plain = tt
lines_ok (line ∷ lines) plain =
    let parts = both (list_all is_plain line) (list_all (list_all is_plain) lines) plain in
    line_ok true line (pieces_of lines) parts.0 (lines_ok lines parts.1)

word_spelled : (word : List ℕ) (pieces : List Spelled) → spelling (with_word word pieces) ≡ word ++ spelling pieces
word_spelled [] pieces = refl
word_spelled (byte ∷ bytes) pieces = refl

line_spelled : (line : List (List ℕ)) (pieces : List Spelled) → spelling (line_before line pieces) ≡ line_text line ++ spelling pieces
unfolding line_text text_of
line_spelled [] pieces = refl
line_spelled (word ∷ []) pieces = word_spelled word _ ∙ sym (append_assoc word (10 ∷ []) (spelling pieces))
line_spelled (word ∷ next ∷ words) pieces =
    word_spelled word _ ∙ ap (λ l. word ++ 32 ∷ l) (line_spelled (next ∷ words) pieces) ∙ sym (append_assoc word (32 ∷ line_text (next ∷ words)) (spelling pieces))

lines_spelled : (lines : List (List (List ℕ))) → spelling (pieces_of lines) ≡ text_of lines
unfolding line_text text_of
lines_spelled [] = refl
lines_spelled (line ∷ lines) = line_spelled line (pieces_of lines) ∙ ap (λ l. line_text line ++ l) (lines_spelled lines)

byte_is : (byte : ℕ) → is_text_byte byte ≡ true → (0 < byte) × (byte < 128)
byte_is byte e =
    let parts = both (nat_lt 0 byte) (nat_lt byte 128) e in
    ((Decides-ltb 0 byte).0 parts.0, (Decides-ltb byte 128).0 parts.1)

ascii : (bytes : List ℕ) → list_all is_text_byte bytes ≡ true → IsAscii bytes
ascii [] e i = omega arith
ascii (byte ∷ bytes) e zero = (byte_is byte (both (is_text_byte byte) (list_all is_text_byte bytes) e).0).1
ascii (byte ∷ bytes) e (suc i) = ascii bytes (both (is_text_byte byte) (list_all is_text_byte bytes) e).1 i

no_zero_at : (bytes : List ℕ) (k : ℕ) → list_all is_text_byte bytes ≡ true → k < length bytes → slice_index_or bytes k 0 ≡ 0 → ⊥
no_zero_at [] k e less at = omega arith
no_zero_at (byte ∷ bytes) zero e less at = let some = (byte_is byte (both (is_text_byte byte) (list_all is_text_byte bytes) e).0).0 in omega arith
no_zero_at (byte ∷ bytes) (suc k) e less at = no_zero_at bytes k (both (is_text_byte byte) (list_all is_text_byte bytes) e).1 (omega arith) at

pub spells : (file : ℕ) (lines : List (List (List ℕ))) → are_plain lines ≡ true → Spells file (text_of lines) (script_of file lines)
unfolding line_text text_of
spells file lines plain =
    let parts = both (list_all (list_all is_plain) lines) (list_all is_text_byte (text_of lines)) plain in
    record {
      utf8 = IsUtf8-from_ascii (text_of lines) (ascii (text_of lines) parts.1);
      no_zero = λ zero_at. no_zero_at (text_of lines) zero_at.0 parts.1 zero_at.1 zero_at.2;
      pieces = pieces_of lines;
      are_pieces = lines_ok lines parts.0;
      spelled = lines_spelled lines;
      says = refl;
    }
