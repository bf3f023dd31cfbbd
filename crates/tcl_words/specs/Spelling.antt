-- How a script is spelled: pieces in a row. A piece is a blank, a line join, the end of a command, a comment, or a word, which is
-- bare, in braces or in quotes.
use Rattle.std.specs.Prelude.{◌≡◌, ℕ, ◌%◌, Bool, true, false, ◌&&◌, ◌||◌, ◌==◌, not, List, [], ◌∷◌, ◌++◌, reverse, filter, IsTrue, IsUtf8, Contains, ◌⊎◌, if◌then◌else◌}
use Rattle.std.specs.List.{list_all, prefix_len, flat_map}
use Rattle.av_base.specs.declared.faults.Place.{Place}
use Rattle.tcl_words.specs.declared.words.Word.{Word}
use Rattle.tcl_words.specs.declared.pieces.Piece.{Piece}
use Rattle.tcl_words.specs.declared.pieces.Piece.TheVariants.{Gap, End, Says}
use Rattle.tcl_words.specs.Bytes.{line_feed, carriage_return, space, quote, hash, backslash, open_brace, close_brace, is_space_or_tab, is_blank, is_separator, substitutes, begins_with, begins_with_line_end, ends_word, kept}
use Rattle.tcl_words.specs.Script.{Script, placed, place_after, has_word}

-- the end of a line: a line feed, or a carriage return and a line feed
abbrev pub IsLineEnd : List ℕ → Type 0
IsLineEnd bytes = (bytes ≡ line_feed ∷ []) ⊎ (bytes ≡ carriage_return ∷ line_feed ∷ [])

-- a line join before the rest: a backslash, the end of the line, and all the spaces and tabs that follow
pub record IsJoin (join rest : List ℕ) : Type 0 where
  pub end : List ℕ
  pub blanks : List ℕ
  pub parts : join ≡ backslash ∷ (end ++ blanks)
  pub is_end : IsLineEnd end
  pub are_blank : IsTrue (list_all is_space_or_tab blanks)
  pub are_all : begins_with is_space_or_tab rest ≡ false

abbrev pub is_plain_in_braces : ℕ → Bool
is_plain_in_braces byte = not (byte == open_brace || (byte == close_brace || byte == backslash))

-- The bytes between two braces, and the text that they stand for. Braces nest. A line join is one space, and any other backslash
-- stays, with the byte behind it, which counts as no brace.
pub data InBraces : List ℕ → List ℕ → Type 0 where
  nothing : InBraces [] []
  plain : {bytes text : List ℕ} (byte : ℕ) → IsTrue (is_plain_in_braces byte) → InBraces bytes text
      → InBraces (byte ∷ bytes) (kept byte bytes ++ text)
  group : {inner inner_text bytes text : List ℕ} → InBraces inner inner_text → InBraces bytes text
      → InBraces (open_brace ∷ (inner ++ close_brace ∷ bytes)) (open_brace ∷ (inner_text ++ close_brace ∷ text))
  pair : {bytes text : List ℕ} (byte : ℕ) → begins_with_line_end (byte ∷ bytes) ≡ false → InBraces bytes text
      → InBraces (backslash ∷ byte ∷ bytes) (backslash ∷ byte ∷ text)
  joined : {bytes text : List ℕ} (join : List ℕ) → IsJoin join bytes → InBraces bytes text
      → InBraces (join ++ bytes) (space ∷ text)

abbrev pub is_plain_in_quotes : ℕ → Bool
is_plain_in_quotes byte = not (byte == quote || (substitutes byte || byte == backslash))

-- the bytes between two quotes, and the text that they stand for
pub data InQuotes : List ℕ → List ℕ → Type 0 where
  nothing : InQuotes [] []
  plain : {bytes text : List ℕ} (byte : ℕ) → IsTrue (is_plain_in_quotes byte) → InQuotes bytes text
      → InQuotes (byte ∷ bytes) (kept byte bytes ++ text)
  joined : {bytes text : List ℕ} (join : List ℕ) → IsJoin join bytes → InQuotes bytes text
      → InQuotes (join ++ bytes) (space ∷ text)

-- a byte of a bare word
abbrev pub is_bare : ℕ → Bool
is_bare byte = not (is_blank byte || (is_separator byte || (substitutes byte || byte == backslash)))

-- a bare word may begin with this byte: neither a brace nor a quote, nor a hash where a command would begin
abbrev pub begins_bare : Bool → ℕ → Bool
begins_bare fresh byte = not (byte == open_brace || (byte == quote || (byte == hash && fresh)))

abbrev pub without_return : List ℕ → List ℕ
without_return [] = []
without_return (byte ∷ before) = if byte == carriage_return then before else byte ∷ before

-- whether an odd number of backslashes stands at the end, a carriage return behind them left aside
abbrev pub ends_with_odd_backslashes : List ℕ → Bool
ends_with_odd_backslashes bytes = prefix_len (λ byte. byte == backslash) (without_return (reverse bytes)) % 2 == 1

-- a comment before the rest: it goes on behind each line feed in it, and ends before a line feed or with the text
pub record IsComment (comment rest : List ℕ) : Type 0 where
  pub goes_on : (front back : List ℕ) → comment ≡ front ++ line_feed ∷ back → IsTrue (ends_with_odd_backslashes front)
  pub ends : (rest ≡ []) ⊎ ((after : List ℕ) × (rest ≡ line_feed ∷ after) × (ends_with_odd_backslashes comment ≡ false))

-- Bytes before the rest are one piece of a script. `fresh` says whether a command would begin here.
pub data IsPiece : Bool → Piece → List ℕ → List ℕ → Type 0 where
  blank : {fresh : Bool} {rest : List ℕ} (byte : ℕ) → IsTrue (is_blank byte) → IsPiece fresh Gap (byte ∷ []) rest
  join : {fresh : Bool} {join rest : List ℕ} → IsJoin join rest → IsPiece fresh Gap join rest
  end : {fresh : Bool} {rest : List ℕ} (byte : ℕ) → IsTrue (is_separator byte) → IsPiece fresh End (byte ∷ []) rest
  comment : {bytes rest : List ℕ} → IsComment (hash ∷ bytes) rest → IsPiece true Gap (hash ∷ bytes) rest
  bare : {fresh : Bool} {byte : ℕ} {bytes rest : List ℕ} → IsTrue (begins_bare fresh byte)
      → IsTrue (list_all is_bare (byte ∷ bytes)) → IsTrue (ends_word rest)
      → IsPiece fresh (Says (byte ∷ bytes)) (byte ∷ bytes) rest
  braced : {fresh : Bool} {bytes text rest : List ℕ} → InBraces bytes text → IsTrue (ends_word rest)
      → IsPiece fresh (Says text) (open_brace ∷ (bytes ++ close_brace ∷ [])) rest
  quoted : {fresh : Bool} {bytes text rest : List ℕ} → InQuotes bytes text → IsTrue (ends_word rest)
      → IsPiece fresh (Says text) (quote ∷ (bytes ++ quote ∷ [])) rest

-- a piece and its bytes
pub record Spelled : Type 0 where
  pub piece : Piece
  pub bytes : List ℕ

abbrev pub spelling : List Spelled → List ℕ
spelling pieces = flat_map (λ spelled. spelled.bytes) pieces

-- whether a command would begin behind a piece
abbrev pub fresh_after : Bool → Piece → Bool
fresh_after fresh Gap = fresh
fresh_after fresh End = true
fresh_after fresh (Says text) = false

abbrev pub ArePieces : Bool → List Spelled → Type 0
ArePieces fresh [] = Unit {0}
ArePieces fresh (spelled ∷ pieces) =
    IsPiece fresh spelled.piece spelled.bytes (spelling pieces) × ArePieces (fresh_after fresh spelled.piece) pieces

-- the words up to the first end of a command, and those of each command behind it
pub record Lines : Type 0 where
  pub first : List Word
  pub later : List (List Word)

-- a piece that stands at the place, before some lines
abbrev pub with_piece : Piece → Place → Lines → Lines
with_piece Gap place lines = lines
with_piece End place lines = record { first = []; later = lines.first ∷ lines.later }
with_piece (Says text) place lines = record { first = placed text place ∷ lines.first; later = lines.later }

-- the lines of pieces behind the bytes `front` of a file
abbrev pub lines_of : ℕ → List ℕ → List Spelled → Lines
lines_of file front [] = record { first = []; later = [] }
lines_of file front (spelled ∷ pieces) =
    with_piece spelled.piece (place_after file front) (lines_of file (front ++ spelled.bytes) pieces)

-- the lines that have a word
abbrev pub commands_in : Lines → List (List Word)
commands_in lines = filter has_word (lines.first ∷ lines.later)

-- The bytes of a file spell a script: they are UTF-8 without a zero byte, and pieces in a row that make its commands.
pub record Spells (file : ℕ) (bytes : List ℕ) (script : Script) : Type 0 where
  pub utf8 : IsUtf8 bytes
  pub no_zero : ¬ Contains bytes 0
  pub pieces : List Spelled
  pub are_pieces : ArePieces true pieces
  pub spelled : spelling pieces ≡ bytes
  pub says : script ≡ record { commands = commands_in (lines_of file [] pieces); end = place_after file bytes }
