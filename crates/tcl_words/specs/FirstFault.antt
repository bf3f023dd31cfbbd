-- The first fault of a file, seen as a whole text: the pieces in a row before it, and behind them, by its rule, what stands
-- there.
use Rattle.std.specs.Prelude.{◌≡◌, ℕ, Bool, true, false, List, [], ◌∷◌, ◌++◌, length, IsTrue, IsUtf8, Contains}
use Rattle.std.specs.List.{list_all}
use Rattle.std.specs.Str.{IsValidUpTo}
use Rattle.tcl_words.specs.declared.rule.Rule.{Rule}
use Rattle.tcl_words.specs.declared.rule.Rule.TheVariants.{Substitution, Backslash, OpenBrace, OpenQuote, AfterClose, NotUtf8, ZeroByte}
use Rattle.tcl_words.specs.Bytes.{quote, backslash, open_brace, close_brace, substitutes, begins_with, begins_with_line_end, ends_word}
use Rattle.tcl_words.specs.Script.{place_after}
use Rattle.tcl_words.specs.Reading.{Fault}
use Rattle.tcl_words.specs.Spelling.{InBraces, InQuotes, is_bare, begins_bare, IsPiece, Spelled, spelling, fresh_after}

-- the front of a word that is bare or in quotes, in which a `$` counts: nothing yet, bytes of a bare word, or a quote and what
-- stands behind it
pub data IsOpenFront : Bool → List ℕ → Type 0 where
  nothing : {fresh : Bool} → IsOpenFront fresh []
  bare : {fresh : Bool} {byte : ℕ} {bytes : List ℕ} → IsTrue (begins_bare fresh byte) → IsTrue (list_all is_bare (byte ∷ bytes))
      → IsOpenFront fresh (byte ∷ bytes)
  quoted : {fresh : Bool} {bytes text : List ℕ} → InQuotes bytes text → IsOpenFront fresh (quote ∷ bytes)

-- a word in braces or quotes, closed
pub data IsClosed : List ℕ → Type 0 where
  braces : {bytes text : List ℕ} → InBraces bytes text → IsClosed (open_brace ∷ (bytes ++ close_brace ∷ []))
  quotes : {bytes text : List ℕ} → InQuotes bytes text → IsClosed (quote ∷ (bytes ++ quote ∷ []))

-- no brace among these bytes closes one that is opened before them
abbrev pub IsNeverClosed : List ℕ → Type 0
IsNeverClosed bytes = (inner text after : List ℕ) → InBraces inner text → ¬ (bytes ≡ inner ++ close_brace ∷ after)

-- A word begins with the bytes `front`, and breaks the rule at the first byte behind them.
pub data BreaksAt : Bool → Rule → List ℕ → List ℕ → Type 0 where
  substitution : {fresh : Bool} {front rest : List ℕ} → IsOpenFront fresh front → IsTrue (begins_with substitutes rest)
      → BreaksAt fresh Substitution front rest
  lone_backslash : {fresh : Bool} {front rest : List ℕ} → IsOpenFront fresh front → begins_with_line_end rest ≡ false
      → BreaksAt fresh Backslash front (backslash ∷ rest)
  unclosed_brace : {fresh : Bool} {rest : List ℕ} → IsNeverClosed rest → BreaksAt fresh OpenBrace [] (open_brace ∷ rest)
  unclosed_quote : {fresh : Bool} {rest text : List ℕ} → InQuotes rest text → BreaksAt fresh OpenQuote [] (quote ∷ rest)
  after_close : {fresh : Bool} {front rest : List ℕ} → IsClosed front → ends_word rest ≡ false
      → BreaksAt fresh AfterClose front rest

-- pieces in a row before the rest
abbrev pub ArePiecesBefore : List ℕ → Bool → List Spelled → Type 0
ArePiecesBefore rest fresh [] = Unit {0}
ArePiecesBefore rest fresh (spelled ∷ pieces) =
    IsPiece fresh spelled.piece spelled.bytes (spelling pieces ++ rest)
    × ArePiecesBefore rest (fresh_after fresh spelled.piece) pieces

-- whether a command would begin behind pieces
abbrev pub fresh_after_all : Bool → List Spelled → Bool
fresh_after_all fresh [] = fresh
fresh_after_all fresh (spelled ∷ pieces) = fresh_after_all (fresh_after fresh spelled.piece) pieces

-- behind pieces in a row a word breaks the rule at the first byte of the rest
pub record IsWordFlaw (rule : Rule) (front rest : List ℕ) : Type 0 where
  pub pieces : List Spelled
  pub begun : List ℕ
  pub parts : front ≡ spelling pieces ++ begun
  pub are_pieces : ArePiecesBefore (begun ++ rest) true pieces
  pub breaks : BreaksAt (fresh_after_all true pieces) rule begun rest

-- The first fault of a text stands between its front and the rest. The encoding of the whole text is judged first.
pub data IsFirstFlaw : Rule → List ℕ → List ℕ → Type 0 where
  word : {rule : Rule} {front rest : List ℕ} → IsUtf8 (front ++ rest) → ¬ Contains (front ++ rest) 0 → IsWordFlaw rule front rest
      → IsFirstFlaw rule front rest
  not_utf8 : {front rest : List ℕ} → IsValidUpTo (front ++ rest) (length front) → ¬ Contains front 0
      → IsFirstFlaw NotUtf8 front rest
  zero_byte : {front rest : List ℕ} → IsUtf8 front → ¬ Contains front 0 → IsFirstFlaw ZeroByte front (0 ∷ rest)

-- the first fault of a file: its rule, and its place behind the front
pub record IsFirstFault (file : ℕ) (bytes : List ℕ) (fault : Fault) : Type 0 where
  pub front : List ℕ
  pub rest : List ℕ
  pub parts : bytes ≡ front ++ rest
  pub stands : IsFirstFlaw fault.rule front rest
  pub place : fault.place ≡ place_after file front

-- the first fault of a text, read as file 1, stands on this line at this byte, and breaks this rule
abbrev pub IsRefusedAt : List ℕ → ℕ → ℕ → Rule → Type 0
IsRefusedAt text line byte rule =
    IsFirstFault 1 text (record { place = record { file = 1; line = line; byte = byte }; rule = rule })
