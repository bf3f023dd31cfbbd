-- Reading a script from left to right, with the first fault that is met.
-- In each function below a number `skip` says how many more bytes belong to what was read before.
use Rattle.std.specs.Prelude.{◌≡◌, ℕ, ◌≤◌, zero, suc, ◌+◌, ◌-◌, Bool, false, ◌&&◌, ◌==◌, not, List, [], ◌∷◌, ◌++◌, length, take, drop, filter, Option, Some, None, Result, Ok, Err, nat_lt, if◌then◌else◌}
use Rattle.std.specs.List.{prefix_len, position_or_len}
use Rattle.std.specs.Str.Lossy.{utf8_valid_len}
use Rattle.av_base.specs.declared.faults.Place.{Place}
use Rattle.tcl_words.specs.declared.words.Word.{Word}
use Rattle.tcl_words.specs.declared.rule.Rule.{Rule}
use Rattle.tcl_words.specs.declared.rule.Rule.TheVariants.{Substitution, Backslash, OpenBrace, OpenQuote, AfterClose, NotUtf8, ZeroByte}
use Rattle.tcl_words.specs.declared.rule.WordsFault.{WordsFault}
use Rattle.tcl_words.specs.declared.rule.WordsFault.TheVariants as faults
use Rattle.tcl_words.specs.declared.pieces.Piece.{Piece}
use Rattle.tcl_words.specs.declared.pieces.Piece.TheVariants.{Gap, End, Says}
use Rattle.tcl_words.specs.declared.pieces.Found as code
use Rattle.tcl_words.specs.declared.pieces.PieceFault.{PieceFault}
use Rattle.tcl_words.specs.declared.pieces.PieceFault.TheVariants as piece_faults
use Rattle.tcl_words.specs.Bytes.{line_feed, carriage_return, space, quote, hash, backslash, open_brace, close_brace, is_space_or_tab, is_blank, is_separator, substitutes, begins_with_line_feed, begins_with_line_end, ends_word, kept}
use Rattle.tcl_words.specs.Script.{placed, place_after, has_word}

-- a rule that is broken, so many bytes behind the front of a text
pub record Flaw : Type 0 where
  pub at : ℕ
  pub rule : Rule

-- the same in a file
pub record Fault : Type 0 where
  pub place : Place
  pub rule : Rule

-- what was found at the front of a text, and how many bytes it takes
pub record Found (X : Type 0) : Type 0 where
  pub value : X
  pub len : ℕ

infixl 10 ◌>>=◌
abbrev pub ◌>>=◌ : {A B E : Type 0} → Result A E → (A → Result B E) → Result B E
(Ok x) >>= f = f x
(Err e) >>= f = Err e

abbrev pub found : {X : Type 0} → X → ℕ → Result (Found X) Flaw
found value len = Ok (record { value = value; len = len })

abbrev pub flaw : {X : Type 0} → ℕ → Rule → Result X Flaw
flaw at rule = Err (record { at = at; rule = rule })

-- how many of the bytes behind a backslash belong to the line join that it begins
abbrev pub join_tail : List ℕ → ℕ
join_tail bytes = let end = (if begins_with_line_feed bytes then 1 else 2) in end + prefix_len is_space_or_tab (drop end bytes)

-- How long a comment goes on. `odd` says whether an odd number of backslashes stands before.
unfoldable pub comment_len : Bool → List ℕ → ℕ
comment_len odd [] = 0
comment_len odd (byte ∷ rest) =
    if byte == line_feed then (if odd then 1 + comment_len false rest else 0)
    else if byte == backslash then 1 + comment_len (not odd) rest
    else 1 + comment_len (odd && (byte == carriage_return && begins_with_line_feed rest)) rest

-- How long a bare word goes on, of which `at` bytes are read.
unfoldable pub bare_len : ℕ → List ℕ → Result ℕ Flaw
bare_len at [] = Ok at
bare_len at (byte ∷ rest) =
    if ends_word (byte ∷ rest) then Ok at
    else if substitutes byte then flaw at Substitution
    else if byte == backslash then flaw at Backslash
    else bare_len (at + 1) rest

-- The text between braces, of which `at` bytes are read and are `text`. So many braces are open inside it.
unfoldable pub braced : ℕ → ℕ → ℕ → List ℕ → List ℕ → Result (Found (List ℕ)) Flaw
braced skip at depth text [] = flaw 0 OpenBrace
braced (suc skip) at depth text (byte ∷ rest) = braced skip (at + 1) depth text rest
braced zero at depth text (byte ∷ rest) =
    if byte == close_brace
    then (if depth == 0 then found text (at + 1) else braced 0 (at + 1) (depth - 1) (text ++ byte ∷ []) rest)
    else if byte == open_brace then braced 0 (at + 1) (depth + 1) (text ++ byte ∷ []) rest
    else if byte == backslash
    then (if begins_with_line_end rest then braced (join_tail rest) (at + 1) depth (text ++ space ∷ []) rest
    else braced 1 (at + 1) depth (text ++ take 2 (byte ∷ rest)) rest)
    else braced 0 (at + 1) depth (text ++ kept byte rest) rest

-- The text between quotes, of which `at` bytes are read and are `text`.
unfoldable pub quoted : ℕ → ℕ → List ℕ → List ℕ → Result (Found (List ℕ)) Flaw
quoted skip at text [] = flaw 0 OpenQuote
quoted (suc skip) at text (byte ∷ rest) = quoted skip (at + 1) text rest
quoted zero at text (byte ∷ rest) =
    if byte == quote then found text (at + 1)
    else if substitutes byte then flaw at Substitution
    else if byte == backslash
    then (if begins_with_line_end rest then quoted (join_tail rest) (at + 1) (text ++ space ∷ []) rest else flaw at Backslash)
    else quoted 0 (at + 1) (text ++ kept byte rest) rest

-- a word in braces or quotes, whose text was found
abbrev pub grouped : List ℕ → Found (List ℕ) → Result (Found Piece) Flaw
grouped bytes text = if ends_word (drop text.len bytes) then found (Says text.value) text.len else flaw text.len AfterClose

-- the line join that a backslash before these bytes begins
abbrev pub join_of : List ℕ → Result (Found Piece) Flaw
join_of rest = if begins_with_line_end rest then found Gap (1 + join_tail rest) else flaw 0 Backslash

-- the word that begins with this byte
abbrev pub word_of : ℕ → List ℕ → Result (Found Piece) Flaw
word_of byte rest =
    if byte == open_brace then braced 0 1 0 [] rest >>= grouped (byte ∷ rest)
    else if byte == quote then quoted 0 1 [] rest >>= grouped (byte ∷ rest)
    else (bare_len 0 (byte ∷ rest) >>= λ len. found (Says (take len (byte ∷ rest))) len)

-- the piece at the front of a script
unfoldable pub piece_of : Bool → List ℕ → Result (Found Piece) Flaw
piece_of fresh [] = found Gap 0
piece_of fresh (byte ∷ rest) =
    if is_blank byte then found Gap 1
    else if is_separator byte then found End 1
    else if byte == backslash then join_of rest
    else if byte == hash && fresh then found Gap (1 + comment_len false rest)
    else word_of byte rest

-- a flaw in a text that stands behind the bytes `front` of a file
abbrev pub in_file : {X : Type 0} → ℕ → List ℕ → List ℕ → Result X Flaw → Result X Fault
in_file file front bytes (Ok x) = Ok x
in_file file front bytes (Err flaw) = Err (record { place = place_after file (front ++ take flaw.at bytes); rule = flaw.rule })

-- the commands so far, and the words of the last, behind a piece
abbrev pub lines_after : Piece → List (List Word) → List Word → List (List Word)
lines_after Gap lines words = lines
lines_after End lines words = lines ++ filter has_word (words ∷ [])
lines_after (Says text) lines words = lines

abbrev pub words_after : Piece → Place → List Word → List Word
words_after Gap place words = words
words_after End place words = []
words_after (Says text) place words = words ++ placed text place ∷ []

-- The commands of a file whose bytes so far are `front`, with these commands and these words of the last.
unfoldable pub commands_from : ℕ → ℕ → List ℕ → List (List Word) → List Word → List ℕ → Result (List (List Word)) Fault
commands_from file skip front lines words [] = Ok (lines ++ filter has_word (words ∷ []))
commands_from file (suc skip) front lines words (byte ∷ rest) = commands_from file skip (front ++ byte ∷ []) lines words rest
commands_from file zero front lines words (byte ∷ rest) =
    in_file file front (byte ∷ rest) (piece_of (not (has_word words)) (byte ∷ rest)) >>= λ next.
    commands_from file (next.len - 1) (front ++ byte ∷ []) (lines_after next.value lines words)
    (words_after next.value (place_after file front) words) rest

-- the commands of a file, or the first fault in reading order
abbrev pub commands_of : ℕ → List ℕ → Result (List (List Word)) Fault
commands_of file bytes = commands_from file 0 [] [] [] bytes

-- where the bytes stop being UTF-8, or have a zero byte before that
abbrev pub encoding_flaw : List ℕ → Option Flaw
encoding_flaw bytes =
    let zero_at = position_or_len (λ byte. byte == 0) bytes in
    let valid = utf8_valid_len bytes in
    if nat_lt zero_at valid then Some (record { at = zero_at; rule = ZeroByte })
    else if nat_lt valid (length bytes) then Some (record { at = valid; rule = NotUtf8 }) else None

abbrev pub fault_of : {X : Type 0} → Result X Fault → Option Fault
fault_of (Ok x) = None
fault_of (Err fault) = Some fault

-- The first fault of a file. The encoding of the whole file is judged first.
abbrev pub first_fault : ℕ → List ℕ → Option Flaw → Option Fault
first_fault file bytes None = fault_of (commands_of file bytes)
first_fault file bytes (Some flaw) = Some (record { place = place_after file (take flaw.at bytes); rule = flaw.rule })

abbrev pub first_word_fault : ℕ → List ℕ → Option Fault
first_word_fault file bytes = first_fault file bytes (encoding_flaw bytes)

-- What a function found, seen by `view`, is what reading finds, unless memory ran out.
abbrev pub Fails : {Y : Type 0} → PieceFault → Result Y Flaw → Type 0
Fails piece_faults.NoMemory read = Unit {0}
Fails (piece_faults.Flaw at rule) read = read ≡ flaw at rule

abbrev pub Finds : {X Y : Type 0} → (X → Y) → Result X PieceFault → Result Y Flaw → Type 0
Finds view (Ok x) read = read ≡ Ok (view x)
Finds view (Err e) read = Fails e read

-- a piece that the code found
abbrev pub view : code.Found → Found Piece
view piece = record { value = piece.piece; len = piece.len }

-- an error that is no want of memory is this refusal
abbrev pub Refuses : WordsFault → Option Fault → Type 0
Refuses faults.NoMemory fault = Unit {0}
Refuses (faults.Refused place rule) fault = fault ≡ Some (record { place = place; rule = rule })

-- the file is refused for this flaw
abbrev pub IsRefusedFor : ℕ → List ℕ → Option Flaw → WordsFault → Type 0
IsRefusedFor file bytes flaw e =
    (broken : Flaw) × (flaw ≡ Some broken) × (e ≡ faults.Refused (place_after file (take broken.at bytes)) broken.rule)

-- a flaw stands within so many bytes
abbrev pub IsWithin : ℕ → PieceFault → Type 0
IsWithin len piece_faults.NoMemory = Unit {0}
IsWithin len (piece_faults.Flaw at rule) = at ≤ len
