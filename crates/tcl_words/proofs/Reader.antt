-- The commands of a file at a place of it, one piece on.
use Rattle.std.proofs.Common.{◌≡◌, ℕ, suc, ◌+◌, ◌-◌, ◌<◌, ◌≤◌, ◌↔◌, Bool, ◌==◌, cond, List, [], ◌∷◌, ◌++◌, length, take, drop, get_or, refl, sym, ap, subst, ◌∙◌, arith, append_assoc, Option, Some, None, count_by}
use Rattle.std.specs.Prelude.{IsTrue, IsUtf8, Result, Ok, Err, not, filter, MatchResult}
use Rattle.std.proofs.lemmas.Bool.{false_from_ne_true}
use Rattle.std.proofs.lemmas.List.{drop_more, drop_all, drop-drop, length-drop, length-take-le, take_all}
use Rattle.std.proofs.lemmas.List.Sums.{sum_by-append}
use Rattle.std.proofs.Math.Seq.{take-add}
use Rattle.av_base.specs.declared.faults.Place.{Place}
use Rattle.tcl_words.specs.declared.words.Word.{Word}
use Rattle.tcl_words.specs.declared.rule.WordsFault.{WordsFault}
use Rattle.tcl_words.specs.declared.rule.WordsFault.TheVariants as faults
use Rattle.tcl_words.specs.declared.pieces.Piece.{Piece}
use Rattle.tcl_words.specs.Bytes.{line_feed}
use Rattle.tcl_words.specs.Script.{Script, place_after, has_word}
use Rattle.tcl_words.specs.Reading.{Flaw, Fault, Found, flaw, ◌>>=◌, in_file, fault_of, lines_after, words_after, piece_of, commands_from, commands_of, encoding_flaw, first_fault, first_word_fault, Refuses, IsRefusedFor}
use Rattle.tcl_words.specs.Spelling.{Spells}
use Rattle.tcl_words.proofs.Encoding.{utf8_behind_piece}
use Rattle.tcl_words.proofs.Scripts.{commands-skip}
use Rattle.tcl_words.proofs.ScriptLaws.{reads_as, spells_from, script_with, commands_same}

abbrev pub feeds : List ℕ → ℕ
feeds bytes = count_by (λ byte. byte == line_feed) bytes

pub feeds-append : (xs ys : List ℕ) → feeds (xs ++ ys) ≡ feeds xs + feeds ys
feeds-append xs ys = sum_by-append (λ (byte : ℕ). cond (byte == line_feed) 1 0) xs ys

-- a command begins where no word of it was read
pub fresh_is : (b : Bool) (words : List Word) → (IsTrue b ↔ (words ≡ [])) → b ≡ not (has_word words)
fresh_is b [] h = h.1 refl
fresh_is b (word ∷ words) h = false_from_ne_true b (λ e. let none : word ∷ words ≡ [] = h.0 e in cc)

-- ---- one piece on

step_at : (file : ℕ) (front : List ℕ) (lines : List (List Word)) (words : List Word) (byte : ℕ) (rest : List ℕ) (piece : Found Piece) → piece_of (not (has_word words)) (byte ∷ rest) ≡ Ok piece → 0 < piece.len
    → commands_from file 0 front lines words (byte ∷ rest)
    ≡ commands_from file 0 (front ++ take piece.len (byte ∷ rest)) (lines_after piece.value lines words) (words_after piece.value (place_after file front) words) (drop piece.len (byte ∷ rest))
unfolding commands_from
step_at file front lines words byte rest piece e some =
    let lines' = lines_after piece.value lines words in
    let words' = words_after piece.value (place_after file front) words in
    let n : ℕ = piece.len - 1 in
    let more : suc n ≡ piece.len = omega arith in
    ap (λ (r : Result (Found Piece) Flaw). in_file file front (byte ∷ rest) r >>= λ next. commands_from file (next.len - 1) (front ++ byte ∷ []) (lines_after next.value lines words) (words_after next.value (place_after file front) words) rest) e
    ∙ commands-skip file n (front ++ byte ∷ []) lines' words' rest
    ∙ ap (λ (f : List ℕ). commands_from file 0 f lines' words' (drop n rest)) (append_assoc front (byte ∷ []) (take n rest))
    ∙ ap (λ (k : ℕ). commands_from file 0 (front ++ take k (byte ∷ rest)) lines' words' (drop k (byte ∷ rest))) more

pub piece_on : (file : ℕ) (bytes : List ℕ) (at : ℕ) (lines : List (List Word)) (words : List Word) (fresh : Bool) (piece : Found Piece) → at < length bytes → fresh ≡ not (has_word words)
    → piece_of fresh (drop at bytes) ≡ Ok piece → 0 < piece.len
    → commands_from file 0 (take at bytes) lines words (drop at bytes)
    ≡ commands_from file 0 (take (at + piece.len) bytes) (lines_after piece.value lines words) (words_after piece.value (place_after file (take at bytes)) words) (drop (at + piece.len) bytes)
piece_on file bytes at lines words fresh piece inside is e some =
    let lines' = lines_after piece.value lines words in
    let words' = words_after piece.value (place_after file (take at bytes)) words in
    let here : drop at bytes ≡ get_or bytes at 0 ∷ drop (at + 1) bytes = drop_more bytes at 0 inside in
    let read : piece_of (not (has_word words)) (get_or bytes at 0 ∷ drop (at + 1) bytes) ≡ Ok piece = ap (λ (f : Bool). piece_of f (get_or bytes at 0 ∷ drop (at + 1) bytes)) (sym is) ∙ ap (piece_of fresh) (sym here) ∙ e in
    ap (commands_from file 0 (take at bytes) lines words) here
    ∙ step_at file (take at bytes) lines words (get_or bytes at 0) (drop (at + 1) bytes) piece read some
    ∙ ap (λ (b : List ℕ). commands_from file 0 (take at bytes ++ take piece.len b) lines' words' (drop piece.len b)) (sym here)
    ∙ ap (λ (f : List ℕ). commands_from file 0 f lines' words' (drop piece.len (drop at bytes))) (sym (take-add at piece.len bytes))
    ∙ ap (commands_from file 0 (take (at + piece.len) bytes) lines' words') (drop-drop piece.len at bytes)

-- ---- a piece that isn't there

refuses_on : {X Y : Type 0} (e : WordsFault) (r : Result X Fault) (f : X → Result Y Fault) → Refuses e (fault_of r) → Refuses e (fault_of (r >>= f))
refuses_on faults.NoMemory r f h = tt
refuses_on (faults.Refused place rule) (Ok x) f h = absurd cc
refuses_on (faults.Refused place rule) (Err fault) f h = h

refused_at : (file : ℕ) (front : List ℕ) (lines : List (List Word)) (words : List Word) (byte : ℕ) (rest : List ℕ) (e : WordsFault)
    → Refuses e (fault_of (in_file file front (byte ∷ rest) (piece_of (not (has_word words)) (byte ∷ rest)))) → Refuses e (fault_of (commands_from file 0 front lines words (byte ∷ rest)))
unfolding commands_from
refused_at file front lines words byte rest e h = refuses_on e (in_file file front (byte ∷ rest) (piece_of (not (has_word words)) (byte ∷ rest))) _ h

pub refused_on : (file : ℕ) (bytes : List ℕ) (at : ℕ) (lines : List (List Word)) (words : List Word) (fresh : Bool) (e : WordsFault) → at < length bytes → fresh ≡ not (has_word words)
    → Refuses e (fault_of (in_file file (take at bytes) (drop at bytes) (piece_of fresh (drop at bytes)))) → Refuses e (fault_of (commands_from file 0 (take at bytes) lines words (drop at bytes)))
refused_on file bytes at lines words fresh e inside is h =
    let here : drop at bytes ≡ get_or bytes at 0 ∷ drop (at + 1) bytes = drop_more bytes at 0 inside in
    subst (λ (b : List ℕ). Refuses e (fault_of (commands_from file 0 (take at bytes) lines words b))) (sym here)
    (refused_at file (take at bytes) lines words (get_or bytes at 0) (drop (at + 1) bytes) e
    (subst (λ (b : List ℕ). Refuses e (fault_of (in_file file (take at bytes) b (piece_of (not (has_word words)) b)))) here
    (subst (λ (f : Bool). Refuses e (fault_of (in_file file (take at bytes) (drop at bytes) (piece_of f (drop at bytes))))) is h)))

-- ---- the end of the file

pub commands_end : (file : ℕ) (bytes : List ℕ) (at : ℕ) (lines : List (List Word)) (words : List Word) → length bytes ≤ at → commands_from file 0 (take at bytes) lines words (drop at bytes) ≡ Ok (lines ++ filter has_word (words ∷ []))
unfolding commands_from
commands_end file bytes at lines words past = ap (commands_from file 0 (take at bytes) lines words) (drop_all at bytes past)

-- ---- places

pub place_is : (file : ℕ) (bytes : List ℕ) (at line : ℕ) → at ≤ length bytes → line ≡ 1 + feeds (take at bytes) → ◌≡◌ {A = Place} (record { file = file; line = line; byte = at }) (place_after file (take at bytes))
place_is file bytes at line within counted =
    ap (λ (n : ℕ). record { file = file; line = n; byte = at }) counted ∙ ap (λ (n : ℕ). record { file = file; line = 1 + feeds (take at bytes); byte = n }) (sym (length-take-le at bytes within))

pub place_at_end : (file : ℕ) (bytes : List ℕ) (at line : ℕ) → at ≡ length bytes → line ≡ 1 + feeds (take at bytes) → ◌≡◌ {A = Place} (record { file = file; line = line; byte = at }) (place_after file bytes)
place_at_end file bytes at line end counted = place_is file bytes at line (omega arith) counted ∙ ap (place_after file) (take_all at bytes (omega arith))

pub lines_on : (bytes : List ℕ) (at len line more : ℕ) → line ≡ 1 + feeds (take at bytes) → more ≡ feeds (take (at + len - at) (drop at bytes)) → line + more ≡ 1 + feeds (take (at + len) bytes)
lines_on bytes at len line more counted is =
    let size : at + len - at ≡ len = omega arith in
    let split : feeds (take (at + len) bytes) ≡ feeds (take at bytes) + feeds (take len (drop at bytes)) = ap feeds (take-add at len bytes) ∙ feeds-append (take at bytes) (take len (drop at bytes)) in
    let sized : more ≡ feeds (take len (drop at bytes)) = is ∙ ap (λ (n : ℕ). feeds (take n (drop at bytes))) size in
    omega (arith, split, sized, counted)

-- ---- whole files

-- what the reader of commands told
abbrev pub Tells : ℕ → List ℕ → Result Script WordsFault → Type 0
Tells file bytes result = MatchResult result (λ script. (commands_of file bytes ≡ Ok script.commands) × (script.end ≡ place_after file bytes)) (λ e. Refuses e (fault_of (commands_of file bytes)))

script_is : (file : ℕ) (bytes : List ℕ) (script : Script) → script.end ≡ place_after file bytes → script_with file bytes script.commands ≡ script
script_is file bytes script e = ap (λ (p : Place). record { commands = script.commands; end = p }) (sym e)

pub tells_spelled : (file : ℕ) (bytes : List ℕ) (script : Script) → encoding_flaw bytes ≡ None → commands_of file bytes ≡ Ok script.commands → script.end ≡ place_after file bytes → Spells file bytes script
tells_spelled file bytes script right read end = subst (Spells file bytes) (script_is file bytes script end) (spells_from file bytes script.commands right read)

-- what is spelled is told
pub tells_only : (file : ℕ) (bytes : List ℕ) (told script : Script) → Spells file bytes script → commands_of file bytes ≡ Ok told.commands → told.end ≡ place_after file bytes → told ≡ script
tells_only file bytes told script s read end =
    let r = reads_as file bytes script s in
    sym (script_is file bytes told end) ∙ ap (script_with file bytes) (commands_same told.commands script.commands (sym read ∙ r.commands)) ∙ sym r.is

pub refused_only : (file : ℕ) (bytes : List ℕ) (script : Script) (e : WordsFault) → Spells file bytes script → Refuses e (fault_of (commands_of file bytes)) → e ≡ faults.NoMemory
refused_only file bytes script faults.NoMemory s h = refl
refused_only file bytes script (faults.Refused place rule) s h =
    let r = reads_as file bytes script s in
    let none : fault_of (commands_of file bytes) ≡ None = ap fault_of r.commands in
    absurd (let e : None ≡ Some (record { place = place; rule = rule }) = sym none ∙ h in cc)

-- a flaw of the encoding is the first fault, and nothing is spelled
pub encoding_refused : (file : ℕ) (bytes : List ℕ) (e : WordsFault) → IsRefusedFor file bytes (encoding_flaw bytes) e → Refuses e (first_word_fault file bytes)
encoding_refused file bytes e (broken, is, same) = subst (λ (f : WordsFault). Refuses f (first_word_fault file bytes)) (sym same) (ap (first_fault file bytes) is)

pub encoding_only : (file : ℕ) (bytes : List ℕ) (script : Script) (flaw : Option Flaw) (e : WordsFault) → Spells file bytes script → encoding_flaw bytes ≡ flaw → IsRefusedFor file bytes flaw e → ⊥
encoding_only file bytes script flaw e s is (broken, some, same) =
    let r = reads_as file bytes script s in
    let none : None ≡ Some broken = sym r.right ∙ is ∙ some in cc

-- a fault of reading is the first fault where the encoding is right
pub reading_refused : (file : ℕ) (bytes : List ℕ) (e : WordsFault) → encoding_flaw bytes ≡ None → Refuses e (fault_of (commands_of file bytes)) → Refuses e (first_word_fault file bytes)
reading_refused file bytes e right h = subst (Refuses e) (sym (ap (first_fault file bytes) right)) h

-- the rest of a file behind a piece
pub piece_utf8 : (bytes : List ℕ) (at : ℕ) (fresh : Bool) (piece : Found Piece) → at < length bytes → IsUtf8 (drop at bytes) → piece_of fresh (drop at bytes) ≡ Ok piece → IsUtf8 (drop (at + piece.len) bytes)
piece_utf8 bytes at fresh piece inside u e =
    let some : 0 < length (drop at bytes) = omega (arith, length-drop at bytes) in
    subst IsUtf8 (drop-drop piece.len at bytes) (utf8_behind_piece fresh (drop at bytes) piece some u e)
