-- Words of UTF-8 bytes are UTF-8, since they are cut at ASCII bytes.
use Rattle.std.proofs.Common.{◌≡◌, ℕ, zero, suc, ◌<◌, Bool, true, false, ◌&&◌, ◌||◌, ◌==◌, cond, List, [], ◌∷◌, ◌++◌, length, take, drop, get_or, refl, sym, ap, subst, ◌∙◌, inl, inr, ◌⊎◌, ⊎_elim, arith, append_assoc}
use Rattle.std.specs.Prelude.{IsUtf8, Ok}
use Rattle.std.specs.List.{list_all}
use Rattle.std.specs.Str.{IsCharBoundary}
use Rattle.std.proofs.lemmas.Bool.{and_parts, eqb-true}
use Rattle.std.proofs.lemmas.Bool.Decides.{nat_tests}
use Rattle.std.proofs.lemmas.List.{length-append, append-nil, take_at, drop_at, get_or_at, take-append-drop}
use Rattle.std.proofs.lemmas.Str.{IsUtf8-nil, IsUtf8-append, IsUtf8-take, IsUtf8-drop, IsUtf8-past_char, IsUtf8-from_ascii, IsCharBoundary-before_ascii, encode_ascii}
use Rattle.tcl_words.specs.declared.pieces.Piece.{Piece}
use Rattle.tcl_words.specs.Bytes.{line_feed, carriage_return, space, backslash, hash, quote, open_brace, close_brace, is_space_or_tab, is_blank, is_separator, begins_with_line_feed, begins_with_line_end, ends_word, kept}
use Rattle.tcl_words.specs.Reading.{Found, braced, quoted, piece_of}
use Rattle.tcl_words.specs.Spelling.{IsJoin, IsLineEnd, InBraces, InQuotes, IsPiece}
use Rattle.tcl_words.proofs.PieceLemmas.{IsFound, piece-takes}
use Rattle.tcl_words.proofs.Levels.{braced-takes}
use Rattle.tcl_words.proofs.Quotes.{quoted-takes}

-- ---- where a text may be cut

boundary : (xs : List ℕ) (byte : ℕ) (ys : List ℕ) → byte < 128 → IsCharBoundary (xs ++ byte ∷ ys) (length xs)
boundary xs byte ys ascii = IsCharBoundary-before_ascii (xs ++ byte ∷ ys) (length xs) (omega (arith, length-append xs (byte ∷ ys))) (omega (arith, get_or_at xs byte ys 0 (length xs) refl))

-- before an ASCII byte
pub utf8_before : (xs : List ℕ) (byte : ℕ) (ys : List ℕ) → byte < 128 → IsUtf8 (xs ++ byte ∷ ys) → IsUtf8 xs
utf8_before xs byte ys ascii u = subst IsUtf8 (take_at xs (byte ∷ ys) (length xs) refl) (IsUtf8-take (xs ++ byte ∷ ys) (length xs) u (boundary xs byte ys ascii))

pub utf8_from : (xs : List ℕ) (byte : ℕ) (ys : List ℕ) → byte < 128 → IsUtf8 (xs ++ byte ∷ ys) → IsUtf8 (byte ∷ ys)
utf8_from xs byte ys ascii u = subst IsUtf8 (drop_at xs (byte ∷ ys) (length xs) refl) (IsUtf8-drop (xs ++ byte ∷ ys) (length xs) u (boundary xs byte ys ascii))

-- and behind it
pub utf8_behind : (byte : ℕ) (ys : List ℕ) → byte < 128 → IsUtf8 (byte ∷ ys) → IsUtf8 ys
utf8_behind byte ys ascii u = IsUtf8-past_char (byte ∷ ys) ys byte u (ap (λ (b : List ℕ). b ++ ys) (sym (encode_ascii byte ascii)))

one_ascii : (byte : ℕ) → byte < 128 → (i : ℕ) → get_or (byte ∷ []) i 0 < 128
one_ascii byte ascii zero = ascii
one_ascii byte ascii (suc i) = omega arith

pub utf8_one : (byte : ℕ) → byte < 128 → IsUtf8 (byte ∷ [])
utf8_one byte ascii = IsUtf8-from_ascii (byte ∷ []) (one_ascii byte ascii)

-- ---- bytes that are ASCII

space_is_ascii : (byte : ℕ) → is_space_or_tab byte ≡ true → byte < 128
space_is_ascii byte h = grind (arith, nat_tests)

blank_is_ascii : (byte : ℕ) → is_blank byte ≡ true → byte < 128
blank_is_ascii byte h = grind (arith, nat_tests)

separator_is_ascii : (byte : ℕ) → is_separator byte ≡ true → byte < 128
separator_is_ascii byte h = grind (arith, nat_tests)

end_is_ascii : (byte : ℕ) (t : Bool) → (is_blank byte || (is_separator byte || (byte == backslash && t))) ≡ true → byte < 128
end_is_ascii byte t h = grind (arith, nat_tests)

behind_blanks : (blanks rest : List ℕ) → list_all is_space_or_tab blanks ≡ true → IsUtf8 (blanks ++ rest) → IsUtf8 rest
behind_blanks [] rest h u = u
behind_blanks (byte ∷ blanks) rest h u =
    let parts = and_parts (is_space_or_tab byte) (list_all is_space_or_tab blanks) h in
    behind_blanks blanks rest parts.1 (utf8_behind byte (blanks ++ rest) (space_is_ascii byte parts.0) u)

behind_end : (end rest : List ℕ) → IsLineEnd end → IsUtf8 (end ++ rest) → IsUtf8 rest
behind_end end rest (inl e) u = utf8_behind line_feed rest (omega arith) (subst (λ (b : List ℕ). IsUtf8 (b ++ rest)) e u)
behind_end end rest (inr e) u = utf8_behind line_feed rest (omega arith) (utf8_behind carriage_return (line_feed ∷ rest) (omega arith) (subst (λ (b : List ℕ). IsUtf8 (b ++ rest)) e u))

pub behind_join : {join rest : List ℕ} → IsJoin join rest → IsUtf8 (join ++ rest) → IsUtf8 rest
behind_join {join} {rest} is u =
    let whole : join ++ rest ≡ backslash ∷ (is.end ++ (is.blanks ++ rest)) = ap (λ (j : List ℕ). j ++ rest) is.parts ∙ ap (λ (b : List ℕ). backslash ∷ b) (append_assoc is.end is.blanks rest) in
    behind_blanks is.blanks rest is.are_blank (behind_end is.end (is.blanks ++ rest) is.is_end (utf8_behind backslash (is.end ++ (is.blanks ++ rest)) (omega arith) (subst IsUtf8 whole u)))

-- before a join, and behind it
around_join : (before : List ℕ) {join rest : List ℕ} → IsJoin join rest → IsUtf8 (before ++ (join ++ rest)) → IsUtf8 before × IsUtf8 rest
around_join before {join} {rest} is u =
    let whole : before ++ (join ++ rest) ≡ before ++ backslash ∷ ((is.end ++ is.blanks) ++ rest) = ap (λ (j : List ℕ). before ++ (j ++ rest)) is.parts in
    let cut : IsUtf8 (before ++ backslash ∷ ((is.end ++ is.blanks) ++ rest)) = subst IsUtf8 whole u in
    let from : IsUtf8 (backslash ∷ ((is.end ++ is.blanks) ++ rest)) = utf8_from before backslash ((is.end ++ is.blanks) ++ rest) (omega arith) cut in
    (utf8_before before backslash ((is.end ++ is.blanks) ++ rest) (omega arith) cut, behind_join is (subst (λ (j : List ℕ). IsUtf8 (j ++ rest)) (sym is.parts) from))

-- ---- the text of a word

-- what may stand behind more bytes, with `bytes` replaced by `text`
abbrev Keeps : List ℕ → List ℕ → Type 0
Keeps bytes text = (before : List ℕ) → IsUtf8 (before ++ bytes) → IsUtf8 (before ++ text)

keeps_byte : (byte : ℕ) {bytes text : List ℕ} → Keeps bytes text → Keeps (byte ∷ bytes) (byte ∷ text)
keeps_byte byte {bytes} {text} keeps before u =
    subst IsUtf8 (append_assoc before (byte ∷ []) text) (keeps (before ++ byte ∷ []) (subst IsUtf8 (sym (append_assoc before (byte ∷ []) bytes)) u))

keeps_return : {bytes text : List ℕ} → Keeps bytes text → Keeps (carriage_return ∷ bytes) text
keeps_return {bytes} {text} keeps before u =
    let from = utf8_from before carriage_return bytes (omega arith) u in
    IsUtf8-append before text (utf8_before before carriage_return bytes (omega arith) u) (keeps [] (utf8_behind carriage_return bytes (omega arith) from))

keeps_kept_at : (byte : ℕ) {bytes text : List ℕ} (t : Bool) → (t ≡ true → byte ≡ carriage_return) → Keeps bytes text → Keeps (byte ∷ bytes) (cond t [] (byte ∷ []) ++ text)
keeps_kept_at byte {bytes} {text} true is keeps = subst (λ (b : ℕ). Keeps (b ∷ bytes) text) (sym (is refl)) (keeps_return keeps)
keeps_kept_at byte false is keeps = keeps_byte byte keeps

return_is : (byte : ℕ) (t : Bool) → (byte == carriage_return && t) ≡ true → byte ≡ carriage_return
return_is byte t h = eqb-true byte carriage_return (and_parts (byte == carriage_return) t h).0

keeps_kept : (byte : ℕ) {bytes text : List ℕ} → Keeps bytes text → Keeps (byte ∷ bytes) (kept byte bytes ++ text)
keeps_kept byte {bytes} keeps = keeps_kept_at byte (byte == carriage_return && begins_with_line_feed bytes) (return_is byte (begins_with_line_feed bytes)) keeps

keeps_join : {join bytes text : List ℕ} → IsJoin join bytes → Keeps bytes text → Keeps (join ++ bytes) (space ∷ text)
keeps_join {join} {bytes} {text} is keeps before u =
    let parts = around_join before is u in
    IsUtf8-append before (space ∷ text) parts.0 (IsUtf8-append (space ∷ []) text (utf8_one space (omega arith)) (keeps [] parts.1))

-- two texts that an ASCII byte keeps apart
keeps_both : {xs ys bytes text : List ℕ} (byte : ℕ) → byte < 128 → Keeps xs ys → Keeps bytes text → Keeps (xs ++ byte ∷ bytes) (ys ++ byte ∷ text)
keeps_both {xs} {ys} {bytes} {text} byte ascii first second before u =
    let whole : IsUtf8 ((before ++ xs) ++ byte ∷ bytes) = subst IsUtf8 (sym (append_assoc before xs (byte ∷ bytes))) u in
    let left : IsUtf8 (before ++ ys) = first before (utf8_before (before ++ xs) byte bytes ascii whole) in
    let right : IsUtf8 (byte ∷ text) = keeps_byte byte second [] (utf8_from (before ++ xs) byte bytes ascii whole) in
    subst IsUtf8 (append_assoc before ys (byte ∷ text)) (IsUtf8-append (before ++ ys) (byte ∷ text) left right)

pub braces_keep : {bytes text : List ℕ} → InBraces bytes text → Keeps bytes text
braces_keep InBraces.nothing = λ before u. u
braces_keep (InBraces.plain byte h inside) = keeps_kept byte (braces_keep inside)
braces_keep (InBraces.group in_group inside) = keeps_byte open_brace (keeps_both close_brace (omega arith) (braces_keep in_group) (braces_keep inside))
braces_keep (InBraces.pair byte h inside) = keeps_byte backslash (keeps_byte byte (braces_keep inside))
braces_keep (InBraces.joined join is inside) = keeps_join is (braces_keep inside)

pub quotes_keep : {bytes text : List ℕ} → InQuotes bytes text → Keeps bytes text
quotes_keep InQuotes.nothing = λ before u. u
quotes_keep (InQuotes.plain byte h inside) = keeps_kept byte (quotes_keep inside)
quotes_keep (InQuotes.joined join is inside) = keeps_join is (quotes_keep inside)

-- the bytes of a group
inner_utf8 : (opener closer : ℕ) (bytes inner after : List ℕ) → opener < 128 → closer < 128 → bytes ≡ inner ++ closer ∷ after → IsUtf8 (opener ∷ bytes) → IsUtf8 inner
inner_utf8 opener closer bytes inner after open_ascii close_ascii parts u = utf8_before inner closer after close_ascii (subst IsUtf8 parts (utf8_behind opener bytes open_ascii u))

pub braced_text : (bytes : List ℕ) (group : Found (List ℕ)) → IsUtf8 (open_brace ∷ bytes) → braced 0 1 0 [] bytes ≡ Ok group → IsUtf8 group.value
braced_text bytes group u e =
    let g = braced-takes bytes group e in
    braces_keep g.inside [] (inner_utf8 open_brace close_brace bytes g.inner g.after (omega arith) (omega arith) g.parts u)

pub quoted_text : (bytes : List ℕ) (group : Found (List ℕ)) → IsUtf8 (quote ∷ bytes) → quoted 0 1 [] bytes ≡ Ok group → IsUtf8 group.value
quoted_text bytes group u e =
    let g = quoted-takes bytes group e in
    quotes_keep g.inside [] (inner_utf8 quote quote bytes g.inner g.after (omega arith) (omega arith) g.parts u)

-- ---- what follows a word, and a piece

before_end : (word rest : List ℕ) → ends_word rest ≡ true → IsUtf8 (word ++ rest) → IsUtf8 word
before_end word [] h u = subst IsUtf8 (append-nil word) u
before_end word (byte ∷ rest) h u = utf8_before word byte rest (end_is_ascii byte (begins_with_line_end rest) h) u

pub bare_text : (bytes : List ℕ) (len : ℕ) → IsUtf8 bytes → ends_word (drop len bytes) ≡ true → IsUtf8 (take len bytes)
bare_text bytes len u h = before_end (take len bytes) (drop len bytes) h (subst IsUtf8 (sym (take-append-drop len bytes)) u)

from_end : (word rest : List ℕ) → ends_word rest ≡ true → IsUtf8 (word ++ rest) → IsUtf8 rest
from_end word [] h u = IsUtf8-nil
from_end word (byte ∷ rest) h u = utf8_from word byte rest (end_is_ascii byte (begins_with_line_end rest) h) u

behind_comment : (comment rest : List ℕ) → ((rest ≡ []) ⊎ ((after : List ℕ) × (rest ≡ line_feed ∷ after))) → IsUtf8 (comment ++ rest) → IsUtf8 rest
behind_comment comment rest (inl e) u = subst IsUtf8 (sym e) IsUtf8-nil
behind_comment comment rest (inr (after, e)) u = subst IsUtf8 (sym e) (utf8_from comment line_feed after (omega arith) (subst (λ (r : List ℕ). IsUtf8 (comment ++ r)) e u))

behind_piece : {fresh : Bool} {piece : Piece} {text rest : List ℕ} → IsPiece fresh piece text rest → IsUtf8 (text ++ rest) → IsUtf8 rest
behind_piece (IsPiece.blank {fresh} {rest} byte h) u = utf8_behind byte rest (blank_is_ascii byte h) u
behind_piece (IsPiece.join is) u = behind_join is u
behind_piece (IsPiece.end {fresh} {rest} byte h) u = utf8_behind byte rest (separator_is_ascii byte h) u
behind_piece (IsPiece.comment {bytes} {rest} c) u = behind_comment (hash ∷ bytes) rest (⊎_elim (λ e. inl e) (λ e. inr (e.0, e.1)) c.ends) u
behind_piece (IsPiece.bare {fresh} {byte} {bytes} {rest} begins bare ends) u = from_end (byte ∷ bytes) rest ends u
behind_piece (IsPiece.braced {fresh} {bytes} {text} {rest} inside ends) u = from_end (open_brace ∷ (bytes ++ close_brace ∷ [])) rest ends u
behind_piece (IsPiece.quoted {fresh} {bytes} {text} {rest} inside ends) u = from_end (quote ∷ (bytes ++ quote ∷ [])) rest ends u

behind_found : (fresh : Bool) (bytes : List ℕ) (piece : Found Piece) → IsFound fresh bytes piece → IsUtf8 bytes → IsUtf8 (drop piece.len bytes)
behind_found fresh bytes piece f u =
    let left : drop piece.len bytes ≡ f.rest = ap (drop piece.len) f.parts ∙ drop_at f.text f.rest piece.len (sym f.len) in
    subst IsUtf8 (sym left) (behind_piece f.is (subst IsUtf8 f.parts u))

pub utf8_behind_piece : (fresh : Bool) (bytes : List ℕ) (piece : Found Piece) → 0 < length bytes → IsUtf8 bytes → piece_of fresh bytes ≡ Ok piece → IsUtf8 (drop piece.len bytes)
utf8_behind_piece fresh [] piece some u e = absurd (omega arith)
utf8_behind_piece fresh (byte ∷ rest) piece some u e = behind_found fresh (byte ∷ rest) piece (piece-takes fresh byte rest piece e) u
