-- A piece is read.
use Rattle.std.proofs.Common.{◌≡◌, ℕ, ◌+◌, Bool, true, false, ◌&&◌, ◌||◌, ◌==◌, cond, List, [], ◌∷◌, ◌++◌, length, take, drop, refl, sym, ap, ◌∙◌, inl, inr, arith, append_assoc}
use Rattle.std.specs.Prelude.{Result, Ok}
use Rattle.std.specs.List.{list_all}
use Rattle.std.proofs.lemmas.Bool.{eqb-true, or_cases, or_parts, and_parts, not-true}
use Rattle.std.proofs.lemmas.List.{length-append, take_at}
use Rattle.tcl_words.specs.declared.rule.Rule.TheVariants.{Backslash, AfterClose}
use Rattle.tcl_words.specs.declared.pieces.Piece.{Piece}
use Rattle.tcl_words.specs.declared.pieces.Piece.TheVariants.{Gap, End, Says}
use Rattle.tcl_words.specs.Bytes.{line_feed, semicolon, backslash, hash, quote, open_brace, close_brace, is_blank, is_separator, ends_word}
use Rattle.tcl_words.specs.Reading.{Flaw, Found, found, flaw, ◌>>=◌, join_tail, bare_len, braced, quoted, grouped, piece_of}
use Rattle.tcl_words.specs.Spelling.{IsJoin, IsComment, InBraces, InQuotes, IsPiece, is_bare, begins_bare}
use Rattle.tcl_words.proofs.Runs.{one-plus, join_reads}
use Rattle.tcl_words.proofs.BareWords.{bare_tests, bare-again}
use Rattle.tcl_words.proofs.Comments.{comment_reads}
use Rattle.tcl_words.proofs.Braces.{braced-again}
use Rattle.tcl_words.proofs.Quotes.{quoted-again}
use Rattle.tcl_words.proofs.PieceLemmas.{behind_group}

separator_again : (fresh : Bool) (byte : ℕ) (rest : List ℕ) → is_separator byte ≡ true → piece_of fresh (byte ∷ rest) ≡ found End 1
unfolding piece_of
separator_again fresh byte rest h =
    elim (or_cases (byte == line_feed) (byte == semicolon) h) [
      | inl feed ↦ ap (λ (b : ℕ). piece_of fresh (b ∷ rest)) (eqb-true byte line_feed feed)
      | inr semi ↦ ap (λ (b : ℕ). piece_of fresh (b ∷ rest)) (eqb-true byte semicolon semi)
    ]

cond_is : {X : Type 0} (b : Bool) (x y : X) → b ≡ true → cond b x y ≡ x
cond_is b x y e = rw e refl

blank_again : (fresh : Bool) (byte : ℕ) (rest : List ℕ) → is_blank byte ≡ true → piece_of fresh (byte ∷ rest) ≡ found Gap 1
unfolding piece_of
blank_again fresh byte rest h = cond_is (is_blank byte) _ _ h

join_again : (fresh : Bool) {join rest : List ℕ} → IsJoin join rest → piece_of fresh (join ++ rest) ≡ found Gap (length join)
unfolding piece_of
join_again fresh {join} {rest} is =
    let r = join_reads is in
    let whole : join ++ rest ≡ backslash ∷ (r.tail ++ rest) = ap (λ (j : List ℕ). j ++ rest) r.begins in
    let size : 1 + length r.tail ≡ length join = one-plus (length r.tail) ∙ sym (ap length r.begins) in
    ap (piece_of fresh) whole
    ∙ ap (λ (t : Bool). cond t (found Gap (1 + join_tail (r.tail ++ rest))) (flaw 0 Backslash)) r.is_end
    ∙ ap (λ (n : ℕ). found Gap (1 + n)) r.is_tail
    ∙ ap (found Gap) size

comment_again : (bytes rest : List ℕ) → IsComment (hash ∷ bytes) rest → piece_of true (hash ∷ (bytes ++ rest)) ≡ found Gap (length (hash ∷ bytes))
unfolding piece_of
comment_again bytes rest c = ap (λ (n : ℕ). found Gap (1 + n)) (comment_reads bytes rest c) ∙ ap (found Gap) (one-plus (length bytes))

bare_chain : {X : Type 0} (blank ends escapes comments opens quotes : Bool) (a b c d e f g : X) → blank ≡ false → ends ≡ false → escapes ≡ false → comments ≡ false → opens ≡ false → quotes ≡ false
    → cond blank a (cond ends b (cond escapes c (cond comments d (cond opens e (cond quotes f g))))) ≡ g
bare_chain blank ends escapes comments opens quotes a b c d e f g h0 h1 h2 h3 h4 h5 = rw (h0, h1, h2, h3, h4, h5) refl

-- a byte that a bare word may begin with begins one
pub bare_begins : (fresh : Bool) (byte : ℕ) (rest : List ℕ) → begins_bare fresh byte ≡ true → is_bare byte ≡ true
    → piece_of fresh (byte ∷ rest) ≡ (bare_len 0 (byte ∷ rest) >>= λ len. found (Says (take len (byte ∷ rest))) len)
unfolding piece_of
bare_begins fresh byte rest begins bare =
    let t = bare_tests byte bare in
    let a = or_parts (byte == open_brace) (byte == quote || (byte == hash && fresh)) (not-true _ begins) in
    let b = or_parts (byte == quote) (byte == hash && fresh) a.1 in
    bare_chain (is_blank byte) (is_separator byte) (byte == backslash) (byte == hash && fresh) (byte == open_brace) (byte == quote) _ _ _ _ _ _ _ t.blank t.separator t.backslash b.1 a.0 b.0

bare_again : (fresh : Bool) (byte : ℕ) (bytes rest : List ℕ) → begins_bare fresh byte ≡ true → list_all is_bare (byte ∷ bytes) ≡ true → ends_word rest ≡ true
    → piece_of fresh (byte ∷ (bytes ++ rest)) ≡ found (Says (byte ∷ bytes)) (length (byte ∷ bytes))
bare_again fresh byte bytes rest begins bare ends =
    let read : bare_len 0 (byte ∷ (bytes ++ rest)) ≡ Ok (0 + length (byte ∷ bytes)) = bare-again 0 (byte ∷ bytes) rest bare ends in
    let size : 0 + length (byte ∷ bytes) ≡ length (byte ∷ bytes) = omega arith in
    bare_begins fresh byte (bytes ++ rest) begins (and_parts (is_bare byte) (list_all is_bare bytes) bare).0
    ∙ ap (λ (r : Result ℕ Flaw). r >>= λ len. found (Says (take len (byte ∷ (bytes ++ rest)))) len) (read ∙ ap (λ (n : ℕ). Ok n) size)
    ∙ ap (λ (t : List ℕ). found (Says t) (length (byte ∷ bytes))) (take_at (byte ∷ bytes) rest (length (byte ∷ bytes)) refl)

grouped_again : (opener closer : ℕ) (bytes text rest : List ℕ) → ends_word rest ≡ true
    → grouped (opener ∷ ((bytes ++ closer ∷ []) ++ rest)) (record { value = text; len = length bytes + 2 }) ≡ found (Says text) (length (opener ∷ (bytes ++ closer ∷ [])))
grouped_again opener closer bytes text rest ends =
    let behind : drop (length bytes + 2) (opener ∷ ((bytes ++ closer ∷ []) ++ rest)) ≡ rest = behind_group opener closer ((bytes ++ closer ∷ []) ++ rest) bytes rest (length bytes + 2) (append_assoc bytes (closer ∷ []) rest) refl in
    let size : length bytes + 2 ≡ length (opener ∷ (bytes ++ closer ∷ [])) = omega (arith, length-append bytes (closer ∷ [])) in
    ap (λ (r : List ℕ). cond (ends_word r) (found (Says text) (length bytes + 2)) (flaw (length bytes + 2) AfterClose)) behind
    ∙ ap (λ (t : Bool). cond t (found (Says text) (length bytes + 2)) (flaw (length bytes + 2) AfterClose)) ends
    ∙ ap (found (Says text)) size

braces_again : (fresh : Bool) {bytes text : List ℕ} (rest : List ℕ) → InBraces bytes text → ends_word rest ≡ true
    → piece_of fresh (open_brace ∷ ((bytes ++ close_brace ∷ []) ++ rest)) ≡ found (Says text) (length (open_brace ∷ (bytes ++ close_brace ∷ [])))
unfolding piece_of
braces_again fresh {bytes} {text} rest inside ends =
    ap (λ (r : Result (Found (List ℕ)) Flaw). r >>= grouped (open_brace ∷ ((bytes ++ close_brace ∷ []) ++ rest))) (ap (braced 0 1 0 []) (append_assoc bytes (close_brace ∷ []) rest) ∙ braced-again inside rest)
    ∙ grouped_again open_brace close_brace bytes text rest ends

quotes_again : (fresh : Bool) {bytes text : List ℕ} (rest : List ℕ) → InQuotes bytes text → ends_word rest ≡ true
    → piece_of fresh (quote ∷ ((bytes ++ quote ∷ []) ++ rest)) ≡ found (Says text) (length (quote ∷ (bytes ++ quote ∷ [])))
unfolding piece_of
quotes_again fresh {bytes} {text} rest inside ends =
    ap (λ (r : Result (Found (List ℕ)) Flaw). r >>= grouped (quote ∷ ((bytes ++ quote ∷ []) ++ rest))) (ap (quoted 0 1 []) (append_assoc bytes (quote ∷ []) rest) ∙ quoted-again inside rest)
    ∙ grouped_again quote quote bytes text rest ends

pub piece-again : {fresh : Bool} {piece : Piece} {text rest : List ℕ} → IsPiece fresh piece text rest → piece_of fresh (text ++ rest) ≡ found piece (length text)
piece-again (IsPiece.blank {fresh} {rest} byte h) = blank_again fresh byte rest h
piece-again (IsPiece.join {fresh} is) = join_again fresh is
piece-again (IsPiece.end {fresh} {rest} byte h) = separator_again fresh byte rest h
piece-again (IsPiece.comment {bytes} {rest} c) = comment_again bytes rest c
piece-again (IsPiece.bare {fresh} {byte} {bytes} {rest} begins bare ends) = bare_again fresh byte bytes rest begins bare ends
piece-again (IsPiece.braced {fresh} {bytes} {text} {rest} inside ends) = braces_again fresh rest inside ends
piece-again (IsPiece.quoted {fresh} {bytes} {text} {rest} inside ends) = quotes_again fresh rest inside ends

-- the first byte of a piece
pub record Begins (text : List ℕ) : Type 0 where
  pub byte : ℕ
  pub others : List ℕ
  pub is : text ≡ byte ∷ others

pub piece_begins : {fresh : Bool} {piece : Piece} {text rest : List ℕ} → IsPiece fresh piece text rest → Begins text
piece_begins (IsPiece.blank byte h) = record { byte = byte; others = []; is = refl }
piece_begins (IsPiece.join is) = record { byte = backslash; others = is.end ++ is.blanks; is = is.parts }
piece_begins (IsPiece.end byte h) = record { byte = byte; others = []; is = refl }
piece_begins (IsPiece.comment {bytes} c) = record { byte = hash; others = bytes; is = refl }
piece_begins (IsPiece.bare {fresh} {byte} {bytes} begins bare ends) = record { byte = byte; others = bytes; is = refl }
piece_begins (IsPiece.braced {fresh} {bytes} inside ends) = record { byte = open_brace; others = bytes ++ close_brace ∷ []; is = refl }
piece_begins (IsPiece.quoted {fresh} {bytes} inside ends) = record { byte = quote; others = bytes ++ quote ∷ []; is = refl }
