use Rattle.std.proofs.Common.{◌≡◌, ℕ, ◌+◌, false, drop, get_or, sym, ap, subst, ◌∙◌}
use Rattle.std.proofs.lemmas.List.{take_rest}
use Rattle.tcl_words.specs.declared.pieces.Piece.TheVariants.{Gap}
use Rattle.tcl_words.specs.Reading.{Finds, view, found, comment_len, join_of, word_of, piece_of}
use Rattle.tcl_words.proofs.Steps.{some_first, piece_blank, piece_end, piece_join, piece_comment, piece_word}
use Rattle.tcl_words.proofs.pieces.piece_of.Goals as goal

pub returns-then-is_blank-clause-found : goal.returns-then-is_blank-clause-found
returns-then-is_blank-clause-found c =
    let bytes = c.args.bytes.now in
    ap (piece_of c.args.fresh) (some_first bytes c.requires.some) ∙ piece_blank c.args.fresh (get_or bytes 0 0) (drop 1 bytes) (sym c.is_blank.ensures ∙ c.if-is_blank.true)

pub returns-then-is_separator-clause-found : goal.returns-then-is_separator-clause-found
returns-then-is_separator-clause-found c =
    let bytes = c.args.bytes.now in
    ap (piece_of c.args.fresh) (some_first bytes c.requires.some)
    ∙ piece_end c.args.fresh (get_or bytes 0 0) (drop 1 bytes) (sym c.is_blank.ensures ∙ c.if-is_blank.false) (sym c.is_separator.ensures ∙ c.if-is_separator.true)

pub returns-then-byte-eq92-clause-found : goal.returns-then-byte-eq92-clause-found
returns-then-byte-eq92-clause-found c =
    let bytes = c.args.bytes.now in
    let is : piece_of c.args.fresh bytes ≡ join_of (drop 1 bytes) = ap (piece_of c.args.fresh) (some_first bytes c.requires.some)
    ∙ piece_join c.args.fresh (get_or bytes 0 0) (drop 1 bytes) (sym c.is_blank.ensures ∙ c.if-is_blank.false) (sym c.is_separator.ensures ∙ c.if-is_separator.false) c.if-byte-eq92.true in
    subst (λ r. Finds view c.join_of.result r) (sym is) c.join_of.ensures.found

pub returns-then-begins_comment-clause-found : goal.returns-then-begins_comment-clause-found
returns-then-begins_comment-clause-found c =
    let bytes = c.args.bytes.now in
    let len : comment_len false (drop 1 bytes) ≡ c.comment_len.result = sym (c.comment_len.ensures.length ∙ ap (comment_len false) (take_rest bytes 1)) in
    ap (piece_of c.args.fresh) (some_first bytes c.requires.some)
    ∙ piece_comment c.args.fresh (get_or bytes 0 0) (drop 1 bytes) (sym c.is_blank.ensures ∙ c.if-is_blank.false) (sym c.is_separator.ensures ∙ c.if-is_separator.false) c.if-byte-eq92.false (sym c.begins_comment.ensures ∙ c.if-begins_comment.true)
    ∙ ap (λ (n : ℕ). found Gap (1 + n)) len

pub returns-clause-found : goal.returns-clause-found
returns-clause-found c =
    let bytes = c.args.bytes.now in
    let is : piece_of c.args.fresh bytes ≡ word_of (get_or bytes 0 0) (drop 1 bytes) = ap (piece_of c.args.fresh) (some_first bytes c.requires.some)
    ∙ piece_word c.args.fresh (get_or bytes 0 0) (drop 1 bytes) (sym c.is_blank.ensures ∙ c.if-is_blank.false) (sym c.is_separator.ensures ∙ c.if-is_separator.false) c.if-byte-eq92.false (sym c.begins_comment.ensures ∙ c.if-begins_comment.false) in
    subst (λ r. Finds view c.word_of.result r) (sym is) c.word_of.ensures.found
