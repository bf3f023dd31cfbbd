use Rattle.std.proofs.Common.{◌≡◌, ℕ, ◌∷◌, drop, ap, subst, ◌∙◌}
use Rattle.std.specs.Prelude.{IsUtf8}
use Rattle.tcl_words.specs.Bytes.{open_brace, quote}
use Rattle.tcl_words.proofs.Steps.{first_is}
use Rattle.tcl_words.proofs.Encoding.{braced_text, quoted_text, bare_text}
use Rattle.tcl_words.proofs.pieces.word_of.Goals as goal

pub grouped-requires-clause-utf8 : goal.grouped-requires-clause-utf8
grouped-requires-clause-utf8 c =
    let bytes = c.args.bytes.now in
    let group = c.in_ok-group.group in
    let whole : bytes ≡ open_brace ∷ drop 1 bytes = first_is bytes c.requires.goes_on ∙ ap (λ (b : ℕ). b ∷ drop 1 bytes) c.if-byte-eq123.true in
    braced_text (drop 1 bytes) (record { value = group.text; len = group.len }) (subst IsUtf8 whole c.requires.utf8) c.in_ok-group.ensures.found

pub grouped-requires-then-byte-eq34-clause-utf8 : goal.grouped-requires-then-byte-eq34-clause-utf8
grouped-requires-then-byte-eq34-clause-utf8 c =
    let bytes = c.args.bytes.now in
    let group = c.in_ok-group-2.group in
    let whole : bytes ≡ quote ∷ drop 1 bytes = first_is bytes c.requires.goes_on ∙ ap (λ (b : ℕ). b ∷ drop 1 bytes) c.if-byte-eq34.true in
    quoted_text (drop 1 bytes) (record { value = group.text; len = group.len }) (subst IsUtf8 whole c.requires.utf8) c.in_ok-group-2.ensures.found

pub text_of-requires : goal.text_of-requires
text_of-requires c = bare_text c.args.bytes.now c.in_ok-len.len c.requires.utf8 c.in_ok-len.ensures.ends
