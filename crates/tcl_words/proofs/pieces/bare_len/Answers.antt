use Rattle.std.proofs.Common.{◌≡◌, ℕ, ◌+◌, ◌<◌, List, length, drop, get_or, false, sym, ap, ◌∙◌, inl, inr, arith}
use Rattle.std.proofs.lemmas.Bool.{cases_lt, true≢false}
use Rattle.std.proofs.lemmas.List.{take_rest, drop_all}
use Rattle.tcl_words.specs.Bytes.{ends_word}
use Rattle.tcl_words.specs.Reading.{bare_len}
use Rattle.tcl_words.proofs.Steps.{here, bare_refused, bare_alone, bare_on}
use Rattle.tcl_words.proofs.BareWords.{ends_at}
use Rattle.tcl_words.proofs.pieces.bare_len.Goals as goal

-- a word that goes on has a byte
has_byte : (bytes : List ℕ) (at : ℕ) → ends_word (drop at bytes) ≡ false → at < length bytes
has_byte bytes at goes =
    elim (cases_lt at (length bytes)) [
      | inl inside ↦ inside
      | inr past ↦ absurd (true≢false (sym (ap ends_word (drop_all at bytes past)) ∙ goes))
    ]

pub returns-then-substitutes-clause-found : goal.returns-then-substitutes-clause-found
returns-then-substitutes-clause-found c =
    let bytes = c.args.bytes.now in
    let at = c.bare.at in
    let goes : ends_word (drop at bytes) ≡ false = ap ends_word (sym (take_rest bytes at)) ∙ sym c.ends_word.ensures ∙ c.bare-test.true in
    let h = here bytes at (has_byte bytes at goes) in
    rw c.flaw.ensures (sym c.bare.invariant.1 ∙ ap (bare_len at) h ∙ bare_refused at (get_or bytes at 0) (drop (at + 1) bytes) (ap ends_word (sym h) ∙ goes) (sym c.substitutes.ensures ∙ c.if-substitutes.true))

pub returns-then-byte-eq92-clause-found : goal.returns-then-byte-eq92-clause-found
returns-then-byte-eq92-clause-found c =
    let bytes = c.args.bytes.now in
    let at = c.bare.at in
    let goes : ends_word (drop at bytes) ≡ false = ap ends_word (sym (take_rest bytes at)) ∙ sym c.ends_word.ensures ∙ c.bare-test.true in
    let h = here bytes at (has_byte bytes at goes) in
    rw c.flaw-then-byte-eq92.ensures (sym c.bare.invariant.1 ∙ ap (bare_len at) h ∙ bare_alone at (get_or bytes at 0) (drop (at + 1) bytes) (ap ends_word (sym h) ∙ goes) (sym c.substitutes.ensures ∙ c.if-substitutes.false) c.if-byte-eq92.true)

pub bare-preserved : goal.bare-preserved
bare-preserved c =
    let bytes = c.args.bytes.now in
    let at = c.bare.at in
    let goes : ends_word (drop at bytes) ≡ false = ap ends_word (sym (take_rest bytes at)) ∙ sym c.ends_word.ensures ∙ c.bare-test.true in
    let inside = has_byte bytes at goes in
    let h = here bytes at inside in
    (omega arith, sym (bare_on at (get_or bytes at 0) (drop (at + 1) bytes) (ap ends_word (sym h) ∙ goes) (sym c.substitutes.ensures ∙ c.if-substitutes.false) c.if-byte-eq92.false) ∙ ap (bare_len at) (sym h) ∙ c.bare.invariant.1)

pub returns-clause-found : goal.returns-clause-found
returns-clause-found c =
    let bytes = c.args.bytes.now in
    let at = c.bare.at in
    sym c.bare.invariant.1 ∙ ends_at at (drop at bytes) (ap ends_word (sym (take_rest bytes at)) ∙ sym c.ends_word.ensures ∙ c.bare-test.false)
