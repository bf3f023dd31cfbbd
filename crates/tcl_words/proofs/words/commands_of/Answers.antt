use Rattle.std.proofs.Common.{◌≡◌, ℕ, ◌+◌, List, [], ◌∷◌, ◌++◌, take, drop, sym, ap, subst, ◌∙◌, arith}
use Rattle.std.specs.Prelude.{Ok, filter}
use Rattle.std.proofs.lemmas.Result.{err_from_is_err_and}
use Rattle.av_base.specs.declared.faults.Place.{Place}
use Rattle.tcl_words.specs.declared.words.Word.{Word}
use Rattle.tcl_words.specs.declared.pieces.Piece.{Piece}
use Rattle.tcl_words.specs.Script.{has_word, placed, place_after}
use Rattle.tcl_words.specs.Reading.{Refuses, view, fault_of, lines_after, words_after, commands_of, commands_from}
use Rattle.tcl_words.proofs.Reader.{fresh_is, piece_on, piece_utf8, refused_on, commands_end, place_is, place_at_end, lines_on}
use Rattle.tcl_words.proofs.words.commands_of.Goals as goal

pub returns-in_err-found : goal.returns-in_err-found
returns-in_err-found c =
    let bytes = c.args.bytes.now in
    let e = c.in_err-found.field-0.0 in
    let fresh = fresh_is c.is_empty.result c.pieces.words c.is_empty.ensures in
    let refused = refused_on c.args.file bytes c.pieces.at c.pieces.lines c.pieces.words c.is_empty.result e c.pieces-test.true fresh c.in_err-found.ensures.found in
    let p = err_from_is_err_and c.from_residual.result c.from_residual.ensures.1 in
    rw (p.1, p.2) (subst (λ r. Refuses e (fault_of r)) c.pieces.invariant.reads refused)

pub pieces-preserved-in-Gap : goal.pieces-preserved-in-Gap
pieces-preserved-in-Gap c =
    let bytes = c.args.bytes.now in
    let at = c.pieces.at in
    let piece = c.in_ok-found.found in
    let end : ℕ = at + piece.len in
    let place = place_after c.args.file (take at bytes) in
    let fresh = fresh_is c.is_empty.result c.pieces.words c.is_empty.ensures in
    let on = piece_on c.args.file bytes at c.pieces.lines c.pieces.words c.is_empty.result (view piece) c.pieces-test.true fresh c.in_ok-found.ensures.found c.in_ok-found.ensures.within.0 in
    record {
      within = c.in_ok-found.ensures.within.1;
      counted = lines_on bytes at piece.len c.pieces.line c.line_feeds-line.result c.pieces.invariant.counted c.line_feeds-line.ensures;
      utf8 = piece_utf8 bytes at c.is_empty.result (view piece) c.pieces-test.true c.pieces.invariant.utf8 c.in_ok-found.ensures.found;
      reads = subst (λ (p : Piece). commands_from c.args.file 0 (take end bytes) (lines_after p c.pieces.lines c.pieces.words) (words_after p place c.pieces.words) (drop end bytes) ≡ commands_of c.args.file bytes)
          c.in-Gap.is (sym on ∙ c.pieces.invariant.reads);
    }

pub pieces-preserved-in-End : goal.pieces-preserved-in-End
pieces-preserved-in-End c =
    let bytes = c.args.bytes.now in
    let at = c.pieces.at in
    let piece = c.in_ok-found.found in
    let end : ℕ = at + piece.len in
    let place = place_after c.args.file (take at bytes) in
    let fresh = fresh_is c.is_empty.result c.pieces.words c.is_empty.ensures in
    let on = piece_on c.args.file bytes at c.pieces.lines c.pieces.words c.is_empty.result (view piece) c.pieces-test.true fresh c.in_ok-found.ensures.found c.in_ok-found.ensures.within.0 in
    record {
      within = c.in_ok-found.ensures.within.1;
      counted = lines_on bytes at piece.len c.pieces.line c.line_feeds-line.result c.pieces.invariant.counted c.line_feeds-line.ensures;
      utf8 = piece_utf8 bytes at c.is_empty.result (view piece) c.pieces-test.true c.pieces.invariant.utf8 c.in_ok-found.ensures.found;
      reads = ap (λ (ls : List (List Word)). commands_from c.args.file 0 (take end bytes) ls c.new-words-in-End.result (drop end bytes)) c.in_ok-push_line-in-End.ensures.ok
          ∙ ap (λ (ws : List Word). commands_from c.args.file 0 (take end bytes) (c.pieces.lines ++ filter has_word (c.pieces.words ∷ [])) ws (drop end bytes)) c.new-words-in-End.ensures
          ∙ subst (λ (p : Piece). commands_from c.args.file 0 (take end bytes) (lines_after p c.pieces.lines c.pieces.words) (words_after p place c.pieces.words) (drop end bytes) ≡ commands_of c.args.file bytes)
          c.in-End.is (sym on ∙ c.pieces.invariant.reads);
    }

pub pieces-preserved : goal.pieces-preserved
pieces-preserved c =
    let bytes = c.args.bytes.now in
    let at = c.pieces.at in
    let piece = c.in_ok-found.found in
    let end : ℕ = at + piece.len in
    let place = place_after c.args.file (take at bytes) in
    let fresh = fresh_is c.is_empty.result c.pieces.words c.is_empty.ensures in
    let on = piece_on c.args.file bytes at c.pieces.lines c.pieces.words c.is_empty.result (view piece) c.pieces-test.true fresh c.in_ok-found.ensures.found c.in_ok-found.ensures.within.0 in
    let here = place_is c.args.file bytes at c.pieces.line c.pieces.invariant.within c.pieces.invariant.counted in
    record {
      within = c.in_ok-found.ensures.within.1;
      counted = lines_on bytes at piece.len c.pieces.line c.line_feeds-line.result c.pieces.invariant.counted c.line_feeds-line.ensures;
      utf8 = piece_utf8 bytes at c.is_empty.result (view piece) c.pieces-test.true c.pieces.invariant.utf8 c.in_ok-found.ensures.found;
      reads = ap (λ (ws : List Word). commands_from c.args.file 0 (take end bytes) c.pieces.lines ws (drop end bytes))
          (c.in_ok-push-in-Says.ensures.ok ∙ ap (λ (t : List ℕ). c.pieces.words ++ placed t (record { file = c.args.file; line = c.pieces.line; byte = at }) ∷ []) c.in-Says.text-is)
          ∙ ap (λ (p : Place). commands_from c.args.file 0 (take end bytes) c.pieces.lines (c.pieces.words ++ placed c.in-Says.text p ∷ []) (drop end bytes)) here
          ∙ subst (λ (p : Piece). commands_from c.args.file 0 (take end bytes) (lines_after p c.pieces.lines c.pieces.words) (words_after p place c.pieces.words) (drop end bytes) ≡ commands_of c.args.file bytes)
          c.in-Says.is (sym on ∙ c.pieces.invariant.reads);
    }

pub returns : goal.returns
returns c =
    let bytes = c.args.bytes.now in
    let at = c.pieces.at in
    let read = commands_end c.args.file bytes at c.pieces.lines c.pieces.words (omega arith) in
    (sym c.pieces.invariant.reads ∙ read ∙ ap (λ (ls : List (List Word)). Ok ls) (sym c.in_ok-push_line.ensures.ok), place_at_end c.args.file bytes at c.pieces.line (omega (arith, c.pieces.invariant.within)) c.pieces.invariant.counted)
