use Rattle.std.proofs.Common.{◌≡◌, ◌++◌, take, drop, Some, sym, ap, ◌∙◌}
use Rattle.std.proofs.lemmas.List.{take_rest}
use Rattle.std.proofs.Math.Seq.{take-add}
use Rattle.av_base.specs.declared.faults.Place.{Place}
use Rattle.tcl_words.specs.Script.{place_after}
use Rattle.tcl_words.specs.Reading.{flaw, in_file, fault_of, piece_of}
use Rattle.tcl_words.proofs.words.piece_at.Goals as goal

pub returns-in-Err-Flaw-clause-found : goal.returns-in-Err-Flaw-clause-found
returns-in-Err-Flaw-clause-found c =
    let bytes = c.args.bytes.now in
    let at = c.args.at in
    let behind = c.in-Err-Flaw.behind in
    let read : piece_of c.args.fresh (drop at bytes) ≡ flaw behind c.in-Err-Flaw.rule = ap (piece_of c.args.fresh) (sym (take_rest bytes at)) ∙ (rw c.in-Err-Flaw.field-0-is at c.in-Err-Flaw.ensures.found) in
    let place : place_after c.args.file (take at bytes ++ take behind (drop at bytes)) ≡ c.place_after.result = ap (place_after c.args.file) (sym (take-add at behind bytes)) ∙ sym c.place_after.ensures in
    ap (λ r. fault_of (in_file c.args.file (take at bytes) (drop at bytes) r)) read ∙ ap (λ (p : Place). Some (record { place = p; rule = c.in-Err-Flaw.rule })) place
