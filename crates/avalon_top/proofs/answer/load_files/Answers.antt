use Rattle.std.proofs.Common.{refl}
use Rattle.std.proofs.lemmas.Result.{err_from_is_err_and}
use Rattle.avalon_top.specs.Run.{reads_by}
use Rattle.avalon_top.proofs.AnswerLemmas.{stops_at}
use Rattle.avalon_top.proofs.answer.load_files.Goals as goal

pub returns-in_err-bytes-clause-stops : goal.returns-in_err-bytes-clause-stops
returns-in_err-bytes-clause-stops g c =
    let i = c.loop-file.invariant in
    let here = reads_by g.S.Shelf.told g.S.Shelf.faults g.S.Shelf.failed c.loop-file.shelf c.load.new.shelf in
    let reads = reads_by g.S.Shelf.told g.S.Shelf.faults g.S.Shelf.failed c.args.shelf.now c.load.new.shelf in
    let handed = err_from_is_err_and c.from_residual.result c.from_residual.ensures.1 in
    rw (handed.1, handed.2)
    (stops_at c.args.task c.args.words c.loop-file.file c.loop-file.files.items here reads c.in_err-bytes.field-0.0 i.loaded i.count c.loop-file-test.true c.requires.few i.told i.grows refl refl
    c.in_err-bytes.ensures.stops)
