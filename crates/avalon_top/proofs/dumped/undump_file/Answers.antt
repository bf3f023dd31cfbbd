use Rattle.std.proofs.Common.{◌≡◌, arith}
use Rattle.vcd_reader.specs.Undumps.{CanUndump, IsUndumpFault}
use Rattle.avalon_top.specs.Run.{dump_in}
use Rattle.avalon_top.proofs.FileLemmas.{one_of_one}
use Rattle.avalon_top.proofs.AnswerLemmas.{AreJudged, undump_stops, undump_done}
use Rattle.avalon_top.proofs.dumped.undump_file.Goals as goal

pub returns-in-Err-clause-stops : goal.returns-in-Err-clause-stops
returns-in-Err-clause-stops c =
    let law = c.dumps_are_written_or_refused.ensures in
    let dump = dump_in c.args.files.now in
    let judged : AreJudged (CanUndump dump) (IsUndumpFault dump) = record { either = law.either dump; never_both = law.never_both dump; one_fault = law.one_fault dump } in
    rw c.answer_of_dump.ensures (undump_stops dump c.in-Err.fault judged (rw (c.as_slice.ensures, c.index-files-0.is, one_of_one c.args.files.now c.index-files-0.result c.requires.one) at c.in-Err.ensures.fault))

pub returns-in-Ok-clause-result : goal.returns-in-Ok-clause-result
returns-in-Ok-clause-result c =
    let law = c.dumps_are_written_or_refused.ensures in
    let dump = dump_in c.args.files.now in
    let judged : AreJudged (CanUndump dump) (IsUndumpFault dump) = record { either = law.either dump; never_both = law.never_both dump; one_fault = law.one_fault dump } in
    let is = rw (c.as_slice.ensures, c.index-files-0.is, one_of_one c.args.files.now c.index-files-0.result c.requires.one) at c.in-Ok.ensures.text in
    record { is_text = is; only = undump_done dump c.in-Ok.text judged is }
