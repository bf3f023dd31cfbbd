use Rattle.vcd_reader.proofs.undumps.LawLemmas.{AreJudged, either, never, one_fault, one_text}
use Rattle.vcd_reader.proofs.undumps.laws.dumps_are_written_or_refused.Goals as goal

pub returns : goal.returns
returns c =
    let law : AreJudged = record { only = c.only_dumps_are_read.ensures; read = c.texts_are_read.ensures; one = c.no_two_dumps.ensures } in
    record {
      either = λ bytes. either bytes law;
      never_both = λ bytes fault. never bytes fault law;
      one_fault = λ bytes one other. one_fault bytes one other law;
      one_text = λ bytes one other. one_text bytes one other law;
    }
