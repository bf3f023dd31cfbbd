use Rattle.std.proofs.Common.{◌≡◌}
use Rattle.replays.specs.Texts.{CanReplayText, IsReplayTextFault}
use Rattle.avalon_top.specs.Run.{text_in, waves_in}
use Rattle.avalon_top.proofs.FileLemmas.{first_of_two, second_of_two}
use Rattle.avalon_top.proofs.AnswerLemmas.{AreJudged, replay_stops, can_be_replayed}
use Rattle.avalon_top.proofs.dumped.dump_files.Goals as goal

pub returns-in-Err-clause-stops : goal.returns-in-Err-clause-stops
returns-in-Err-clause-stops c =
    let law = c.texts_are_replayed_or_refused.ensures in
    let text = text_in c.args.files.now in
    let waves = waves_in c.args.files.now in
    let judged : AreJudged (CanReplayText text waves) (IsReplayTextFault text waves) = record { either = law.either text waves; never_both = law.never_both text waves; one_fault = law.one_fault text waves } in
    rw c.answer_of.ensures (replay_stops text waves c.in-Err.fault judged
    (rw (c.as_slice.ensures, c.as_slice-2.ensures, c.index-files-0.is, c.index-files-1.is, first_of_two c.args.files.now c.index-files-0.result c.requires, second_of_two c.args.files.now c.index-files-1.result c.requires) at c.in-Err.ensures.fault))

pub returns-in-Ok-clause-result : goal.returns-in-Ok-clause-result
returns-in-Ok-clause-result c =
    let law = c.texts_are_replayed_or_refused.ensures in
    let text = text_in c.args.files.now in
    let waves = waves_in c.args.files.now in
    let judged : AreJudged (CanReplayText text waves) (IsReplayTextFault text waves) = record { either = law.either text waves; never_both = law.never_both text waves; one_fault = law.one_fault text waves } in
    let is = rw (c.as_slice.ensures, c.as_slice-2.ensures, c.index-files-0.is, c.index-files-1.is, first_of_two c.args.files.now c.index-files-0.result c.requires, second_of_two c.args.files.now c.index-files-1.result c.requires) at c.in-Ok.ensures.text in
    record { is_text = is; only = can_be_replayed text waves judged (c.texts_are_dumped_as_replayed.ensures.replayed text waves c.in-Ok.text is) }
