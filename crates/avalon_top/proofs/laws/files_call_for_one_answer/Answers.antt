use Rattle.avalon_top.specs.Systems.{system_files, second_file}
use Rattle.avalon_top.specs.Run.{text_in, waves_in, dump_in}
use Rattle.avalon_top.proofs.AnswerLemmas.{one_answer}
use Rattle.avalon_top.proofs.laws.files_call_for_one_answer.Goals as goal

pub returns : goal.returns
returns c =
    let system = c.accepted_or_refused.ensures in
    let simulated = c.simulated_or_refused.ensures in
    let bridged = c.bridged_or_refused.ensures in
    let replay = c.texts_are_replayed_or_refused.ensures in
    let undump = c.dumps_are_written_or_refused.ensures in
    λ task files are. one_answer task files
    (record {
      system = λ some. record { either = system.either files some; never_both = λ r accepted. system.never_both files accepted r; one_fault = system.one_refusal files };
      simulated = λ some. record {
        either = simulated.either (system_files files) (second_file files) some;
        never_both = simulated.never_both (system_files files) (second_file files);
        one_fault = simulated.one_fault (system_files files) (second_file files);
      };
      bridged = λ cycles some. record {
        either = bridged.either (system_files files) (second_file files) cycles some;
        never_both = bridged.never_both (system_files files) (second_file files) cycles;
        one_fault = bridged.one_fault (system_files files) (second_file files) cycles;
      };
      replayed = record {
        either = replay.either (text_in files) (waves_in files);
        never_both = replay.never_both (text_in files) (waves_in files);
        one_fault = replay.one_fault (text_in files) (waves_in files);
      };
      undumped = record { either = undump.either (dump_in files); never_both = undump.never_both (dump_in files); one_fault = undump.one_fault (dump_in files) };
    })
    are
