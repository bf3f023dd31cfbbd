use Rattle.std.proofs.Common.{◌≡◌, ◌+◌, ◌≤◌, length, ◌∙◌, refl, arith}
use Rattle.scenario_runs.specs.Bridged.{HaveNoted}
use Rattle.scenario_runs.specs.Refused.{CanBridge, IsBridgeFault}
use Rattle.avalon_top.specs.Systems.{system_files, second_file}
use Rattle.avalon_top.proofs.FileLemmas.{second_is, system_file_count}
use Rattle.avalon_top.proofs.AnswerLemmas.{AreJudged, bridge_stops, bridge_done}
use Rattle.avalon_top.proofs.bridge.replies_of.Goals as goal

pub returns-in-Ok-clause-replies : goal.returns-in-Ok-clause-replies
returns-in-Ok-clause-replies c =
    let files = c.args.files.items in
    let cycles = c.args.cycles in
    let law = c.bridged_or_refused.ensures in
    let some = system_file_count files c.requires.some in
    let judged : AreJudged (CanBridge (system_files files) (second_file files) cycles) (IsBridgeFault (system_files files) (second_file files) cycles) = record {
      either = law.either (system_files files) (second_file files) cycles (omega (arith, some, c.requires.some));
      never_both = law.never_both (system_files files) (second_file files) cycles;
      one_fault = law.one_fault (system_files files) (second_file files) cycles;
    } in
    let system : c.as_slice.result.now ≡ system_files files = c.as_slice.ensures.value ∙ c.remove-bytes.ensures.items in
    let bytes : c.as_slice-2.result.now ≡ second_file files = c.as_slice-2.ensures ∙ c.remove-bytes.ensures.value ∙ second_is files _ c.requires.some in
    let noted : HaveNoted (system_files files) (second_file files) cycles c.in-Ok.replies = rw (system, bytes) at c.in-Ok.ensures.noted in
    let can : CanBridge (system_files files) (second_file files) cycles = rw (system, bytes) at c.in-Ok.ensures.can in
    record { cycles = cycles; task_is = refl; noted = noted; only = bridge_done cycles (system_files files) (second_file files) judged can }

pub returns-clause-stops : goal.returns-clause-stops
returns-clause-stops c =
    let files = c.args.files.items in
    let cycles = c.args.cycles in
    let law = c.bridged_or_refused.ensures in
    let some = system_file_count files c.requires.some in
    let judged : AreJudged (CanBridge (system_files files) (second_file files) cycles) (IsBridgeFault (system_files files) (second_file files) cycles) = record {
      either = law.either (system_files files) (second_file files) cycles (omega (arith, some, c.requires.some));
      never_both = law.never_both (system_files files) (second_file files) cycles;
      one_fault = law.one_fault (system_files files) (second_file files) cycles;
    } in
    let system : c.as_slice.result.now ≡ system_files files = c.as_slice.ensures.value ∙ c.remove-bytes.ensures.items in
    let bytes : c.as_slice-2.result.now ≡ second_file files = c.as_slice-2.ensures ∙ c.remove-bytes.ensures.value ∙ second_is files _ c.requires.some in
    rw c.answer_of.ensures (bridge_stops cycles (system_files files) (second_file files) c.in-Err.fault judged (rw (system, bytes) at c.in-Err.ensures.fault))
