use Rattle.std.proofs.Common.{◌≡◌, ◌+◌, ◌≤◌, length, ◌∙◌, refl, arith}
use Rattle.scenario_runs.specs.Prepared.{IsPrepared}
use Rattle.scenario_runs.specs.Simulations.{CanSimulate, IsSimulateFault}
use Rattle.avalon_top.specs.Systems.{system_files, second_file}
use Rattle.avalon_top.proofs.FileLemmas.{second_is, system_file_count}
use Rattle.avalon_top.proofs.AnswerLemmas.{AreJudged, accepted_files, simulate_stops, simulate_done}
use Rattle.avalon_top.proofs.simulate.simulation.Goals as goal

pub returns-in-Ok-clause-prepared : goal.returns-in-Ok-clause-prepared
returns-in-Ok-clause-prepared c =
    let files = c.args.files.items in
    let law = c.simulated_or_refused.ensures in
    let some = system_file_count files c.requires.some in
    let judged : AreJudged (CanSimulate (system_files files) (second_file files)) (IsSimulateFault (system_files files) (second_file files)) =
    record { either = law.either (system_files files) (second_file files) (omega (arith, some, c.requires.some)); never_both = law.never_both (system_files files) (second_file files); one_fault = law.one_fault (system_files files) (second_file files) } in
    let system : c.as_slice.result.now ≡ system_files files = c.as_slice.ensures.value ∙ c.remove-scenario.ensures.items in
    let scenario : c.as_slice-2.result.now ≡ second_file files = c.as_slice-2.ensures ∙ c.remove-scenario.ensures.value ∙ second_is files _ c.requires.some in
    let is : IsPrepared (system_files files) (second_file files) c.in-Ok.prepared = rw (system, scenario) at c.in-Ok.ensures.prepared in
    record {
      task_is = refl;
      ready = is;
      only = simulate_done (system_files files) (second_file files) judged
          (record { accepted = accepted_files (system_files files) c.in-Ok.prepared.plan is.planned; scenario = c.in-Ok.prepared.scenario; stated = is.stated; few = is.few });
    }

pub returns-clause-stops : goal.returns-clause-stops
returns-clause-stops c =
    let files = c.args.files.items in
    let law = c.simulated_or_refused.ensures in
    let some = system_file_count files c.requires.some in
    let judged : AreJudged (CanSimulate (system_files files) (second_file files)) (IsSimulateFault (system_files files) (second_file files)) =
    record { either = law.either (system_files files) (second_file files) (omega (arith, some, c.requires.some)); never_both = law.never_both (system_files files) (second_file files); one_fault = law.one_fault (system_files files) (second_file files) } in
    let system : c.as_slice.result.now ≡ system_files files = c.as_slice.ensures.value ∙ c.remove-scenario.ensures.items in
    let scenario : c.as_slice-2.result.now ≡ second_file files = c.as_slice-2.ensures ∙ c.remove-scenario.ensures.value ∙ second_is files _ c.requires.some in
    rw c.answer_of.ensures (simulate_stops (system_files files) (second_file files) c.in-Err.fault judged (rw (system, scenario) at c.in-Err.ensures.fault))
