use Rattle.std.specs.Prelude.{ℕ, List}
use Rattle.scenario_runs.proofs.LawLemmas.{AreJudged, either, never, one_fault}
use Rattle.scenario_runs.proofs.laws.simulated_or_refused.Goals as goal

pub returns : goal.returns
returns c =
    let system = c.accepted_or_refused.ensures in
    let judged : (files : List (List ℕ)) (bytes : List ℕ) → AreJudged files bytes = λ files bytes. record {
      accepted_or_refused = system.never_both files;
      one_system = system.one_system files;
      one_refusal = system.one_refusal files;
      stated_or_broken = λ table. c.never_both.ensures table bytes;
      one_scenario = λ table. c.no_two_scenarios.ensures table bytes;
      one_fault = λ table. c.no_two_first_faults.ensures table bytes;
    } in
    record {
      either = λ files bytes some. either files bytes (λ table. c.scenario_or_fault.ensures table bytes) (system.either files some);
      never_both = λ files bytes f. never files bytes f (judged files bytes);
      one_fault = λ files bytes f g. one_fault files bytes f g (judged files bytes);
    }
