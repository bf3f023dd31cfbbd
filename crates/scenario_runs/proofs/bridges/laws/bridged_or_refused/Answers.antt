use Rattle.std.specs.Prelude.{ℕ, List}
use Rattle.scenario_runs.proofs.bridges.LawLemmas.{AreJudged, either, never, one_fault}
use Rattle.scenario_runs.proofs.bridges.laws.bridged_or_refused.Goals as goal

pub returns : goal.returns
returns c =
    let system = c.accepted_or_refused.ensures in
    let judged : (files : List (List ℕ)) (bytes : List ℕ) → AreJudged files bytes = λ files bytes. record {
      accepted_or_refused = system.never_both files;
      one_system = system.one_system files;
      one_refusal = system.one_refusal files;
      read_or_faulty = λ word_bytes range packets place rule. c.reads_are_answered.ensures.never_both word_bytes range bytes packets place rule;
      one_fault = λ word_bytes range place later rule other. c.reads_have_one_answer.ensures.fault word_bytes range bytes place later rule other;
    } in
    record {
      either = λ files bytes cycles some. either files bytes cycles (λ word_bytes range. c.reads_are_answered.ensures.either word_bytes range bytes) (system.either files some);
      never_both = λ files bytes cycles f. never files bytes cycles f (judged files bytes);
      one_fault = λ files bytes cycles f g. one_fault files bytes cycles f g (judged files bytes);
    }
