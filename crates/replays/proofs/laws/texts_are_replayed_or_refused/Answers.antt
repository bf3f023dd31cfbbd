use Rattle.std.proofs.Common.{ℕ, List}
use Rattle.replays.proofs.TextLaws.{IsJudgedText, AreJudgedWaves, either, never, one_fault, one_trace}
use Rattle.replays.proofs.laws.texts_are_replayed_or_refused.Goals as goal

pub returns : goal.returns
returns c =
    let law : (text : List ℕ) → IsJudgedText text = λ text. record {
      either = c.texts_judge.ensures.either text;
      never_both = c.texts_judge.ensures.never_both;
      one_fault = c.texts_judge.ensures.one_fault text;
      one_module = c.no_two_modules.ensures;
    } in
    let on : (waves : List ℕ) → AreJudgedWaves waves = λ waves. record {
      either = λ netlist. c.replayed_or_refused.ensures.either netlist waves;
      never_both = λ netlist. c.replayed_or_refused.ensures.never_both netlist waves;
      one_fault = λ netlist. c.replayed_or_refused.ensures.one_fault netlist waves;
    } in
    record {
      either = λ text waves. either text waves (law text) (on waves);
      never_both = λ text waves fault. never text waves fault (law text) (on waves);
      one_fault = λ text waves one other. one_fault text waves one other (law text) (on waves);
      one_trace = λ text waves one other. one_trace text waves one other (law text) (λ netlist. c.no_two_replays.ensures netlist waves one other);
    }
