use Rattle.std.proofs.Common.{◌∙◌, sym, ap, List}
use Rattle.stand_ins.specs.Step.{Step}
use Rattle.stand_ins.specs.StreamsSteps.{next_beat}
use Rattle.stand_ins.proofs.streams.StepLemmas.{gap_stands}
use Rattle.stand_ins.proofs.streams.steps.StepsLeft.next_beat.Goals as goal

pub returns-in-Gap : goal.returns-in-Gap
returns-in-Gap c =
    sym (ap (λ (steps : List Step). next_beat c.args.may_show steps) (sym c.self.view_is ∙ gap_stands _ _ _ _ _ c.in_ok-first.ensures.cases.0 c.in-Gap.is c.self.invariant))
