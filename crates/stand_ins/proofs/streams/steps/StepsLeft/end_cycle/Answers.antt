use Rattle.std.proofs.Common.{arith, ap, sym, ◌∙◌, List}
use Rattle.stand_ins.specs.Step.{Step}
use Rattle.stand_ins.specs.StreamsSteps.{left_behind}
use Rattle.stand_ins.proofs.streams.StepLemmas.{gap_lasts, gap_stands, gap_ends}
use Rattle.stand_ins.proofs.streams.steps.StepsLeft.end_cycle.Goals as goal

pub overflow_add-self-inside : goal.overflow_add-self-inside
overflow_add-self-inside c = let lasts = gap_lasts _ _ _ _ _ c.in-Some.ensures.cases.0 c.in-Gap.is c.self.invariant in omega arith

pub returns-then-self-cycles : goal.returns-then-self-cycles
returns-then-self-cycles c =
    let stands = gap_stands _ _ _ _ _ c.in-Some.ensures.cases.0 c.in-Gap.is c.self.invariant in
    sym (ap (λ (steps : List Step). left_behind c.args.taken steps) (sym c.self.view_is ∙ stands))

pub returns-else-self-cycles : goal.returns-else-self-cycles
returns-else-self-cycles c =
    sym (ap (λ (steps : List Step). left_behind c.args.taken steps) (sym c.self.view_is ∙ gap_ends _ _ _ _ _ c.in-Some.ensures.cases.0 c.in-Gap.is c.self.invariant c.if-self-cycles.false))
