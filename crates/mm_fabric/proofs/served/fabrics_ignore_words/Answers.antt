use Rattle.mm_fabric.proofs.Moments.{words_are_ignored}
use Rattle.mm_fabric.proofs.served.fabrics_ignore_words.Goals as goal

pub returns : goal.returns
returns c = λ plan is_plan netlist fabric is longer extends.
    words_are_ignored plan (c.plans_are_memory_plans.ensures.kept plan is_plan) (c.plans_are_apart.ensures plan is_plan) netlist fabric is longer extends c.route_ignores_answers.ensures c.arbiter_ignores_answers.ensures
