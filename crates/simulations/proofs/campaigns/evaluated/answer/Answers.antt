use Rattle.std.proofs.Common.{◌≡◌, ◌<◌, ℕ, List, length, refl, sym, ap, subst, ◌∙◌, arith}
use Rattle.cycle_sim.specs.Sims.{widths_of}
use Rattle.lane_sim.specs.LaneSims.{IsStepWith, lane_of}
use Rattle.simulations.specs.Cycles.{IsEvaluated, answered}
use Rattle.simulations.specs.Value.{value_with}
use Rattle.simulations.specs.Lanes.{value_in}
use Rattle.simulations.proofs.campaigns.Cycles.{same_row, with_sim}
use Rattle.simulations.proofs.campaigns.Many.{some_at, within}
use Rattle.simulations.proofs.campaigns.evaluated.answer.Goals as goal

pub step-requires-clause-rows : goal.step-requires-clause-rows
step-requires-clause-rows c = λ j lane at.
    let low = within c.answer_all.new.benches j lane at in
    let before = some_at c.args.benches.now j (omega (arith, low, c.answer_all.ensures.count, c.requires.count)) in
    let sim = lane_of c.args.lanes.now j in
    let bench = value_in c.args.lanes.now j before.0 in
    let r = c.requires.asked j before.0 before.1 in
    let answers = (c.answer_all.ensures.each j before.0 lane before.1 at).bench in
    ap widths_of (same_row (value_with sim lane.bench) (answered bench) answers) ∙ c.answers_are_evaluated.ensures.inputs r.plan r.scenario r.run r.cycle bench r.set r.shown

pub returns-clause-each : goal.returns-clause-each
returns-clause-each c = λ j before after at now. λ plan scenario run k set left shown.
    let sim = lane_of c.args.lanes.now j in
    let next = lane_of c.step.new.lanes j in
    let bench = value_in c.args.lanes.now j before in
    let answers = (c.answer_all.ensures.each j before after at now).bench in
    let step = subst (IsStepWith sim next) (same_row (value_with sim after.bench) (answered bench) answers) (c.step.ensures.lanes j after now) in
    subst (IsEvaluated plan scenario run k) (sym (with_sim next (value_with sim after.bench) (answered bench) answers))
    (c.answers_are_evaluated.ensures.evaluated plan scenario run k bench next set shown step c.step.ensures.stepped)

pub returns-clause-counts : goal.returns-clause-counts
returns-clause-counts c = λ j before after at now. (c.answer_all.ensures.each j before after at now).counts
