use Rattle.std.proofs.Common.{◌≡◌, ◌<◌, ℕ, List, length, refl, sym, ap, subst, ◌∙◌, arith}
use Rattle.cycle_sim.specs.Sims.{widths_of}
use Rattle.lane_sim.specs.LaneSims.{IsStepWith, lane_of}
use Rattle.simulations.specs.Cycles.{IsShown, first_words, shown_first}
use Rattle.simulations.specs.Value.{value_with}
use Rattle.simulations.specs.Lanes.{value_in}
use Rattle.simulations.proofs.campaigns.Cycles.{same_row, with_sim}
use Rattle.simulations.proofs.campaigns.Many.{some_at, within}
use Rattle.simulations.proofs.campaigns.evaluated.show.Goals as goal

pub show_all-requires-clause-left : goal.show_all-requires-clause-left
show_all-requires-clause-left c = λ j lane at. (lane_of c.args.lanes.now j, c.requires.left j lane at)

pub step-requires-clause-rows : goal.step-requires-clause-rows
step-requires-clause-rows c = λ j lane at.
    let low = within c.show_all.new.benches j lane at in
    let before = some_at c.args.benches.now j (omega (arith, low, c.show_all.ensures.count, c.requires.count)) in
    let sim = lane_of c.args.lanes.now j in
    let bench = value_in c.args.lanes.now j before.0 in
    let r = c.requires.left j before.0 before.1 in
    let shown = (c.show_all.ensures.each j before.0 lane before.1 at).bench sim in
    ap widths_of (same_row (value_with sim lane.bench) (shown_first bench) shown) ∙ c.first_steps_are_shown.ensures.inputs r.plan r.scenario r.run r.cycle bench r.set r.under_way

pub returns-clause-each : goal.returns-clause-each
returns-clause-each c = λ j before after at now. λ plan scenario run k set way.
    let sim = lane_of c.args.lanes.now j in
    let next = lane_of c.step.new.lanes j in
    let bench = value_in c.args.lanes.now j before in
    let shown = (c.show_all.ensures.each j before after at now).bench sim in
    let step = subst (IsStepWith sim next) (same_row (value_with sim after.bench) (shown_first bench) shown) (c.step.ensures.lanes j after now) in
    subst (IsShown plan scenario run k first_words) (sym (with_sim next (value_with sim after.bench) (shown_first bench) shown))
    (c.first_steps_are_shown.ensures.shown plan scenario run k bench next set way step c.step.ensures.stepped)

pub returns-clause-counts : goal.returns-clause-counts
returns-clause-counts c = λ j before after at now. (c.show_all.ensures.each j before after at now).counts
