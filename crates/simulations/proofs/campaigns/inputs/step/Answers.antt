use Rattle.std.proofs.Common.{◌≡◌, ◌<◌, ℕ, List, length, slice_get, Some, sym, ap, subst, ◌∙◌, arith}
use Rattle.av_base.specs.Word.{Word}
use Rattle.cycle_sim.specs.Sims.{input_widths, widths_of}
use Rattle.lane_sim.specs.LaneSims.{IsStepWith, lane_of}
use Rattle.simulations.proofs.campaigns.Many.{some_at, within}
use Rattle.simulations.proofs.campaigns.Rows.{lane_widths}
use Rattle.simulations.proofs.campaigns.inputs.step.Goals as goal

pub take_rows-requires-clause-rows : goal.take_rows-requires-clause-rows
take_rows-requires-clause-rows c = (input_widths c.args.lanes.now.netlist.ports, c.requires.inputs, c.requires.rows)

pub step-requires : goal.step-requires
step-requires c =
    let first = some_at c.args.benches.now 0 (omega (arith, c.requires.count)) in
    sym (lane_widths 0 c.take_rows.new.inputs) ∙ ap widths_of (c.take_rows.ensures.rows 0 first.0 first.1) ∙ c.requires.rows 0 first.0 first.1

pub returns-clause-lanes : goal.returns-clause-lanes
returns-clause-lanes c = λ j lane at.
    let low = within c.args.benches.now j lane at in
    subst (IsStepWith (lane_of c.args.lanes.now j) (lane_of c.step.new.self j)) (c.take_rows.ensures.rows j lane at) (c.step.ensures.lanes j (omega (arith, low, c.requires.count)))
