use Rattle.std.proofs.Common.{◌≡◌, List, length, sym, ap, subst, ◌∙◌}
use Rattle.lane_sim.specs.LaneWords.{LaneWord}
use Rattle.interconnect.specs.Interconnect.{IsInterconnect}
use Rattle.simulations.specs.declared.campaigns.lane_bench.LaneBench.{LaneBench}
use Rattle.simulations.proofs.campaigns.Begun.{inputs_begin, lanes_begin}
use Rattle.simulations.proofs.campaigns.counted.count_lanes.Goals as goal

pub first_benches-requires-clause-module : goal.first_benches-requires-clause-module
first_benches-requires-clause-module c = subst (IsInterconnect c.args.plan.now) (sym c.module.ensures) c.requires.module

pub first_inputs-requires : goal.first_inputs-requires
first_inputs-requires c = ap (λ (benches : List LaneBench). length benches) c.as_slice.ensures.value ∙ c.in_ok-benches.ensures.count ∙ c.requires.count

pub run_lanes-requires-clause-inputs : goal.run_lanes-requires-clause-inputs
run_lanes-requires-clause-inputs c =
    ap (λ (inputs : List LaneWord). length inputs) c.as_mut_slice-2.ensures.value
    ∙ inputs_begin c.args.plan.now c.args.scenarios.now c.args.lanes.now c.module.result.now c.in_ok-benches.benches.items c.as_slice.result.now (length c.in_ok-inputs.inputs.items) c.requires.count c.requires.unstepped
    c.module.ensures c.in_ok-benches.ensures c.as_slice.ensures.value c.in_ok-inputs.ensures

pub run_lanes-requires-clause-first : goal.run_lanes-requires-clause-first
run_lanes-requires-clause-first c = (
  c.args.plan.now,
  c.args.scenarios.now,
  lanes_begin c.counts_go_on.ensures.first c.args.plan.now c.args.scenarios.now c.args.cycles c.args.lanes.now c.module.result.now c.in_ok-benches.benches.items c.as_mut_slice.result.now c.requires.count
      c.requires.scenarios c.requires.cycles c.requires.unstepped c.module.ensures c.in_ok-benches.ensures c.as_mut_slice.ensures.value,
)

pub returns-clause-counted : goal.returns-clause-counted
returns-clause-counted c =
    c.run_lanes.ensures.counted c.args.plan.now c.args.scenarios.now
    (lanes_begin c.counts_go_on.ensures.first c.args.plan.now c.args.scenarios.now c.args.cycles c.args.lanes.now c.module.result.now c.in_ok-benches.benches.items c.as_mut_slice.result.now c.requires.count
    c.requires.scenarios c.requires.cycles c.requires.unstepped c.module.ensures c.in_ok-benches.ensures c.as_mut_slice.ensures.value)
