use Rattle.std.proofs.Common.{◌≡◌, ℕ, get_or, slice_get, Some, IsFalse, refl, sym, subst, arith}
use Rattle.benches.specs.Agents.{BenchAgentValue, gives_at_once}
use Rattle.simulations.specs.declared.campaigns.lane_bench.LaneBench.{LaneBench}
use Rattle.simulations.proofs.campaigns.Many.{each_up_to, within}
use Rattle.simulations.proofs.campaigns.all.any_gives_at_once.Goals as goal

abbrev WaitsAll : ℕ → LaneBench → Type 0
WaitsAll j lane = (a : ℕ) (agent : BenchAgentValue) → slice_get lane.bench.agents.items a ≡ Some agent → IsFalse (gives_at_once agent)

pub lanes-preserved : goal.lanes-preserved
lanes-preserved c =
    each_up_to WaitsAll c.args.benches.now c.lanes.lane-index c.lane-item.result c.lanes.invariant (subst (WaitsAll c.lanes.lane-index) c.lane-item.is (c.if-gives_at_once.ensures refl))

pub returns : goal.returns
returns c = λ _ j lane at.
    let low = within c.args.benches.now j lane at in
    c.lanes.invariant j lane (omega (arith, low, c.lanes-test.false)) at
