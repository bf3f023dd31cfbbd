use Rattle.std.proofs.Common.{◌≡◌, ◌<◌, ℕ, slice_get, Some, IsFalse}
use Rattle.benches.specs.Agents.{BenchAgentValue, gives_at_once}
use Rattle.simulations.specs.declared.campaigns.lane_bench.LaneBench.{LaneBench}
use Rattle.simulations.proofs.campaigns.all.any_gives_at_once.Given as goal

abbrev pub invariant-lanes : goal.invariant-lanes
invariant-lanes l = (j : ℕ) (lane : LaneBench) → j < l.lane-index → slice_get l.benches j ≡ Some lane → (a : ℕ) (agent : BenchAgentValue) → slice_get lane.bench.agents.items a ≡ Some agent → IsFalse (gives_at_once agent)
