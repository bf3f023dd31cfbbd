use Rattle.std.proofs.Common.{◌≡◌, ◌<◌, ℕ, slice_get, Some, IsFalse}
use Rattle.benches.specs.Agents.{BenchAgentValue, gives_at_once}
use Rattle.benches.proofs.agents.all.any_gives_at_once.Given as goal

abbrev pub invariant-agents : goal.invariant-agents
invariant-agents l = (a : ℕ) (agent : BenchAgentValue) → a < l.agent-index → slice_get l.agents a ≡ Some agent → IsFalse (gives_at_once agent)
