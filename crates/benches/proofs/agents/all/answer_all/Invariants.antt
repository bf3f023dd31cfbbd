use Rattle.std.proofs.Common.{◌≡◌, flat_map, take, drop}
use Rattle.port_rows.specs.Levels.{AllFit, set_levels}
use Rattle.benches.specs.Agents.{BenchAgentValue, sets_answered}
use Rattle.benches.proofs.agents.all.answer_all.Given as goal

abbrev pub invariant-agents : goal.invariant-agents
invariant-agents l = record {
  set : l.row ≡ set_levels l.initial.row (flat_map (λ (agent : BenchAgentValue). sets_answered agent l.sim) (take l.agent-index l.agents));
  fits : AllFit l.row (flat_map (λ (agent : BenchAgentValue). sets_answered agent l.sim) (drop l.agent-index l.agents));
}
