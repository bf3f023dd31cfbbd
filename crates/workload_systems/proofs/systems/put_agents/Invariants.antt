use Rattle.std.proofs.Common.{◌≡◌, ◌++◌, map}
use Rattle.workload_systems.specs.Texts.{text_of}
use Rattle.workload_systems.specs.Systems.{below, agent_instance}
use Rattle.workload_systems.proofs.systems.put_agents.Given as goal

abbrev pub invariant-agents : goal.invariant-agents
invariant-agents l = l.text ≡ l.initial.text ++ text_of (map (agent_instance l.number) (below l.j))
