use Rattle.std.proofs.Common.{◌≡◌, drop}
use Rattle.address_map.specs.Maps.{agents_of}
use Rattle.drawn_scenarios.specs.Draws.{for_each}
use Rattle.drawn_scenarios.specs.Drawn.{agent_script_at, agent_scripts}
use Rattle.drawn_scenarios.proofs.DrawLemmas.{prepended}
use Rattle.drawn_scenarios.proofs.agents.agent_scripts.Given as goal

abbrev pub invariant-agents : goal.invariant-agents
invariant-agents l = prepended l.scripts (for_each (agent_script_at l.plan.system) (drop l.number (agents_of l.plan.system)) l.generator) ≡ agent_scripts l.plan.system l.initial.generator
