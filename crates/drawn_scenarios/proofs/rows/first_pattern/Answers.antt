use Rattle.std.proofs.Common.{refl}
use Rattle.drawn_scenarios.specs.Draws.{draw, repeated, stalls, pattern}
use Rattle.drawn_scenarios.specs.Agents.{stall, latency, stall_of, latency_of, agent_script}
use Rattle.drawn_scenarios.proofs.rows.first_pattern.Goals as goal

pub returns : goal.returns
unfolding draw repeated stalls pattern stall latency stall_of latency_of agent_script
returns c = refl
