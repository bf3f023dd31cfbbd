-- When agents stall and how late they answer, in a drawn scenario.
use Rattle.std.specs.Prelude.{◌+◌, List, [], ◌∷◌, ◌++◌, if◌then◌else◌}
use Rattle.iface_roles.specs.declared.records.AgentPort.{AgentPort}
use Rattle.iface_roles.specs.declared.records.Finished.{Finished}
use Rattle.iface_roles.specs.declared.records.Finished.TheVariants.{Agent}
use Rattle.scenario_tables.specs.declared.statements.AgentStatement.{AgentStatement}
use Rattle.scenario_tables.specs.declared.statements.AgentStatement.TheVariants.{Stall, Latency}
use Rattle.drawn_scenarios.specs.Draws.{Draws, always, ◌>>=◌, draw, pattern}

unfoldable pub stall : Draws (List AgentStatement)
stall = do
  stalls ← pattern
  always (Stall stalls ∷ [])

unfoldable pub latency : Draws (List AgentStatement)
latency = do
  more ← draw 8
  always (Latency (1 + more) ∷ [])

-- where the agent has `waitrequest`
unfoldable pub stall_of : AgentPort → Draws (List AgentStatement)
stall_of agent = if agent.waitrequest then stall else always []

-- where it has `readdatavalid`
unfoldable pub latency_of : AgentPort → Draws (List AgentStatement)
latency_of agent = if agent.readdatavalid then latency else always []

unfoldable pub agent_script : AgentPort → Draws (List AgentStatement)
agent_script agent = do
  stalls ← stall_of agent
  latencies ← latency_of agent
  always (stalls ++ latencies)

-- the script of an interface of which this is known
abbrev pub agent_script_as : Finished → Draws (List AgentStatement)
agent_script_as (Agent agent) = agent_script agent
agent_script_as _ = always []
