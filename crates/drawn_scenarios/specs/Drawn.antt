-- The scenario that is drawn for a plan.
use Rattle.std.specs.Prelude.{ℕ, ◌+◌, ◌*◌, List, length}
use Rattle.std.specs.List.{range_with_len}
use Rattle.system_tables.specs.declared.tables.EndId.{EndId}
use Rattle.system_tables.specs.Tables.{SystemTable}
use Rattle.address_map.specs.Footprints.{known_at}
use Rattle.address_map.specs.Maps.{hosts_of, agents_of}
use Rattle.link_rules.specs.PlanConnections.{stream_connections}
use Rattle.link_rules.specs.Plans.{PlanTable}
use Rattle.scenario_tables.specs.declared.statements.HostStatement.{HostStatement}
use Rattle.scenario_tables.specs.declared.statements.AgentStatement.{AgentStatement}
use Rattle.scenario_tables.specs.declared.scenario.Scenario.{Scenario}
use Rattle.drawn_scenarios.specs.Draws.{Draws, always, ◌>>=◌, for_each}
use Rattle.drawn_scenarios.specs.Hosts.{host_script, links_of}
use Rattle.drawn_scenarios.specs.Agents.{agent_script_as}
use Rattle.drawn_scenarios.specs.Streams.{stream_scripts}

abbrev pub host_script_at : SystemTable → ℕ → Draws (List HostStatement)
host_script_at system host = host_script (links_of system host)

unfoldable pub host_scripts : SystemTable → Draws (List (List HostStatement))
host_scripts system = for_each (host_script_at system) (range_with_len 0 (length (hosts_of system)))

abbrev pub agent_script_at : SystemTable → EndId → Draws (List AgentStatement)
agent_script_at system end = agent_script_as (known_at system end)

unfoldable pub agent_scripts : SystemTable → Draws (List (List AgentStatement))
agent_scripts system = for_each (agent_script_at system) (agents_of system)

-- hosts, then agents, then streams, in the order of their numbers
unfoldable pub scenario_for : SystemTable → ℕ → Draws Scenario
scenario_for system cycles = do
  hosts ← host_scripts system
  agents ← agent_scripts system
  streams ← stream_scripts (stream_connections system)
  always (record {
    cycles = cycles;
    hosts = hosts;
    agents = agents;
    sources = streams.0;
    sinks = streams.1;
  })

-- each number has eight lanes, which begin at states of their own
unfoldable pub drawn_scenario : PlanTable → ℕ → ℕ → ℕ → Scenario
drawn_scenario plan number lane cycles = (scenario_for plan.system cycles (8 * number + lane)).0
