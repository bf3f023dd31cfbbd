-- Scenarios that fit a plan.
pub use Rattle.link_rules.specs.Plans.{IsHostAt, IsAgentAt}
use Rattle.std.specs.Prelude.{◌≡◌, ◌≤◌, ℕ, List, length, slice_get, Some}
use Rattle.iface_roles.specs.declared.records.HostPort.{HostPort}
use Rattle.iface_roles.specs.declared.records.AgentPort.{AgentPort}
use Rattle.system_tables.specs.Tables.{SystemTable}
use Rattle.address_map.specs.Maps.{hosts_of, agents_of}
use Rattle.link_rules.specs.declared.plan_connections.StreamConnection.{StreamConnection}
use Rattle.link_rules.specs.PlanConnections.{stream_connections}
use Rattle.scenario_tables.specs.declared.statements.HostStatement.{HostStatement}
use Rattle.scenario_tables.specs.declared.statements.AgentStatement.{AgentStatement}
use Rattle.scenario_tables.specs.declared.statements.SourceStatement.{SourceStatement}
use Rattle.scenario_tables.specs.declared.statements.Pattern.{Pattern}
use Rattle.scenario_tables.specs.declared.scenario.Scenario.{Scenario}
use Rattle.scenario_tables.specs.Statements.{IsHostScript, IsAgentScript, IsSourceScript, IsSinkScript}

-- there are scripts for all interfaces of the system, and each fits the record of its own
pub record IsScenario (system : SystemTable) (scenario : Scenario) : Type 0 where
  pub some : 1 ≤ scenario.cycles
  pub few : scenario.cycles ≤ 65536
  pub hosts : length scenario.hosts ≡ length (hosts_of system)
  pub agents : length scenario.agents ≡ length (agents_of system)
  pub sources : length scenario.sources ≡ length (stream_connections system)
  pub sinks : length scenario.sinks ≡ length (stream_connections system)
  pub at_hosts : (h : ℕ) (port : HostPort) (script : List HostStatement) → IsHostAt system h port
      → slice_get scenario.hosts h ≡ Some script → IsHostScript port script
  pub at_agents : (a : ℕ) (port : AgentPort) (script : List AgentStatement) → IsAgentAt system a port
      → slice_get scenario.agents a ≡ Some script → IsAgentScript port script
  pub at_sources : (s : ℕ) (link : StreamConnection) (script : List SourceStatement)
      → slice_get (stream_connections system) s ≡ Some link → slice_get scenario.sources s ≡ Some script
      → IsSourceScript link.source script
  pub at_sinks : (s : ℕ) (link : StreamConnection) (script : List Pattern) → slice_get (stream_connections system) s ≡ Some link
      → slice_get scenario.sinks s ≡ Some script → IsSinkScript link.sink script
