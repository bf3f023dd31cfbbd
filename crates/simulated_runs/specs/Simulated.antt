-- What it is to simulate a scenario on a module: its run with what stands in for all that is joined to it.
use Rattle.std.specs.Prelude.{◌≡◌, ℕ, ◌&&◌, List, slice_get, Some, if◌then◌else◌}
use Rattle.histories.specs.History.{one_if}
use Rattle.iface_roles.specs.declared.records.HostPort.{HostPort}
use Rattle.iface_roles.specs.declared.records.AgentPort.{AgentPort}
use Rattle.link_rules.specs.declared.plan_connections.StreamConnection.{StreamConnection}
use Rattle.link_rules.specs.PlanConnections.{stream_connections}
use Rattle.link_rules.specs.Plans.{PlanTable}
use Rattle.netlist.specs.Netlists.{Netlist}
use Rattle.netlist.specs.Runs.{Run}
use Rattle.cycle_sim.specs.Standing.{IsClearedRun}
use Rattle.stream_runs.specs.Source.{IsLegalSource}
use Rattle.stream_runs.specs.Ends.{side_of}
use Rattle.st_timing.specs.Ends.{declared}
use Rattle.memory_runs.specs.Views.{AgentView, levels_at}
use Rattle.memory_runs.specs.Whole.{IsLegalRun}
use Rattle.memory_runs.specs.Sides.{agent_side}
use Rattle.memory_plans.specs.Systems.{memory_system}
use Rattle.interconnect.specs.Memory.{host_in, agent_in, module_run}
use Rattle.scenario_tables.specs.declared.statements.HostStatement.{HostStatement}
use Rattle.scenario_tables.specs.declared.statements.AgentStatement.{AgentStatement}
use Rattle.scenario_tables.specs.declared.statements.SourceStatement.{SourceStatement}
use Rattle.scenario_tables.specs.declared.statements.Pattern.{Pattern}
use Rattle.scenario_tables.specs.declared.scenario.Scenario.{Scenario}
use Rattle.scenario_tables.specs.Scenarios.{IsHostAt, IsAgentAt}
use Rattle.stand_ins.specs.Steps.{all_steps, shown}
use Rattle.stand_ins.specs.HostsStandIns.{left_before, IsHostStandIn}
use Rattle.stand_ins.specs.Answers.{is_due, word_due, waiting_before, word_behind}
use Rattle.stand_ins.specs.StandIns.{stall_pattern, stalls_in, code_in, IsAgentStandIn}
use Rattle.stand_ins.specs.Sources.{beat_shown, Shows, IsSourceStandIn}
use Rattle.stand_ins.specs.Sinks.{ready_in, IsSinkStandIn}
use Rattle.simulated_runs.specs.Ends.{stream_view}

-- A run of a module from cleared memories in which each interface of the plan does what its script says, in the cycles before
-- `end`
pub record IsSimulated (plan : PlanTable) (scenario : Scenario) (netlist : Netlist) (run : Run) (end : ℕ) : Type 0 where
  pub is_run : IsClearedRun netlist run end
  pub hosts : (h : ℕ) (port : HostPort) (script : List HostStatement) → IsHostAt plan.system h port
      → slice_get scenario.hosts h ≡ Some script → IsHostStandIn port script (host_in plan netlist run h) end
  pub agents : (a : ℕ) (port : AgentPort) (script : List AgentStatement) → IsAgentAt plan.system a port
      → slice_get scenario.agents a ≡ Some script → IsAgentStandIn port script (agent_in plan netlist run a) end
  pub sources : (s : ℕ) (link : StreamConnection) (script : List SourceStatement)
      → slice_get (stream_connections plan.system) s ≡ Some link → slice_get scenario.sources s ≡ Some script
      → IsSourceStandIn link.source script (stream_view plan.system netlist run link.source_end) end
  pub sinks : (s : ℕ) (link : StreamConnection) (script : List Pattern) → slice_get (stream_connections plan.system) s ≡ Some link
      → slice_get scenario.sinks s ≡ Some script
      → IsSinkStandIn script (stream_view plan.system netlist run link.sink_end) end

-- all components of a plan keep to what they declare, in the cycles before `end`
pub record AreLegal (plan : PlanTable) (netlist : Netlist) (run : Run) (end : ℕ) : Type 0 where
  pub memory : IsLegalRun (memory_system plan) (module_run plan netlist run) end
  pub sources : (s : ℕ) (link : StreamConnection) → slice_get (stream_connections plan.system) s ≡ Some link
      → IsLegalSource (side_of (declared link.source)) (stream_view plan.system netlist run link.source_end) end

-- ---- one cycle of a simulation

-- an agent shows in a cycle what its stand-in shows
pub record AgentShows (port : AgentPort) (script : List AgentStatement) (view : AgentView) (c : ℕ) : Type 0 where
  pub waitrequest : view.waitrequest c ≡ one_if (stalls_in (stall_pattern script) c)
  pub readdatavalid : view.readdatavalid c
      ≡ one_if (port.readdatavalid && is_due c (waiting_before (agent_side port) script view c))
  pub readdata : view.readdata c
      ≡ (if port.readdatavalid then word_due c (waiting_before (agent_side port) script view c)
      else word_behind (agent_side port) script view c)
  pub response : view.response c ≡ code_in port script view c

-- each interface of the plan does in a cycle what its script says
pub record AreShown (plan : PlanTable) (scenario : Scenario) (netlist : Netlist) (run : Run) (c : ℕ) : Type 0 where
  pub hosts : (h : ℕ) (port : HostPort) (script : List HostStatement) → IsHostAt plan.system h port
      → slice_get scenario.hosts h ≡ Some script
      → levels_at (host_in plan netlist run h).signals c
      ≡ shown port (left_before (all_steps port script) (host_in plan netlist run h).waitrequest c)
  pub agents : (a : ℕ) (port : AgentPort) (script : List AgentStatement) → IsAgentAt plan.system a port
      → slice_get scenario.agents a ≡ Some script → AgentShows port script (agent_in plan netlist run a) c
  pub sources : (s : ℕ) (link : StreamConnection) (script : List SourceStatement)
      → slice_get (stream_connections plan.system) s ≡ Some link → slice_get scenario.sources s ≡ Some script
      → Shows (stream_view plan.system netlist run link.source_end) c
      (beat_shown link.source script (stream_view plan.system netlist run link.source_end) c)
  pub sinks : (s : ℕ) (link : StreamConnection) (script : List Pattern) → slice_get (stream_connections plan.system) s ≡ Some link
      → slice_get scenario.sinks s ≡ Some script
      → (stream_view plan.system netlist run link.sink_end).ready c ≡ one_if (ready_in script c)
