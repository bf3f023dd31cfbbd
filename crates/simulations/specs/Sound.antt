-- What is known of the components of a bench under way, by the plan and the scenario.
use Rattle.std.specs.Prelude.{◌≡◌, ◌≤◌, ℕ, List, slice_get, Some, unwrap_or, IsFalse}
use Rattle.iface_roles.specs.Proper.{IsBoundedHost, IsBoundedAgent}
use Rattle.iface_roles.specs.Records.{ready_latency}
use Rattle.link_rules.specs.Plans.{PlanTable}
use Rattle.netlist.specs.Netlists.{Netlist}
use Rattle.netlist.specs.Runs.{Run}
use Rattle.cycle_sim.specs.Sims.{SimValue}
use Rattle.memory_runs.specs.Views.{levels_at}
use Rattle.memory_runs.specs.Legal.{Word as CodedWord}
use Rattle.port_tables.specs.Ports.{name_at}
use Rattle.interconnect.specs.Memory.{host_in, agent_in}
use Rattle.interconnect.specs.Streams.{dropped_signal}
use Rattle.scenario_tables.specs.declared.statements.HostStatement.{HostStatement}
use Rattle.scenario_tables.specs.declared.statements.AgentStatement.{AgentStatement}
use Rattle.scenario_tables.specs.declared.statements.SourceStatement.{SourceStatement}
use Rattle.scenario_tables.specs.declared.statements.Pattern.{Pattern}
use Rattle.scenario_tables.specs.declared.scenario.Scenario.{Scenario}
use Rattle.scenario_tables.specs.Statements.{IsHostScript, IsAgentScript, IsSourceScript, IsSinkScript}
use Rattle.stand_ins.specs.Sources.{no_beat}
use Rattle.port_rows.specs.Hosts.{FitsPorts as FitsHostPorts}
use Rattle.port_rows.specs.Agents.{FitsPorts as FitsAgentPorts, AreShownBy}
use Rattle.port_rows.specs.Sources.{FitsSource}
use Rattle.port_rows.specs.Sinks.{FitsReady}
use Rattle.simulated_runs.specs.Ends.{stream_view}
use Rattle.benches.specs.Outputs.{level_now}
use Rattle.benches.specs.Hosts.{BenchHostValue}
use Rattle.benches.specs.Hosts as of_hosts
use Rattle.benches.specs.Agents.{BenchAgentValue, commanded, levels_with}
use Rattle.benches.specs.Streams.{BenchStreamValue, IsStreamOf, is_ready}
use Rattle.benches.specs.Streams as of_streams
use Rattle.simulations.specs.Benches.{BenchValue, HostStands, AgentStands, StreamStands}

-- ---- as a cycle begins

pub record IsSoundHost (plan : PlanTable) (scenario : Scenario) (netlist : Netlist) (run : Run) (c h : ℕ)
    (host : BenchHostValue) : Type 0 where
  pub script : List HostStatement
  pub script_is : slice_get scenario.hosts h ≡ Some script
  pub fits : IsHostScript host.stand_in.port script
  pub bounded : IsBoundedHost host.stand_in.port
  pub stands : HostStands plan netlist run c h script host

-- an agent that doesn't read is read in no run
pub record IsSoundAgent (plan : PlanTable) (scenario : Scenario) (netlist : Netlist) (run : Run) (c a : ℕ)
    (agent : BenchAgentValue) : Type 0 where
  pub script : List AgentStatement
  pub script_is : slice_get scenario.agents a ≡ Some script
  pub fits : IsAgentScript agent.stand_in.port script
  pub bounded : IsBoundedAgent agent.stand_in.port
  pub stands : AgentStands plan netlist run c scenario.cycles a script agent
  pub unread : IsFalse agent.stand_in.port.reads → (other : Run) (d : ℕ) → (agent_in plan netlist other a).signals.read d ≡ 0

pub record IsSoundStream (plan : PlanTable) (scenario : Scenario) (netlist : Netlist) (run : Run) (c s : ℕ)
    (stream : BenchStreamValue) : Type 0 where
  pub statements : List SourceStatement
  pub statements_are : slice_get scenario.sources s ≡ Some statements
  pub script : List Pattern
  pub script_is : slice_get scenario.sinks s ≡ Some script
  pub source_fits : IsSourceScript stream.source statements
  pub sink_fits : IsSinkScript stream.sink stream.script
  pub soon : ready_latency stream.source ≤ 8
  pub stands : StreamStands plan netlist run c s statements script stream

-- ---- in a cycle

-- what the components show fits their ports, where the agents' words are these
pub record AllFitPorts (bench : BenchValue) (words : BenchAgentValue → CodedWord) : Type 0 where
  pub hosts : (h : ℕ) (host : BenchHostValue) → slice_get bench.hosts h ≡ Some host
      → FitsHostPorts host.stand_in.port (of_hosts.shown_by host)
  pub agents : (a : ℕ) (agent : BenchAgentValue) → slice_get bench.agents a ≡ Some agent
      → FitsAgentPorts agent.stand_in.port (levels_with agent (words agent))
  pub sources : (s : ℕ) (stream : BenchStreamValue) → slice_get bench.streams s ≡ Some stream
      → FitsSource stream.source (unwrap_or (of_streams.shown_by stream) no_beat)
  pub sinks : (s : ℕ) (stream : BenchStreamValue) → slice_get bench.streams s ≡ Some stream
      → FitsReady stream.sink (is_ready stream)

-- a run shows in a cycle what an agent sets with this word and code, and what stands at the outputs that command it
pub record AgentIsShown (plan : PlanTable) (netlist : Netlist) (run : Run) (k a : ℕ) (sim : SimValue) (agent : BenchAgentValue)
    (answer : CodedWord) : Type 0 where
  pub shown : AreShownBy (agent_in plan netlist run a) k (levels_with agent answer)
  pub commanded_is : levels_at (agent_in plan netlist run a).signals k ≡ commanded agent sim
  pub granted : (agent_in plan netlist run a).grant k ≡ level_now sim 0 agent.ports.grant

-- it shows that of all hosts and agents
pub record MemoryIsShown (plan : PlanTable) (netlist : Netlist) (run : Run) (k : ℕ) (sim : SimValue) (bench : BenchValue)
    (words : BenchAgentValue → CodedWord) : Type 0 where
  pub hosts : (h : ℕ) (host : BenchHostValue) → slice_get bench.hosts h ≡ Some host
      → of_hosts.IsSeen (host_in plan netlist run h) k sim host
  pub agents : (a : ℕ) (agent : BenchAgentValue) → slice_get bench.agents a ≡ Some agent
      → AgentIsShown plan netlist run k a sim agent (words agent)

-- and that of all streams
abbrev pub StreamsAreShown : PlanTable → Netlist → Run → SimValue → BenchValue → Type 0
StreamsAreShown plan netlist run sim bench =
    (s : ℕ) (stream : BenchStreamValue) → slice_get bench.streams s ≡ Some stream
    → (script : List Pattern) (of : IsStreamOf plan.system s script stream)
    → of_streams.IsSeen (stream_view plan.system netlist run of.link.source_end)
    (stream_view plan.system netlist run of.link.sink_end)
    (dropped_signal netlist run (name_at plan.system of.link.sink_end)) sim stream
