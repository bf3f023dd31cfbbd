-- A test bench under way: the module of a plan with what stands in for its components, as far as a run has come.
use Rattle.std.specs.Prelude.{◌≡◌, ℕ, List, ◌++◌, length, flat_map, slice_get, Some}
use Rattle.av_base.specs.Word.{Word}
use Rattle.address_map.specs.Maps.{hosts_of, agents_of}
use Rattle.link_rules.specs.PlanConnections.{stream_connections}
use Rattle.link_rules.specs.Plans.{PlanTable, IsPlan}
use Rattle.netlist.specs.Netlists.{Netlist, IsModule}
use Rattle.netlist.specs.Runs.{Run}
use Rattle.cycle_sim.specs.Sims.{SimValue, input_widths, widths_of}
use Rattle.cycle_sim.specs.Standing.{StandsFor}
use Rattle.memory_runs.specs.Legal.{Word as CodedWord}
use Rattle.port_tables.specs.Ports.{ports_of}
use Rattle.port_tables.specs.PortMaps.{HasKnownPorts}
use Rattle.port_rows.specs.Levels.{Level}
use Rattle.interconnect.specs.Interconnect.{IsInterconnect}
use Rattle.interconnect.specs.Memory.{host_in, agent_in}
use Rattle.scenario_tables.specs.declared.statements.HostStatement.{HostStatement}
use Rattle.scenario_tables.specs.declared.statements.AgentStatement.{AgentStatement}
use Rattle.scenario_tables.specs.declared.statements.SourceStatement.{SourceStatement}
use Rattle.scenario_tables.specs.declared.statements.Pattern.{Pattern}
use Rattle.scenario_tables.specs.declared.scenario.Scenario.{Scenario}
use Rattle.scenario_tables.specs.Scenarios.{IsScenario}
use Rattle.stand_ins.specs.Steps.{all_steps}
use Rattle.stand_ins.specs.HostsStandIns.{left_before}
use Rattle.stand_ins.specs.Whole.{StandsFor as AgentStandsFor}
use Rattle.stand_ins.specs.Sources.{keeping_at}
use Rattle.port_rows.specs.Agents.{AllHoldBytes, agent_levels}
use Rattle.simulated_runs.specs.Ends.{stream_view}
use Rattle.simulated_runs.specs.Simulated.{IsSimulated}
use Rattle.benches.specs.Hosts.{BenchHostValue, IsHostOf}
use Rattle.benches.specs.Hosts as of_hosts
use Rattle.benches.specs.Agents.{BenchAgentValue, IsAgentOf, levels_with}
use Rattle.benches.specs.Streams.{BenchStreamValue, IsStreamOf}
use Rattle.benches.specs.Streams as of_streams

-- a bench as contracts see it: the simulator, the row of its inputs, and the components
pub record BenchValue : Type 0 where
  pub sim : SimValue
  pub row : List Word
  pub hosts : List BenchHostValue
  pub agents : List BenchAgentValue
  pub streams : List BenchStreamValue

-- what an agent sets with a word on `readdata` and its code on `response`
abbrev pub sets_with : (BenchAgentValue → CodedWord) → BenchAgentValue → List Level
sets_with words agent = agent_levels agent.places (levels_with agent (words agent))

-- what all components set in a cycle, where the agents' words are these
abbrev pub all_levels : BenchValue → (BenchAgentValue → CodedWord) → List Level
all_levels bench words =
    flat_map of_hosts.sets bench.hosts ++ flat_map (sets_with words) bench.agents ++ flat_map of_streams.sets bench.streams

-- ---- what is simulated

-- a plan, a scenario for it, and its module
pub record IsSetUp (plan : PlanTable) (scenario : Scenario) (netlist : Netlist) : Type 0 where
  pub is_plan : IsPlan plan
  pub is_scenario : IsScenario plan.system scenario
  pub is_interconnect : IsInterconnect plan netlist
  pub is_module : IsModule netlist
  pub known : HasKnownPorts plan.system

-- ---- as a cycle begins

-- a host stands where a run has brought it
pub record HostStands (plan : PlanTable) (netlist : Netlist) (run : Run) (c h : ℕ) (script : List HostStatement)
    (host : BenchHostValue) : Type 0 where
  pub of : IsHostOf plan.system h host
  pub left : host.stand_in.left ≡ left_before (all_steps host.stand_in.port script) (host_in plan netlist run h).waitrequest c

-- so does an agent, with room for so many cycles in all
pub record AgentStands (plan : PlanTable) (netlist : Netlist) (run : Run) (c cycles a : ℕ) (script : List AgentStatement)
    (agent : BenchAgentValue) : Type 0 where
  pub of : IsAgentOf plan.system a agent
  pub cycle : agent.stand_in.cycle ≡ c
  pub cycles_are : agent.stand_in.cycles ≡ cycles
  pub bytes : AllHoldBytes script
  pub stands : AgentStandsFor script agent.stand_in (agent_in plan netlist run a)

-- and a stream
pub record StreamStands (plan : PlanTable) (netlist : Netlist) (run : Run) (c s : ℕ) (statements : List SourceStatement)
    (script : List Pattern) (stream : BenchStreamValue) : Type 0 where
  pub of : IsStreamOf plan.system s script stream
  pub cycle : stream.cycle ≡ c
  pub keeping : stream.keeping ≡ keeping_at stream.source statements (stream_view plan.system netlist run of.link.source_end) c

-- the components of a bench stand where a run has brought them
pub record ComponentsStand (plan : PlanTable) (scenario : Scenario) (netlist : Netlist) (run : Run) (c : ℕ)
    (bench : BenchValue) : Type 0 where
  pub host_count : length bench.hosts ≡ length (hosts_of plan.system)
  pub agent_count : length bench.agents ≡ length (agents_of plan.system)
  pub stream_count : length bench.streams ≡ length (stream_connections plan.system)
  pub hosts : (h : ℕ) (host : BenchHostValue) (script : List HostStatement) → slice_get bench.hosts h ≡ Some host
      → slice_get scenario.hosts h ≡ Some script → HostStands plan netlist run c h script host
  pub agents : (a : ℕ) (agent : BenchAgentValue) (script : List AgentStatement) → slice_get bench.agents a ≡ Some agent
      → slice_get scenario.agents a ≡ Some script
      → AgentStands plan netlist run c scenario.cycles a script agent
  pub streams : (s : ℕ) (stream : BenchStreamValue) (statements : List SourceStatement) (script : List Pattern)
      → slice_get bench.streams s ≡ Some stream
      → slice_get scenario.sources s ≡ Some statements → slice_get scenario.sinks s ≡ Some script
      → StreamStands plan netlist run c s statements script stream

-- the bench stands behind the cycles before c of a run that simulates the scenario
pub record IsUnderWay (plan : PlanTable) (scenario : Scenario) (run : Run) (c : ℕ) (bench : BenchValue) : Type 0 where
  pub simulated : IsSimulated plan scenario bench.sim.netlist run c
  pub stands : StandsFor bench.sim run c
  pub row : widths_of bench.row ≡ input_widths (ports_of plan.system)
  pub components : ComponentsStand plan scenario bench.sim.netlist run c bench
