-- A bench before its first cycle.
use Rattle.std.proofs.Common.{◌≡◌, ◌<◌, ℕ, not, List, [], ◌∷◌, map, filter, refl, ap, ◌∙◌, arith}
use Rattle.av_base.specs.Word.{word}
use Rattle.link_rules.specs.Plans.{PlanTable}
use Rattle.netlist.specs.declared.line.PortLine.{PortLine}
use Rattle.netlist.specs.Netlists.{Netlist}
use Rattle.netlist.specs.Runs.{Run}
use Rattle.cycle_sim.specs.Sims.{input_widths, widths_of}
use Rattle.cycle_sim.specs.Standing.{IsClearedRun, StandsFor}
use Rattle.memory_runs.specs.Views.{AgentView}
use Rattle.port_tables.specs.Ports.{ports_of}
use Rattle.port_rows.specs.Rows.{blank_row}
use Rattle.interconnect.specs.Memory.{agent_in}
use Rattle.iface_roles.specs.declared.records.AgentPort.{AgentPort}
use Rattle.scenario_tables.specs.declared.statements.AgentStatement.{AgentStatement}
use Rattle.scenario_tables.specs.declared.scenario.Scenario.{Scenario}
use Rattle.stand_ins.specs.Whole.{AgentStandInValue, IsFirst, StandsFor as AgentStandsFor}
use Rattle.simulated_runs.specs.Ends.{stream_view}
use Rattle.simulated_runs.specs.Simulated.{IsSimulated}
use Rattle.benches.specs.Hosts.{AreFirstHosts}
use Rattle.benches.specs.Agents.{AreFirstAgents}
use Rattle.benches.specs.Streams.{AreFirstStreams}
use Rattle.simulations.specs.Benches.{BenchValue, ComponentsStand, IsUnderWay}

none_before : {A : Type 0} (c : ℕ) → c < 0 → A
none_before {A} c before = absurd (omega arith)

-- a blank row has the widths of the inputs
each_wide : (ports : List PortLine) → widths_of (map (λ (port : PortLine). word port.width 0) ports) ≡ map (λ (port : PortLine). port.width) ports
each_wide [] = refl
each_wide (port ∷ ports) = ap (λ (widths : List ℕ). port.width ∷ widths) (each_wide ports)

pub blank_widths : (ports : List PortLine) → widths_of (blank_row ports) ≡ input_widths ports
blank_widths ports = each_wide (filter (λ (port : PortLine). not port.output) ports)

abbrev AgentsBegin : Type 0
AgentsBegin = (port : AgentPort) (script : List AgentStatement) (cycles : ℕ) (agent : AgentStandInValue) (view : AgentView) → IsFirst port script cycles agent → AgentStandsFor script agent view

-- no cycle is simulated yet
none_simulated : (plan : PlanTable) (scenario : Scenario) (netlist : Netlist) (run : Run) → IsClearedRun netlist run 0 → IsSimulated plan scenario netlist run 0
none_simulated plan scenario netlist run cleared = record {
  is_run = cleared;
  hosts = λ h port script at there. λ c before. none_before c before;
  agents = λ a port script at there. record {
    waitrequest = λ c before. none_before c before;
    readdatavalid = λ c before. none_before c before;
    readdata = λ c before. none_before c before;
    response = λ c before. none_before c before;
  };
  sources = λ s link script at there. λ c before. none_before c before;
  sinks = λ s link script at there. λ c before. none_before c before;
}

-- the components stand before their first statements
first_components : AgentsBegin → (plan : PlanTable) (scenario : Scenario) (netlist : Netlist) (run : Run) (bench : BenchValue)
    → AreFirstHosts plan.system scenario.hosts bench.hosts
    → AreFirstAgents plan.system scenario.agents scenario.cycles bench.agents
    → AreFirstStreams plan.system scenario.sources scenario.sinks bench.streams → ComponentsStand plan scenario netlist run 0 bench
first_components begins plan scenario netlist run bench hosts agents streams = record {
  host_count = hosts.count;
  agent_count = agents.count;
  stream_count = streams.count;
  hosts = λ h host script at there. let first = hosts.each h host script at there in record { of = first.of; left = first.left };
  agents = λ a agent script at there. let is = agents.each a agent script at there in record {
    of = is.of;
    cycle = is.first.cycle;
    cycles_are = is.first.cycles_are;
    bytes = is.bytes;
    stands = begins agent.stand_in.port script scenario.cycles agent.stand_in (agent_in plan netlist run a) is.first;
  };
  streams = λ s stream statements script at there sink. let first = streams.each s stream statements script at there sink in record {
    of = first.of;
    cycle = first.cycle;
    keeping = first.keeping (stream_view plan.system netlist run first.of.link.source_end);
  };
}

-- so the bench is under way, whatever the run
pub first_under_way : AgentsBegin → (plan : PlanTable) (scenario : Scenario) (run : Run) (bench : BenchValue) → StandsFor bench.sim run 0 → (ports : List PortLine) → bench.row ≡ blank_row ports → ports ≡ ports_of plan.system
    → AreFirstHosts plan.system scenario.hosts bench.hosts
    → AreFirstAgents plan.system scenario.agents scenario.cycles bench.agents
    → AreFirstStreams plan.system scenario.sources scenario.sinks bench.streams → IsUnderWay plan scenario run 0 bench
first_under_way begins plan scenario run bench stands ports row is hosts agents streams = record {
  simulated = none_simulated plan scenario bench.sim.netlist run stands.passed;
  stands = stands;
  row = ap widths_of row ∙ blank_widths ports ∙ ap input_widths is;
  components = first_components begins plan scenario bench.sim.netlist run bench hosts agents streams;
}
