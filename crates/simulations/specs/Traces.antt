-- The trace of a simulation: what is told of all interfaces of a plan in a run of its module.
use Rattle.std.specs.Prelude.{◌≡◌, ℕ, List, [], length, map, slice_get}
use Rattle.std.specs.Option.{option_map_or}
use Rattle.histories.specs.History.{numbers}
use Rattle.system_tables.specs.Tables.{SystemTable}
use Rattle.system_tables.specs.declared.tables.EndId.{EndId}
use Rattle.iface_roles.specs.declared.records.StreamPort.{StreamPort}
use Rattle.address_map.specs.Maps.{hosts_of, agents_of}
use Rattle.link_rules.specs.declared.plan_connections.StreamConnection.{StreamConnection}
use Rattle.link_rules.specs.PlanConnections.{stream_connections}
use Rattle.link_rules.specs.Plans.{PlanTable}
use Rattle.map_text.specs.Text.{end_name}
use Rattle.netlist.specs.Netlists.{Netlist}
use Rattle.netlist.specs.Runs.{Run}
use Rattle.stream_runs.specs.Ends.{side_of}
use Rattle.st_timing.specs.Ends.{declared}
use Rattle.memory_plans.specs.Systems.{memory_system}
use Rattle.port_tables.specs.Ports.{name_at}
use Rattle.interconnect.specs.Memory.{host_in, agent_in}
use Rattle.interconnect.specs.Streams.{dropped_signal}
use Rattle.scenario_tables.specs.declared.scenario.Scenario.{Scenario}
use Rattle.trace_lines.specs.declared.counts.Counts.{Counts}
use Rattle.trace_lines.specs.Told.{HostEnd, AgentEnd, StreamEnd, StreamEnds, RunEnds, trace_of}
use Rattle.trace_lines.specs.Counted.{counts_before}
use Rattle.simulated_runs.specs.Ends.{stream_view}
use Rattle.simulated_runs.specs.Simulated.{IsSimulated}
use Rattle.benches.specs.Writing.{text_of}

-- the name of the end of this number among some ends
abbrev pub name_in : SystemTable → List EndId → ℕ → List ℕ
name_in system ends number = option_map_or (end_name system) (slice_get ends number) []

-- the host, and the agent, of this number in a run of the plan's module
abbrev pub host_end : PlanTable → Netlist → Run → ℕ → HostEnd
host_end plan netlist run h =
    record
    { name = name_in plan.system (hosts_of plan.system) h; side = (memory_system plan).host h; view = host_in plan netlist run h }

abbrev pub agent_end : PlanTable → Netlist → Run → ℕ → AgentEnd
agent_end plan netlist run a =
    record {
      name =
          name_in plan.system (agents_of plan.system) a;
      side = (memory_system plan).agent a;
      view = agent_in plan netlist run a;
    }

-- an end of a stream
abbrev pub stream_end : PlanTable → Netlist → Run → EndId → StreamPort → StreamEnd
stream_end plan netlist run end port =
    record { name = end_name plan.system end; side = side_of (declared port); view = stream_view plan.system netlist run end }

-- both ends of a link, and where its beats are dropped
abbrev pub stream_ends : PlanTable → Netlist → Run → StreamConnection → StreamEnds
stream_ends plan netlist run link = record {
  source = stream_end plan netlist run link.source_end link.source;
  sink = stream_end plan netlist run link.sink_end link.sink;
  dropped = dropped_signal netlist run (name_at plan.system link.sink_end);
}

-- all interfaces of a plan in a run of its module, by their numbers
abbrev pub run_ends : PlanTable → Netlist → Run → RunEnds
run_ends plan netlist run = record {
  hosts = map (host_end plan netlist run) (numbers 0 (length (hosts_of plan.system)));
  agents = map (agent_end plan netlist run) (numbers 0 (length (agents_of plan.system)));
  streams = map (stream_ends plan netlist run) (stream_connections plan.system);
}

-- the text is that of the lines of a simulation of a scenario on a module
pub record IsTrace (plan : PlanTable) (scenario : Scenario) (netlist : Netlist) (text : List ℕ) : Type 0 where
  pub run : Run
  pub simulated : IsSimulated plan scenario netlist run scenario.cycles
  pub is_text : text ≡ text_of (trace_of (run_ends plan netlist run) scenario.cycles)

-- the counts are those of a simulation of a scenario on a module
pub record AreCounts (plan : PlanTable) (scenario : Scenario) (netlist : Netlist) (counts : Counts) : Type 0 where
  pub run : Run
  pub simulated : IsSimulated plan scenario netlist run scenario.cycles
  pub counted : counts ≡ counts_before (run_ends plan netlist run) scenario.cycles
