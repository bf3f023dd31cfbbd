-- The interfaces of a plan in a run, as a bench has them.
use Rattle.std.proofs.Common.{◌≡◌, ℕ, List, [], Option, Some, slice_get, refl, sym, ap₂, ◌∙◌}
use Rattle.std.specs.Option.{option_map_or}
use Rattle.system_tables.specs.declared.tables.EndId.{EndId}
use Rattle.system_tables.specs.Tables.{SystemTable}
use Rattle.address_map.specs.Maps.{hosts_of, agents_of}
use Rattle.iface_roles.specs.declared.records.StreamPort.{StreamPort}
use Rattle.link_rules.specs.Plans.{PlanTable}
use Rattle.map_text.specs.Text.{end_name}
use Rattle.netlist.specs.Netlists.{Netlist}
use Rattle.netlist.specs.Runs.{Run}
use Rattle.stream_runs.specs.View.{EndView}
use Rattle.stream_runs.specs.Ends.{side_of}
use Rattle.st_timing.specs.Ends.{declared}
use Rattle.memory_runs.specs.Views.{HostSide, HostView, AgentSide, AgentView}
use Rattle.memory_runs.specs.Sides.{host_side, agent_side}
use Rattle.memory_plans.specs.Systems.{memory_system}
use Rattle.port_tables.specs.Ports.{name_at}
use Rattle.interconnect.specs.Memory.{host_in, agent_in}
use Rattle.interconnect.specs.Streams.{dropped_signal}
use Rattle.scenario_tables.specs.declared.statements.Pattern.{Pattern}
use Rattle.simulated_runs.specs.Ends.{stream_view}
use Rattle.trace_lines.specs.Told.{HostEnd, AgentEnd, StreamEnd, StreamEnds}
use Rattle.benches.specs.Hosts.{BenchHostValue, IsHostOf}
use Rattle.benches.specs.Agents.{BenchAgentValue, IsAgentOf}
use Rattle.benches.specs.Streams.{BenchStreamValue, IsStreamOf, ends_of_bench}
use Rattle.simulations.specs.Traces.{agent_end, host_end, name_in, stream_ends}
use Rattle.simulations.proofs.Ends.{host_side_is, agent_side_is}

name_found : (system : SystemTable) (found : Option EndId) (end : EndId) → found ≡ Some end → option_map_or (end_name system) found [] ≡ end_name system end
name_found system found end is = rw is refl

same_host_ends : (name other : List ℕ) (side own : HostSide) (view : HostView) → name ≡ other → side ≡ own →
    let one : HostEnd = record { name = name; side = side; view = view } in
    let two : HostEnd = record { name = other; side = own; view = view } in
    one ≡ two
same_host_ends name other side own view a b = rw (a, b) refl

same_agent_ends : (name other : List ℕ) (side own : AgentSide) (view : AgentView) → name ≡ other → side ≡ own →
    let one : AgentEnd = record { name = name; side = side; view = view } in
    let two : AgentEnd = record { name = other; side = own; view = view } in
    one ≡ two
same_agent_ends name other side own view a b = rw (a, b) refl

pub host_end_is : (plan : PlanTable) (netlist : Netlist) (run : Run) (h : ℕ) (host : BenchHostValue) → IsHostOf plan.system h host →
    let end : HostEnd = record { name = host.name; side = host_side host.stand_in.port; view = host_in plan netlist run h } in
    host_end plan netlist run h ≡ end
host_end_is plan netlist run h host of =
    same_host_ends (name_in plan.system (hosts_of plan.system) h) host.name ((memory_system plan).host h) (host_side host.stand_in.port) (host_in plan netlist run h)
    (name_found plan.system (slice_get (hosts_of plan.system) h) of.at.end of.at.end_is ∙ sym of.name) (host_side_is plan h host.stand_in.port of.at)

-- an agent of a bench with its view
abbrev pub told_end : BenchAgentValue → AgentView → AgentEnd
told_end agent view = record { name = agent.name; side = agent_side agent.stand_in.port; view = view }

pub agent_end_is : (plan : PlanTable) (netlist : Netlist) (run : Run) (a : ℕ) (agent : BenchAgentValue) → IsAgentOf plan.system a agent → agent_end plan netlist run a ≡ told_end agent (agent_in plan netlist run a)
agent_end_is plan netlist run a agent of =
    same_agent_ends (name_in plan.system (agents_of plan.system) a) agent.name ((memory_system plan).agent a) (agent_side agent.stand_in.port) (agent_in plan netlist run a)
    (name_found plan.system (slice_get (agents_of plan.system) a) of.at.end of.at.end_is ∙ sym of.name) (agent_side_is plan a agent.stand_in.port of.at)

same_ends : (name other : List ℕ) (port own : StreamPort) (view : EndView) → name ≡ other → port ≡ own →
    let one : StreamEnd = record { name = name; side = side_of (declared port); view = view } in
    let two : StreamEnd = record { name = other; side = side_of (declared own); view = view } in
    one ≡ two
same_ends name other port own view a b = rw (a, b) refl

pub stream_ends_are : (plan : PlanTable) (netlist : Netlist) (run : Run) (s : ℕ) (script : List Pattern) (stream : BenchStreamValue) (of : IsStreamOf plan.system s script stream)
    → stream_ends plan netlist run of.link
    ≡ ends_of_bench stream (stream_view plan.system netlist run of.link.source_end) (stream_view plan.system netlist run of.link.sink_end) (dropped_signal netlist run (name_at plan.system of.link.sink_end))
stream_ends_are plan netlist run s script stream of =
    ap₂ (λ (source sink : StreamEnd). let both : StreamEnds = record { source = source; sink = sink; dropped = dropped_signal netlist run (name_at plan.system of.link.sink_end) } in both)
    (same_ends (end_name plan.system of.link.source_end) stream.source_name of.link.source stream.source (stream_view plan.system netlist run of.link.source_end) (sym of.source_name) (sym of.source))
    (same_ends (end_name plan.system of.link.sink_end) stream.sink_name of.link.sink stream.sink (stream_view plan.system netlist run of.link.sink_end) (sym of.sink_name) (sym of.sink))
