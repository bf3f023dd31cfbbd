-- What is told of runs that show the same before a cycle, and counted in them.
use Rattle.std.proofs.Common.{◌≡◌, ◌<◌, ◌==◌, ℕ, List, ◌++◌, length, ap, ap₂}
use Rattle.histories.specs.History.{numbers, one_if}
use Rattle.address_map.specs.Maps.{hosts_of, agents_of}
use Rattle.link_rules.specs.declared.plan_connections.StreamConnection.{StreamConnection}
use Rattle.link_rules.specs.PlanConnections.{stream_connections}
use Rattle.link_rules.specs.Plans.{PlanTable}
use Rattle.netlist.specs.Netlists.{Netlist}
use Rattle.netlist.specs.Runs.{Run}
use Rattle.stream_runs.specs.Ends.{side_of}
use Rattle.stream_runs.specs.View.{is_high}
use Rattle.st_timing.specs.Ends.{declared}
use Rattle.memory_runs.specs.Beginnings.{AgentsAgree}
use Rattle.memory_runs.specs.Commands.{agent_accepts, transfer_at}
use Rattle.memory_runs.specs.Legal.{gives_word}
use Rattle.memory_runs.specs.Views.{AgentSide, AgentView}
use Rattle.map_text.specs.Text.{end_name}
use Rattle.memory_plans.specs.Systems.{memory_system}
use Rattle.port_tables.specs.Ports.{name_at}
use Rattle.interconnect.specs.Memory.{host_in, agent_in}
use Rattle.interconnect.specs.Streams.{dropped_signal}
use Rattle.simulated_runs.specs.Ends.{stream_view}
use Rattle.trace_lines.specs.Told.{HostEnd, StreamEnds, told_in, told_of_host, told_of_agent, told_of_stream}
use Rattle.trace_lines.specs.Sums.{beats_taken_in, symbols_delivered_in, counts_in}
use Rattle.simulations.specs.Agreeing.{InterfacesAgree}
use Rattle.simulations.specs.Traces.{agent_end, host_end, name_in, run_ends, stream_ends}
use Rattle.simulations.proofs.Told.{flat_same, same_agent, same_beats, same_counts, same_given, same_host, same_stream, same_symbols, sum_same}

abbrev AcceptedAlike : Type 0
AcceptedAlike = (side : AgentSide) (one two : AgentView) (end c : ℕ) → AgentsAgree one two end → c < end → agent_accepts side one c ≡ agent_accepts side two c

abbrev TransfersAlike : Type 0
TransfersAlike = (side : AgentSide) (one two : AgentView) (end c : ℕ) → AgentsAgree one two end → c < end
    → transfer_at side.shape one.signals (agent_accepts side one) c ≡ transfer_at side.shape two.signals (agent_accepts side two) c

module _ (accepted : AcceptedAlike) (transfer : TransfersAlike) (plan : PlanTable) (netlist : Netlist) (one two : Run) (end : ℕ) (all : InterfacesAgree plan netlist one two end) (k : ℕ) (low : k < end) where
  pub same_lines : told_in (run_ends plan netlist one) k ≡ told_in (run_ends plan netlist two) k
  same_lines =
      let system = plan.system in
      let hosts = flat_same (told_of_host k) (host_end plan netlist one) (host_end plan netlist two) (numbers 0 (length (hosts_of system))) (λ h. (
      let agree = all.memory.hosts h in
      same_host k (name_in system (hosts_of system) h) ((memory_system plan).host h) (host_in plan netlist one h) (host_in plan netlist two h) (agree.signals k low) (agree.waitrequest k low)
      (agree.readdatavalid k low) (agree.readdata k low) (agree.response k low))) in
      let agents = flat_same (told_of_agent k) (agent_end plan netlist one) (agent_end plan netlist two) (numbers 0 (length (agents_of system))) (λ a. (
      let agree = all.memory.agents a in
      let side = (memory_system plan).agent a in
      let left = agent_in plan netlist one a in
      let right = agent_in plan netlist two a in
      same_agent k (name_in system (agents_of system) a) side left right (accepted side left right end k agree low) (transfer side left right end k agree low) (agree.signals k low) (agree.grant k low))) in
      let streams = flat_same (told_of_stream k) (stream_ends plan netlist one) (stream_ends plan netlist two) (stream_connections system) (λ (link : StreamConnection). (
      let source = all.streams link.source_end in
      let sink = all.streams link.sink_end in
      same_stream k (end_name system link.source_end) (end_name system link.sink_end) (side_of (declared link.source)) (side_of (declared link.sink))
      (stream_view system netlist one link.source_end) (stream_view system netlist two link.source_end) (stream_view system netlist one link.sink_end) (stream_view system netlist two link.sink_end)
      (dropped_signal netlist one (name_at system link.sink_end)) (dropped_signal netlist two (name_at system link.sink_end))
      (record { valid = source.valid k low; beat = source.beat k low; ready = source.ready k low }) (record { valid = sink.valid k low; beat = sink.beat k low; ready = sink.ready k low })
      (all.dropped link.sink_end k low))) in
      ap₂ (λ (x y : List (List ℕ)). x ++ y) (ap₂ (λ (x y : List (List ℕ)). x ++ y) hosts agents) streams

  pub same_sums : counts_in (run_ends plan netlist one) k ≡ counts_in (run_ends plan netlist two) k
  same_sums =
      let system = plan.system in
      let given = sum_same (λ (host : HostEnd). one_if (gives_word host.side host.view k)) (host_end plan netlist one) (host_end plan netlist two) (numbers 0 (length (hosts_of system))) (λ h. (
      let agree = all.memory.hosts h in
      ap one_if (same_given k ((memory_system plan).host h) (host_in plan netlist one h) (host_in plan netlist two h) (agree.signals k low) (agree.waitrequest k low) (agree.readdatavalid k low)))) in
      let taken = sum_same (beats_taken_in k) (agent_end plan netlist one) (agent_end plan netlist two) (numbers 0 (length (agents_of system))) (λ a. (
      let agree = all.memory.agents a in
      let side = (memory_system plan).agent a in
      let left = agent_in plan netlist one a in
      let right = agent_in plan netlist two a in
      same_beats k (name_in system (agents_of system) a) side left right (accepted side left right end k agree low) (transfer side left right end k agree low))) in
      let delivered = sum_same (symbols_delivered_in k) (stream_ends plan netlist one) (stream_ends plan netlist two) (stream_connections system) (λ (link : StreamConnection). (
      let sink = all.streams link.sink_end in
      same_symbols k (end_name system link.source_end) (end_name system link.sink_end) (side_of (declared link.source)) (side_of (declared link.sink))
      (stream_view system netlist one link.source_end) (stream_view system netlist two link.source_end) (stream_view system netlist one link.sink_end) (stream_view system netlist two link.sink_end)
      (dropped_signal netlist one (name_at system link.sink_end)) (dropped_signal netlist two (name_at system link.sink_end))
      (record { valid = sink.valid k low; beat = sink.beat k low; ready = sink.ready k low }))) in
      let dropped = sum_same (λ (stream : StreamEnds). one_if (is_high stream.dropped k)) (stream_ends plan netlist one) (stream_ends plan netlist two) (stream_connections system) (λ (link : StreamConnection).
      ap (λ (level : ℕ). one_if (level == 1)) (all.dropped link.sink_end k low)) in
      same_counts _ _ _ _ _ _ _ _ taken given delivered dropped
