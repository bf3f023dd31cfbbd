-- A simulation with one cycle more.
use Rattle.std.proofs.Common.{◌≡◌, ℕ, suc, ◌&&◌, List, if◌then◌else◌}
use Rattle.histories.specs.History.{one_if}
use Rattle.iface_roles.specs.declared.records.HostPort.{HostPort}
use Rattle.iface_roles.specs.declared.records.AgentPort.{AgentPort}
use Rattle.iface_roles.specs.declared.records.StreamPort.{StreamPort}
use Rattle.link_rules.specs.Plans.{PlanTable}
use Rattle.netlist.specs.Netlists.{Netlist}
use Rattle.netlist.specs.Runs.{Run, Cycle}
use Rattle.cycle_sim.specs.Standing.{IsClearedRun, with_cycle}
use Rattle.stream_runs.specs.View.{EndView, AgreeBefore}
use Rattle.memory_runs.specs.Views.{HostView, AgentView, levels_at}
use Rattle.memory_runs.specs.Beginnings.{HostsAgree, AgentsAgree}
use Rattle.memory_runs.specs.Sides.{agent_side}
use Rattle.interconnect.specs.Memory.{host_in, agent_in}
use Rattle.scenario_tables.specs.declared.statements.HostStatement.{HostStatement}
use Rattle.scenario_tables.specs.declared.statements.AgentStatement.{AgentStatement}
use Rattle.scenario_tables.specs.declared.statements.SourceStatement.{SourceStatement}
use Rattle.scenario_tables.specs.declared.statements.Pattern.{Pattern}
use Rattle.scenario_tables.specs.declared.scenario.Scenario.{Scenario}
use Rattle.stand_ins.specs.Steps.{all_steps, shown}
use Rattle.stand_ins.specs.HostsStandIns.{left_before, IsHostStandIn}
use Rattle.stand_ins.specs.Answers.{is_due, word_due, waiting_before, word_behind}
use Rattle.stand_ins.specs.StandIns.{stall_pattern, stalls_in, code_in, IsAgentStandIn}
use Rattle.stand_ins.specs.Sources.{beat_shown, Shows, IsSourceStandIn}
use Rattle.stand_ins.specs.Sinks.{ready_in, IsSinkStandIn}
use Rattle.simulated_runs.specs.Ends.{stream_view}
use Rattle.simulated_runs.specs.Simulated.{IsSimulated, AreShown, AgentShows}
use Rattle.simulated_runs.proofs.Growing.{hosts_agree, agents_agree, streams_agree, grown}

abbrev pub HostsByBeginnings : Type 0
HostsByBeginnings = (port : HostPort) (script : List HostStatement) (one two : HostView) (end : ℕ) → HostsAgree one two end → IsHostStandIn port script one end → IsHostStandIn port script two end

abbrev pub AgentsByBeginnings : Type 0
AgentsByBeginnings = (port : AgentPort) (script : List AgentStatement) (one two : AgentView) (end : ℕ) → AgentsAgree one two end → IsAgentStandIn port script one end → IsAgentStandIn port script two end

abbrev pub SourcesByBeginnings : Type 0
SourcesByBeginnings = (port : StreamPort) (script : List SourceStatement) (one two : EndView) (end : ℕ) → AgreeBefore one two end → IsSourceStandIn port script one end → IsSourceStandIn port script two end

abbrev pub SinksByBeginnings : Type 0
SinksByBeginnings = (script : List Pattern) (one two : EndView) (end : ℕ) → AgreeBefore one two end → IsSinkStandIn script one end → IsSinkStandIn script two end

agent_goes_on : (port : AgentPort) (script : List AgentStatement) (view : AgentView) (c : ℕ) → IsAgentStandIn port script view c → AgentShows port script view c → IsAgentStandIn port script view (suc c)
agent_goes_on port script view c stands shows = record {
  waitrequest = grown (λ (k : ℕ). view.waitrequest k ≡ one_if (stalls_in (stall_pattern script) k)) c stands.waitrequest shows.waitrequest;
  readdatavalid = grown (λ (k : ℕ). view.readdatavalid k ≡ one_if (port.readdatavalid && is_due k (waiting_before (agent_side port) script view k))) c stands.readdatavalid shows.readdatavalid;
  readdata = grown (λ (k : ℕ). view.readdata k ≡ (if port.readdatavalid then word_due k (waiting_before (agent_side port) script view k) else word_behind (agent_side port) script view k)) c
      stands.readdata shows.readdata;
  response = grown (λ (k : ℕ). view.response k ≡ code_in port script view k) c stands.response shows.response;
}

pub goes_on : (plan : PlanTable) (scenario : Scenario) (netlist : Netlist) (run : Run) (c : ℕ) (cycle : Cycle)
    → HostsByBeginnings → AgentsByBeginnings → SourcesByBeginnings → SinksByBeginnings → IsSimulated plan scenario netlist run c
    → IsClearedRun netlist (with_cycle run c cycle) (suc c) → AreShown plan scenario netlist (with_cycle run c cycle) c → IsSimulated plan scenario netlist (with_cycle run c cycle) (suc c)
goes_on plan scenario netlist run c cycle hosts agents sources sinks simulated is_run shows =
    let next = with_cycle run c cycle in
    record {
      is_run = is_run;
      hosts = λ h port script at there. grown (λ (k : ℕ). levels_at (host_in plan netlist next h).signals k ≡ shown port (left_before (all_steps port script) (host_in plan netlist next h).waitrequest k)) c
          (hosts port script (host_in plan netlist run h) (host_in plan netlist next h) c (hosts_agree plan netlist run c cycle h) (simulated.hosts h port script at there))
          (shows.hosts h port script at there);
      agents = λ a port script at there. agent_goes_on port script (agent_in plan netlist next a) c
          (agents port script (agent_in plan netlist run a) (agent_in plan netlist next a) c (agents_agree plan netlist run c cycle a) (simulated.agents a port script at there))
          (shows.agents a port script at there);
      sources = λ s link script at there.
          let view = stream_view plan.system netlist next link.source_end in
          grown (λ (k : ℕ). Shows view k (beat_shown link.source script view k)) c
          (sources link.source script (stream_view plan.system netlist run link.source_end) view c (streams_agree plan netlist run c cycle link.source_end) (simulated.sources s link script at there))
          (shows.sources s link script at there);
      sinks = λ s link script at there.
          let view = stream_view plan.system netlist next link.sink_end in
          grown (λ (k : ℕ). view.ready k ≡ one_if (ready_in script k)) c
          (sinks script (stream_view plan.system netlist run link.sink_end) view c (streams_agree plan netlist run c cycle link.sink_end) (simulated.sinks s link script at there))
          (shows.sinks s link script at there);
    }
