-- All that stands in for components is legal.
use Rattle.std.proofs.Common.{◌≡◌, ℕ, zero, suc, [], ◌∷◌, arith, ◌<◌, List, length, slice_get, Some, refl, sym, ap, subst}
use Rattle.iface_roles.specs.declared.records.HostPort.{HostPort}
use Rattle.iface_roles.specs.declared.records.AgentPort.{AgentPort}
use Rattle.iface_roles.specs.declared.records.StreamPort.{StreamPort}
use Rattle.iface_roles.specs.declared.records.Finished.TheVariants.{Host, Agent}
use Rattle.system_tables.specs.declared.tables.EndId.{EndId}
use Rattle.system_tables.specs.Tables.{SystemTable, IsSystem}
use Rattle.address_map.specs.Footprints.{known_at}
use Rattle.address_map.specs.Maps.{hosts_of, agents_of}
use Rattle.link_rules.specs.declared.plan_connections.StreamConnection.{StreamConnection}
use Rattle.link_rules.specs.PlanConnections.{stream_connections, IsHostEnd, IsAgentEnd}
use Rattle.link_rules.specs.Plans.{PlanTable, IsPlan}
use Rattle.netlist.specs.Netlists.{Netlist}
use Rattle.netlist.specs.Runs.{Run}
use Rattle.stream_runs.specs.View.{EndView}
use Rattle.stream_runs.specs.Source.{IsLegalSource}
use Rattle.stream_runs.specs.Ends.{side_of}
use Rattle.st_timing.specs.Ends.{declared}
use Rattle.memory_runs.specs.Views.{HostSide, AgentSide, HostView, AgentView}
use Rattle.memory_runs.specs.Legal.{IsLegalHost, IsLegalAgent}
use Rattle.memory_runs.specs.Sides.{host_side, agent_side}
use Rattle.memory_plans.specs.Systems.{memory_system, side_of_host, side_of_agent}
use Rattle.port_tables.specs.EndFacts.{known_is}
use Rattle.interconnect.specs.Memory.{host_in, agent_in}
use Rattle.scenario_tables.specs.declared.statements.HostStatement.{HostStatement}
use Rattle.scenario_tables.specs.declared.statements.AgentStatement.{AgentStatement}
use Rattle.scenario_tables.specs.declared.statements.SourceStatement.{SourceStatement}
use Rattle.scenario_tables.specs.declared.scenario.Scenario.{Scenario}
use Rattle.scenario_tables.specs.Statements.{IsHostScript, IsSourceScript}
use Rattle.scenario_tables.specs.Scenarios.{IsScenario, IsHostAt, IsAgentAt}
use Rattle.stand_ins.specs.HostsStandIns.{IsHostStandIn}
use Rattle.stand_ins.specs.StandIns.{IsAgentStandIn}
use Rattle.stand_ins.specs.Sources.{IsSourceStandIn}
use Rattle.simulated_runs.specs.Ends.{stream_view}
use Rattle.simulated_runs.specs.Simulated.{IsSimulated}

-- an item of a list, below its length
pub record Has {X : Type 0} (items : List X) (k : ℕ) : Type 0 where
  pub item : X
  pub is : slice_get items k ≡ Some item

pub has : {X : Type 0} (items : List X) (k : ℕ) → k < length items → Has items k
has [] k h = absurd (omega arith)
has (first ∷ later) zero h = record { item = first; is = refl }
has (first ∷ later) (suc k) h = let rest = has later k (omega arith) in record { item = rest.item; is = rest.is }

-- ---- what is known of the laws

abbrev pub HostsAreKnown : Type 0
HostsAreKnown = (system : SystemTable) → IsSystem system → (number : ℕ) (end : EndId) → slice_get (hosts_of system) number ≡ Some end → IsHostEnd system end

abbrev pub AgentsAreKnown : Type 0
AgentsAreKnown = (system : SystemTable) → IsSystem system → (number : ℕ) (end : EndId) → slice_get (agents_of system) number ≡ Some end → IsAgentEnd system end

abbrev pub HostsAreLegal : Type 0
HostsAreLegal = (port : HostPort) (script : List HostStatement) (view : HostView) (end : ℕ) → IsHostScript port script → IsHostStandIn port script view end → IsLegalHost (host_side port) view end

abbrev pub AgentsAreLegal : Type 0
AgentsAreLegal = (port : AgentPort) (script : List AgentStatement) (view : AgentView) (end : ℕ) → IsAgentStandIn port script view end → IsLegalAgent (agent_side port) view end

abbrev pub SourcesAreLegal : Type 0
SourcesAreLegal = (port : StreamPort) (script : List SourceStatement) (view : EndView) (end : ℕ) → IsSourceScript port script → IsSourceStandIn port script view end
    → IsLegalSource (side_of (declared port)) view end

-- ---- hosts and agents

host_side_is : (plan : PlanTable) (h : ℕ) (end : EndId) (port : HostPort) → slice_get (hosts_of plan.system) h ≡ Some end → known_at plan.system end ≡ Host port → (memory_system plan).host h ≡ host_side port
host_side_is plan h end port at known = rw at (ap side_of_host known)

agent_side_is : (plan : PlanTable) (a : ℕ) (end : EndId) (port : AgentPort) → slice_get (agents_of plan.system) a ≡ Some end → known_at plan.system end ≡ Agent port → (memory_system plan).agent a ≡ agent_side port
agent_side_is plan a end port at known = rw at (ap side_of_agent known)

pub legal_host : (plan : PlanTable) (scenario : Scenario) (netlist : Netlist) (run : Run) (end : ℕ) → HostsAreKnown → HostsAreLegal → IsPlan plan → IsScenario plan.system scenario
    → IsSimulated plan scenario netlist run end → (h : ℕ) → h < length (hosts_of plan.system) → IsLegalHost ((memory_system plan).host h) (host_in plan netlist run h) end
legal_host plan scenario netlist run end known legal is_plan fits simulated h below =
    let there = has (hosts_of plan.system) h below in
    let host = known plan.system is_plan.system h there.item there.is in
    let is = known_is plan.system there.item (Host host.host) host.is in
    let script = has scenario.hosts h (subst (λ (n : ℕ). h < n) (sym fits.hosts) below) in
    let at : IsHostAt plan.system h host.host = record { end = there.item; end_is = there.is; is = is } in
    subst (λ (side : HostSide). IsLegalHost side (host_in plan netlist run h) end) (sym (host_side_is plan h there.item host.host there.is is))
    (legal host.host script.item (host_in plan netlist run h) end (fits.at_hosts h host.host script.item at script.is) (simulated.hosts h host.host script.item at script.is))

pub legal_agent : (plan : PlanTable) (scenario : Scenario) (netlist : Netlist) (run : Run) (end : ℕ) → AgentsAreKnown → AgentsAreLegal → IsPlan plan → IsScenario plan.system scenario
    → IsSimulated plan scenario netlist run end → (a : ℕ) → a < length (agents_of plan.system) → IsLegalAgent ((memory_system plan).agent a) (agent_in plan netlist run a) end
legal_agent plan scenario netlist run end known legal is_plan fits simulated a below =
    let there = has (agents_of plan.system) a below in
    let agent = known plan.system is_plan.system a there.item there.is in
    let is = known_is plan.system there.item (Agent agent.agent) agent.is in
    let script = has scenario.agents a (subst (λ (n : ℕ). a < n) (sym fits.agents) below) in
    let at : IsAgentAt plan.system a agent.agent = record { end = there.item; end_is = there.is; is = is } in
    subst (λ (side : AgentSide). IsLegalAgent side (agent_in plan netlist run a) end) (sym (agent_side_is plan a there.item agent.agent there.is is))
    (legal agent.agent script.item (agent_in plan netlist run a) end (simulated.agents a agent.agent script.item at script.is))

-- ---- sources

pub legal_source : (plan : PlanTable) (scenario : Scenario) (netlist : Netlist) (run : Run) (end : ℕ) → SourcesAreLegal → IsScenario plan.system scenario → IsSimulated plan scenario netlist run end
    → (s : ℕ) (link : StreamConnection) → slice_get (stream_connections plan.system) s ≡ Some link → s < length (stream_connections plan.system)
    → IsLegalSource (side_of (declared link.source)) (stream_view plan.system netlist run link.source_end) end
legal_source plan scenario netlist run end legal fits simulated s link at below =
    let script = has scenario.sources s (subst (λ (n : ℕ). s < n) (sym fits.sources) below) in
    legal link.source script.item (stream_view plan.system netlist run link.source_end) end
    (fits.at_sources s link script.item at script.is) (simulated.sources s link script.item at script.is)
