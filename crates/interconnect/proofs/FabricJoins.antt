-- Hosts and agents joined by what stands between them: what the steps ask for and leave.
use Rattle.std.proofs.Common.{◌≡◌, ℕ, ◌+◌, ◌<◌, List, length, get_or, slice_get, Some, sym, ap, subst, ◌∙◌, arith}
use Rattle.std.proofs.lemmas.Option.{same_Some, slice_get-get_or, slice_get_within}
use Rattle.iface_roles.specs.declared.kinds.Side.{Side}
use Rattle.iface_roles.specs.declared.kinds.Side.TheVariants.{Start, End}
use Rattle.iface_roles.specs.declared.records.Finished.TheVariants.{Host, Agent}
use Rattle.system_tables.specs.declared.tables.EndId.{EndId}
use Rattle.system_tables.specs.Tables.{SystemTable}
use Rattle.address_map.specs.Footprints.{known_at}
use Rattle.address_map.specs.Maps.{mm_ends, hosts_of, agents_of}
use Rattle.link_rules.specs.Plans.{PlanTable}
use Rattle.netlist.specs.declared.line.Line.{Line}
use Rattle.netlist.specs.declared.line.Memory.{Memory}
use Rattle.netlist.specs.Netlists.{Netlist, driver_of, input_count}
use Rattle.netlist.specs.Longer.{Extends}
use Rattle.net_parts.specs.Laws.{extends_twice}
use Rattle.memory_plans.specs.Routes.{routes_of}
use Rattle.mm_fabric.specs.declared.parts.HostPart.{HostPart}
use Rattle.mm_fabric.specs.declared.parts.AgentPart.{AgentPart}
use Rattle.mm_fabric.specs.declared.fabric.FabricParts.{FabricParts}
use Rattle.mm_fabric.specs.Parts.{IsHostPart, IsAgentPart}
use Rattle.mm_fabric.specs.Fabrics.{Fabric, IsFabric}
use Rattle.mm_fabric.specs.Ends.{HasParts, AreParts}
use Rattle.mm_fabric.specs.Lasting.{agent_part_lasts, fabric_lasts}
use Rattle.port_tables.specs.Lists.{among_at}
use Rattle.port_tables.specs.Ports.{ports_of}
use Rattle.port_tables.specs.PortMaps.{HasKnownPorts, port_at}
use Rattle.interconnect.specs.Outputs.{HasSameNets}
use Rattle.interconnect.specs.Each.{MayDriveEach, AreEachDriven, IsNoPortOfEach}
use Rattle.interconnect.specs.Hosts.{host_outputs}
use Rattle.interconnect.specs.Agents.{agent_outputs}
use Rattle.interconnect.specs.Fabrics.{ArePartsOf, AddsFabric, HasFabric}
use Rattle.interconnect.specs.Joins.{IsBegun, IsJoinedUpTo}
use Rattle.interconnect.proofs.Driving.{undriven_where, same-trans, stay_driven, same_drivers, low_stays, waiting_as, unwritten_as}
use Rattle.interconnect.proofs.Apart.{host_end, agent_end, other_sort}
use Rattle.interconnect.proofs.Each.{AreEnds}
use Rattle.interconnect.proofs.Passing.{there_at}
use Rattle.interconnect.proofs.Links.{some_agent}
use Rattle.interconnect.proofs.HostPorts.{host_ports_are, agent_ports_are, host_may, agent_may}

-- ---- the ends

pub hosts_are_ends : (system : SystemTable) → HasKnownPorts system → AreEnds system (hosts_of system)
hosts_are_ends system h k end at = (host_end system end h.planned (among_at (hosts_of system) k end at)).among

pub agents_are_ends : (system : SystemTable) → HasKnownPorts system → AreEnds system (agents_of system)
agents_are_ends system h k end at = (agent_end system end h.planned (among_at (agents_of system) k end at)).among

-- what the law of the numbers of ends says
abbrev pub HaveOneNumber : SystemTable → Type 0
HaveOneNumber system = (side : Side) (j k : ℕ) (end : EndId) → slice_get (mm_ends side system) j ≡ Some end → slice_get (mm_ends side system) k ≡ Some end → j ≡ k

-- ---- the parts as a fabric

-- by their numbers; past the lists these
abbrev pub fabric_of : FabricParts → HostPart → AgentPart → Fabric
fabric_of parts host agent = record { host = λ h. get_or parts.hosts h host; agent = λ a. get_or parts.agents a agent }

pub record IsFabricOf (plan : PlanTable) (netlist : Netlist) (parts : FabricParts) : Type 0 where
  pub fabric : Fabric
  pub has : HasParts plan parts fabric
  pub is : IsFabric plan netlist fabric

pub fabric_there : (plan : PlanTable) (netlist : Netlist) (parts : FabricParts) → 0 < length (hosts_of plan.system) → ArePartsOf plan.system parts → AreParts plan netlist parts → IsFabricOf plan netlist parts
fabric_there plan netlist parts some of stands =
    let agents = some_agent plan.system some in
    let many_hosts = of.many_hosts in
    let many_agents = of.many_agents in
    let host = there_at parts.hosts 0 (omega (arith, some, many_hosts)) in
    let agent = there_at parts.agents 0 (omega (arith, agents, many_agents)) in
    let has : HasParts plan parts (fabric_of parts host.0 agent.0) = record {
      hosts = λ h below. slice_get-get_or parts.hosts h host.0 (let inside : h < length (hosts_of plan.system) = below in omega (arith, inside, many_hosts));
      agents = λ a below. slice_get-get_or parts.agents a agent.0 (let inside : a < length (agents_of plan.system) = below in omega (arith, inside, many_agents));
    } in
    record { fabric = fabric_of parts host.0 agent.0; has = has; is = stands (fabric_of parts host.0 agent.0) has }

module _ (plan : PlanTable) (netlist : Netlist) (parts : FabricParts) (of : ArePartsOf plan.system parts) (f : IsFabricOf plan netlist parts) where
  pub host_below : (h : ℕ) (part : HostPart) → slice_get parts.hosts h ≡ Some part → h < length (hosts_of plan.system)
  host_below h part at = let inside = slice_get_within parts.hosts h part at in let many = of.many_hosts in omega (arith, inside, many)

  pub agent_below : (a : ℕ) (part : AgentPart) → slice_get parts.agents a ≡ Some part → a < length (agents_of plan.system)
  agent_below a part at = let inside = slice_get_within parts.agents a part at in let many = of.many_agents in omega (arith, inside, many)

  pub host_stands : (h : ℕ) (part : HostPart) → slice_get parts.hosts h ≡ Some part → IsHostPart netlist h (routes_of plan.system h) part
  host_stands h part at =
      let below = host_below h part at in
      subst (IsHostPart netlist h (routes_of plan.system h)) (same_Some (f.fabric.host h) part (sym (f.has.hosts h below) ∙ at)) (f.is.host h below)

  pub agent_stands : (a : ℕ) (part : AgentPart) → slice_get parts.agents a ≡ Some part → IsAgentPart netlist plan.system.stages part
  agent_stands a part at =
      let below = agent_below a part at in
      subst (IsAgentPart netlist plan.system.stages) (same_Some (f.fabric.agent a) part (sym (f.has.agents a below) ∙ at)) (f.is.agent a below)

-- ---- a longer netlist

-- hosts and agents stay joined in a longer netlist
pub fabric_stays : (plan : PlanTable) (old new : Netlist) → Extends old new → HasFabric plan old → HasFabric plan new
fabric_stays plan old new e h = record {
  parts = h.parts;
  joined = record {
    of = h.joined.of;
    stands = λ fabric has. fabric_lasts plan old new fabric (h.joined.stands fabric has) e;
    hosts_driven = λ k end part at has. stay_driven plan.system end (host_outputs part) old new e (h.joined.hosts_driven k end part at has);
    agents_driven = λ k end part at has. stay_driven plan.system end (agent_outputs part) old new e (h.joined.agents_driven k end part at has);
  };
}

-- ---- the steps

module _ (plan : PlanTable) (old middle : Netlist) (parts : FabricParts) (some : 0 < length (hosts_of plan.system)) (h : HasKnownPorts plan.system) (one : HaveOneNumber plan.system) (begun : IsBegun plan.system old) (adds : AddsFabric plan old middle parts) where
  abbrev pub system : SystemTable
  system = plan.system

  standing : IsFabricOf plan middle parts
  standing = fabric_there plan middle parts some adds.of adds.stands

  -- the outputs at the hosts may be driven
  pub hosts_may : MayDriveEach plan.system host_outputs (hosts_of plan.system) parts.hosts middle
  hosts_may = record {
    many = adds.of.many_hosts;
    apart = one Start;
    can = λ k end part at has.
        (let in_system = adds.of.hosts k part has in
        let same : in_system.end ≡ end = same_Some in_system.end end (sym in_system.end_is ∙ at) in
        let known : known_at system end ≡ Host part.port = ap (known_at system) (sym same) ∙ in_system.port_is in
        let stands = host_stands plan middle parts adds.of standing k part has in
        host_may system end part middle (host_ports_are system end part.port h (hosts_are_ends system h k end at) known) (adds.grows.extends.keeps.ports ∙ begun.ports) stands.told
        (λ r. undriven_where middle (port_at system end r) (λ p here. same_drivers old middle p adds.grows.drivers ∙ begun.undriven p)));
  }

  -- and once they are, those at the agents
  pub agents_may : (half : Netlist) → Extends middle half → ((k : ℕ) → IsNoPortOfEach plan.system (hosts_of plan.system) k → driver_of half k ≡ driver_of middle k)
      → MayDriveEach plan.system agent_outputs (agents_of plan.system) parts.agents half
  agents_may half extends others = record {
    many = adds.of.many_agents;
    apart = one End;
    can = λ k end part at has.
        (let in_system = adds.of.agents k part has in
        let same : in_system.end ≡ end = same_Some in_system.end end (sym in_system.end_is ∙ at) in
        let known : known_at system end ≡ Agent part.port = ap (known_at system) (sym same) ∙ in_system.port_is in
        let is_end = agent_end system end h.planned (among_at (agents_of system) k end at) in
        let stands = agent_part_lasts middle half plan.system.stages part (agent_stands plan middle parts adds.of standing k part has) extends in
        agent_may system end plan.system.stages part half (agent_ports_are system end part.port h is_end.among known) (extends.keeps.ports ∙ adds.grows.extends.keeps.ports ∙ begun.ports) stands
        (λ r. undriven_where half (port_at system end r) (λ p here.
        others p (λ j other there. other_sort system other end 0 1 p r h (host_end system other h.planned (among_at (hosts_of system) j other there)) is_end (λ same. omega (arith, same)) here)
        ∙ same_drivers old middle p adds.grows.drivers ∙ begun.undriven p)));
  }

  -- the outputs at the hosts were driven, and then those at the agents
  pub record AreSteps (half new : Netlist) : Type 0 where
    pub same_hosts : HasSameNets middle half
    pub extends_hosts : Extends middle half
    pub hosts_driven : AreEachDriven plan.system host_outputs (hosts_of plan.system) parts.hosts half
    pub no_other_hosts : (k : ℕ) → IsNoPortOfEach plan.system (hosts_of plan.system) k → driver_of half k ≡ driver_of middle k
    pub same_agents : HasSameNets half new
    pub extends_agents : Extends half new
    pub agents_driven : AreEachDriven plan.system agent_outputs (agents_of plan.system) parts.agents new
    pub no_other_agents : (k : ℕ) → IsNoPortOfEach plan.system (agents_of plan.system) k → driver_of new k ≡ driver_of half k

  pub memory_joined : (half new : Netlist) → AreSteps half new → IsJoinedUpTo plan 0 new
  memory_joined half new s =
      let same = same-trans middle half new s.same_hosts s.same_agents in
      let later = extends_twice middle half new s.extends_hosts s.extends_agents in
      let whole = extends_twice old middle new adds.grows.extends later in
      record {
        name = whole.keeps.name ∙ begun.name;
        ports = whole.keeps.ports ∙ begun.ports;
        lows = λ n below. low_stays old new (input_count (ports_of system) + n) whole (begun.lows n below);
        memory = λ some. record {
          parts = parts;
          joined = record {
            of = adds.of;
            stands = λ fabric has. fabric_lasts plan middle new fabric (adds.stands fabric has) later;
            hosts_driven = λ k end part at has. stay_driven system end (host_outputs part) half new s.extends_agents (s.hosts_driven k end part at has);
            agents_driven = s.agents_driven;
          };
        };
        joined = λ n place a source sink below e is. absurd (omega (arith, below));
        rest = λ k free. s.no_other_agents k free.of_agents ∙ s.no_other_hosts k free.of_hosts ∙ same_drivers old middle k adds.grows.drivers ∙ begun.undriven k;
        clocked = λ n w. begun.clocked n (adds.no_more_wait n (waiting_as middle new n same.lines w));
        written = λ m w. begun.written m (adds.no_more_wait_for_write m (unwritten_as middle new m same.memories w));
        few = (let most = adds.grows.most in let lines = ap (λ (ls : List Line). length ls) same.lines in let before = begun.few in omega (arith, most, lines, before));
        few_memories = (let most = adds.grows.most_memories in let memories = ap (λ (ms : List Memory). length ms) same.memories in let none = ap (λ (ms : List Memory). length ms) begun.memories in omega (arith, most, memories, none));
      }

-- where there is no host, there is nothing to join
pub nothing_joined : (plan : PlanTable) (netlist : Netlist) → length (hosts_of plan.system) ≡ 0 → IsBegun plan.system netlist → IsJoinedUpTo plan 0 netlist
nothing_joined plan netlist none begun = record {
  name = begun.name;
  ports = begun.ports;
  lows = begun.lows;
  memory = λ some. absurd (omega (arith, some, none));
  joined = λ n place a source sink below e is. absurd (omega (arith, below));
  rest = λ k free. begun.undriven k;
  clocked = begun.clocked;
  written = begun.written;
  few = (let few = begun.few in omega (arith, few));
  few_memories = (let none = ap (λ (ms : List Memory). length ms) begun.memories in omega (arith, none));
}
