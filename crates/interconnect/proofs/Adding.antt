-- What is asked of the hosts and agents that a fabric is made for, and what its parts are.
use Rattle.std.proofs.Common.{◌≡◌, ℕ, List, length, map, slice_get, Option, sym, ap, subst, ◌∙◌, inl, inr, arith}
use Rattle.std.specs.Option.{option_map_or}
use Rattle.std.proofs.lemmas.List.{length-map}
use Rattle.iface_roles.specs.declared.records.Finished.TheVariants.{Other}
use Rattle.system_tables.specs.declared.tables.EndId.{EndId}
use Rattle.system_tables.specs.Tables.{SystemTable}
use Rattle.address_map.specs.Footprints.{known_at}
use Rattle.address_map.specs.Maps.{hosts_of, agents_of}
use Rattle.link_rules.specs.Plans.{PlanTable}
use Rattle.netlist.specs.declared.line.Memory.{Memory}
use Rattle.netlist.specs.Netlists.{Netlist}
use Rattle.net_parts.specs.Growth.{GrowsInMemory, StillWait, StillWaitForWrite}
use Rattle.mm_fabric.specs.declared.begun.HostEnd.{HostEnd}
use Rattle.mm_fabric.specs.declared.asks.AgentEnd.{AgentEnd}
use Rattle.mm_fabric.specs.declared.fabric.FabricParts.{FabricParts}
use Rattle.mm_fabric.specs.Askers.{HasNoRoomFor}
use Rattle.link_rules.specs.PlanConnections.{memory_connections}
use Rattle.mm_fabric.specs.Ends.{AreHosts, AreAgents, AreParts, host_end_of, agent_end_of, fabric_nets, fabric_memories}
use Rattle.port_tables.specs.PortMaps.{HasKnownPorts}
use Rattle.interconnect.specs.Hosts.{AreHostsIn}
use Rattle.interconnect.specs.Agents.{AreAgentsIn}
use Rattle.interconnect.specs.Fabrics.{AddsFabric}
use Rattle.interconnect.specs.Joins.{IsBegun}
use Rattle.interconnect.proofs.Weights.{HasFewLinks, fabric_few}
use Rattle.interconnect.proofs.Passing.{mapped}

pub are_hosts : (plan : PlanTable) (netlist : Netlist) (hosts : List HostEnd) → AreHostsIn plan.system netlist (length (hosts_of plan.system)) hosts → AreHosts plan netlist hosts
are_hosts plan netlist hosts h = record {
  many = h.many;
  each = λ k end at. (let i = h.each k end at in record { port = ap (λ (o : Option EndId). option_map_or (known_at plan.system) o Other) i.end_is ∙ i.port_is; nets = h.nets k end at });
}

pub are_agents : (plan : PlanTable) (netlist : Netlist) (agents : List AgentEnd) → AreAgentsIn plan.system netlist (length (agents_of plan.system)) agents → AreAgents plan netlist agents
are_agents plan netlist agents h = record {
  many = h.many;
  each = λ k end at. (let i = h.each k end at in record { port = ap (λ (o : Option EndId). option_map_or (known_at plan.system) o Other) i.end_is ∙ i.port_is; nets = h.nets k end at });
}

-- there is room for them all
pub room_for_all : (system : SystemTable) (netlist : Netlist) (hosts agents : ℕ) → HasKnownPorts system → IsBegun system netlist → hosts ≡ length (hosts_of system) → agents ≡ length (agents_of system)
    → HasFewLinks system → HasNoRoomFor (fabric_nets hosts agents (length (memory_connections system))) (fabric_memories hosts agents (length (memory_connections system))) netlist → ⊥
room_for_all system netlist hosts agents h begun many_hosts many_agents links (inr full) =
    let none = ap (λ (ms : List Memory). length ms) begun.memories in
    let few_hosts = h.planned.few_hosts in
    let few_agents = h.planned.few_agents in
    let few_links = links.agents in
    omega (arith, none, few_hosts, few_agents, few_links, many_hosts, many_agents, full)
room_for_all system netlist hosts agents h begun many_hosts many_agents links (inl full) =
    let most = fabric_few hosts agents (length (memory_connections system)) in
    let few_links = links.agents in
    let few_hosts = h.planned.few_hosts in
    let few_agents = h.planned.few_agents in
    let streams = h.planned.few_streams in
    let inputs = h.few_inputs in
    let lines = begun.few in
    omega (arith, most, few_links, few_hosts, few_agents, streams, inputs, lines, many_hosts, many_agents, full)

-- what was made
pub record IsMade (plan : PlanTable) (old new : Netlist) (hosts : List HostEnd) (agents : List AgentEnd) (parts : FabricParts) : Type 0 where
  pub hosts_in : AreHostsIn plan.system old (length (hosts_of plan.system)) hosts
  pub agents_in : AreAgentsIn plan.system old (length (agents_of plan.system)) agents
  pub hosts_are : map host_end_of parts.hosts ≡ hosts
  pub agents_are : map agent_end_of parts.agents ≡ agents
  pub stands : AreParts plan new parts
  pub grows : GrowsInMemory (fabric_nets (length hosts) (length agents) (length (memory_connections plan.system))) (fabric_memories (length hosts) (length agents) (length (memory_connections plan.system))) old new
  pub no_more_wait : StillWait new old
  pub no_more_wait_for_write : StillWaitForWrite new old

pub adds_fabric : (plan : PlanTable) (old new : Netlist) (hosts : List HostEnd) (agents : List AgentEnd) (parts : FabricParts) → IsMade plan old new hosts agents parts → AddsFabric plan old new parts
adds_fabric plan old new hosts agents parts m =
    let host_count = m.hosts_in.many in
    let agent_count = m.agents_in.many in
    record {
      of = record {
        many_hosts = (let long = length-map parts.hosts host_end_of in let same = ap (λ (es : List HostEnd). length es) m.hosts_are in omega (arith, long, same, host_count));
        hosts = λ h part at. m.hosts_in.each h (host_end_of part) (ap (λ (es : List HostEnd). slice_get es h) (sym m.hosts_are) ∙ mapped host_end_of parts.hosts h part at);
        many_agents = (let long = length-map parts.agents agent_end_of in let same = ap (λ (es : List AgentEnd). length es) m.agents_are in omega (arith, long, same, agent_count));
        agents = λ a part at. m.agents_in.each a (agent_end_of part) (ap (λ (es : List AgentEnd). slice_get es a) (sym m.agents_are) ∙ mapped agent_end_of parts.agents a part at);
      };
      stands = m.stands;
      grows = subst (λ (n : ℕ). GrowsInMemory (fabric_nets n (length (agents_of plan.system)) (length (memory_connections plan.system))) (fabric_memories n (length (agents_of plan.system)) (length (memory_connections plan.system))) old new) host_count
          (subst (λ (n : ℕ). GrowsInMemory (fabric_nets (length hosts) n (length (memory_connections plan.system))) (fabric_memories (length hosts) n (length (memory_connections plan.system))) old new) agent_count m.grows);
      no_more_wait = m.no_more_wait;
      no_more_wait_for_write = m.no_more_wait_for_write;
    }
