-- An agent at the ports of its system's module.
use Rattle.std.proofs.Common.{◌≡◌, ◌*◌, ◌<◌, ◌≤◌, ℕ, Bool, true, false, List, slice_get, Option, Some, None, refl, sym, ap, subst, ◌∙◌, arith}
use Rattle.iface_roles.specs.declared.records.AgentPort.{AgentPort}
use Rattle.iface_roles.specs.declared.records.Finished.TheVariants.{Agent}
use Rattle.iface_roles.specs.Proper.{IsBoundedAgent}
use Rattle.system_tables.specs.declared.tables.EndId.{EndId}
use Rattle.system_tables.specs.Tables.{SystemTable}
use Rattle.address_map.specs.Footprints.{known_at}
use Rattle.address_map.specs.Maps.{hosts_of, agents_of}
use Rattle.netlist.specs.declared.line.PortLine.{PortLine}
use Rattle.netlist.specs.Netlists.{Netlist}
use Rattle.cycle_sim.specs.Sims.{SimValue}
use Rattle.port_tables.specs.declared.roles.RolePort.{RolePort}
use Rattle.port_tables.specs.Lists.{Among, among_at, among_back, among_front}
use Rattle.port_tables.specs.Ports.{agent_ports, bits_if, ends_of, is_output, ports_of}
use Rattle.port_tables.specs.PortMaps.{HasKnownPorts, IsPortIf, port_at}
use Rattle.port_rows.specs.declared.agent_ends.places.AgentPorts.{AgentPorts}
use Rattle.benches.specs.Outputs.{IsOutputIf}
use Rattle.benches.specs.Agents.{BenchAgentValue, IsAgentOf, Fits}

-- an agent's end is one of the system's
pub agent_among : (system : SystemTable) (number : ℕ) (end : EndId) → slice_get (agents_of system) number ≡ Some end → Among end (ends_of system)
agent_among system number end at = among_front _ _ end (among_back (hosts_of system) (agents_of system) end (among_at (agents_of system) number end at))

output_if : (netlist : Netlist) (ports : List PortLine) (width most : ℕ) (found : Option ℕ) → netlist.ports ≡ ports → width ≤ most → IsPortIf ports true width found → IsOutputIf netlist most found
output_if netlist ports width most None same few h = tt
output_if netlist ports width most (Some k) same few h = record {
  width = width;
  is = record { port = h.port; is = ap (λ (ps : List PortLine). slice_get ps k) same ∙ h.is; output = h.output_is; width = h.width_is };
  few = few;
}

bits_low : (present : Bool) (bits : ℕ) → bits_if present bits ≤ bits
bits_low true bits = omega arith
bits_low false bits = omega arith

-- the output of an agent's port of this number
agent_output : (system : SystemTable) (end : EndId) (port : AgentPort) (sim : SimValue) → HasKnownPorts system → sim.netlist.ports ≡ ports_of system → Among end (ends_of system) → known_at system end ≡ Agent port
    → (k : ℕ) (one : RolePort) (most : ℕ) → slice_get (agent_ports port) k ≡ Some one → is_output false one.role ≡ true → one.width ≤ most → IsOutputIf sim.netlist most (port_at system end one.role)
agent_output system end port sim known same among there k one most at output few =
    output_if sim.netlist (ports_of system) one.width most (port_at system end one.role) same few
    (subst (λ (o : Bool). IsPortIf (ports_of system) o one.width (port_at system end one.role)) output (known.known end (Agent port) one among there (among_at (agent_ports port) k one at)))

pub agent_fits : (system : SystemTable) (number : ℕ) (agent : BenchAgentValue) (sim : SimValue) → HasKnownPorts system → sim.netlist.ports ≡ ports_of system → IsAgentOf system number agent
    → IsBoundedAgent agent.stand_in.port → agent.stand_in.cycle < agent.stand_in.cycles → Fits agent sim
agent_fits system number agent sim known same of bounded room =
    let port = agent.stand_in.port in
    let among = agent_among system number of.at.end of.at.end_is in
    let there = agent_output system of.at.end port sim known same among of.at.is in
    let is = sym of.ports in
    record {
      read = subst (λ (ports : AgentPorts). IsOutputIf sim.netlist 1 ports.read) is (there 1 _ 1 refl refl (bits_low port.reads 1));
      write = subst (λ (ports : AgentPorts). IsOutputIf sim.netlist 1 ports.write) is (there 2 _ 1 refl refl (bits_low port.writes 1));
      address = subst (λ (ports : AgentPorts). IsOutputIf sim.netlist 32 ports.address) is (there 0 _ 32 refl refl bounded.ports.address);
      word = subst (λ (ports : AgentPorts). IsOutputIf sim.netlist (8 * port.word_bytes) ports.word) is (there 3 _ (8 * port.word_bytes) refl refl (bits_low port.writes (8 * port.word_bytes)));
      enables = subst (λ (ports : AgentPorts). IsOutputIf sim.netlist port.word_bytes ports.enables) is (there 4 _ port.word_bytes refl refl (bits_low port.enables port.word_bytes));
      count = subst (λ (ports : AgentPorts). IsOutputIf sim.netlist 11 ports.count) is (there 5 _ 11 refl refl bounded.ports.burst);
      grant = subst (λ (ports : AgentPorts). IsOutputIf sim.netlist 4 ports.grant) is (there 10 _ 4 refl refl (omega arith));
      room = room;
    }
