-- The ends of hosts and agents by their numbers, and the ports there.
use Rattle.std.proofs.Common.{◌≡◌, ℕ, ◌<◌, List, length, get_or, slice_get, Some}
use Rattle.iface_roles.specs.declared.records.HostPort.{HostPort}
use Rattle.iface_roles.specs.declared.records.AgentPort.{AgentPort}
use Rattle.iface_roles.specs.declared.records.Finished.TheVariants.{Host, Agent}
use Rattle.system_tables.specs.declared.tables.EndId.{EndId}
use Rattle.system_tables.specs.Tables.{SystemTable, IsEnd}
use Rattle.address_map.specs.Maps.{hosts_of, agents_of}
use Rattle.port_tables.specs.EndFacts.{known_is}
use Rattle.port_tables.specs.Ends.{IsAnEnd}
use Rattle.port_tables.specs.PortMaps.{HasKnownPorts}
use Rattle.interconnect.proofs.Driving.{is_an_end}
use Rattle.interconnect.proofs.FabricJoins.{hosts_are_ends, agents_are_ends}
use Rattle.interconnect.proofs.HostPorts.{AreHostPorts, AreAgentPorts, host_ports_are, agent_ports_are}
use Rattle.interconnect.proofs.Passing.{found_at}

pub host_end_at : (system : SystemTable) (ends : List EndId) (number : ℕ) (d : EndId) → HasKnownPorts system → ends ≡ hosts_of system → number < length (hosts_of system)
    → IsAnEnd system (get_or ends number d)
host_end_at system ends number d h are inside = is_an_end system _ (hosts_are_ends system h number _ (found_at ends (hosts_of system) number d are inside))

pub agent_end_at : (system : SystemTable) (ends : List EndId) (number : ℕ) (d : EndId) → HasKnownPorts system → ends ≡ agents_of system → number < length (agents_of system)
    → IsAnEnd system (get_or ends number d)
agent_end_at system ends number d h are inside = is_an_end system _ (agents_are_ends system h number _ (found_at ends (agents_of system) number d are inside))

pub host_ports_at : (system : SystemTable) (ends : List EndId) (number : ℕ) (d : EndId) (host : HostPort) → HasKnownPorts system → ends ≡ hosts_of system → number < length (hosts_of system)
    → ((end : EndId) → slice_get (hosts_of system) number ≡ Some end → IsEnd system end (Host host)) → AreHostPorts system (get_or ends number d) host
host_ports_at system ends number d host h are inside known =
    let at = found_at ends (hosts_of system) number d are inside in
    host_ports_are system _ host h (hosts_are_ends system h number _ at) (known_is system _ _ (known _ at))

pub agent_ports_at : (system : SystemTable) (ends : List EndId) (number : ℕ) (d : EndId) (agent : AgentPort) → HasKnownPorts system → ends ≡ agents_of system → number < length (agents_of system)
    → ((end : EndId) → slice_get (agents_of system) number ≡ Some end → IsEnd system end (Agent agent)) → AreAgentPorts system (get_or ends number d) agent
agent_ports_at system ends number d agent h are inside known =
    let at = found_at ends (agents_of system) number d are inside in
    agent_ports_are system _ agent h (agents_are_ends system h number _ at) (known_is system _ _ (known _ at))
