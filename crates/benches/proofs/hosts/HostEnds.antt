-- The hosts of a system among its ends.
use Rattle.std.proofs.Common.{◌≡◌, ◌++◌, ℕ, Bool, true, slice_get, Some, flat_map, subst}
use Rattle.iface_roles.specs.declared.records.HostPort.{HostPort}
use Rattle.iface_roles.specs.declared.records.Finished.TheVariants.{Host}
use Rattle.system_tables.specs.declared.tables.EndId.{EndId}
use Rattle.system_tables.specs.Tables.{SystemTable}
use Rattle.address_map.specs.Footprints.{known_at}
use Rattle.address_map.specs.Maps.{hosts_of, agents_of}
use Rattle.link_rules.specs.Links.{streams_of}
use Rattle.port_tables.specs.declared.roles.RolePort.{RolePort}
use Rattle.port_tables.specs.Lists.{Among, among_at, slice_get-front}
use Rattle.port_tables.specs.Ports.{connection_ends, ends_of, host_ports, is_output, ports_of}
use Rattle.port_tables.specs.PortMaps.{HasKnownPorts, IsPortIf, port_at}

-- a host has its own number among all ends
pub host_is_end : (system : SystemTable) (number : ℕ) (end : EndId) → slice_get (hosts_of system) number ≡ Some end → slice_get (ends_of system) number ≡ Some end
host_is_end system number end at =
    slice_get-front (hosts_of system ++ agents_of system) (flat_map (connection_ends system) (streams_of system)) number end
    (slice_get-front (hosts_of system) (agents_of system) number end at)

pub host_is_among : (system : SystemTable) (number : ℕ) (end : EndId) → slice_get (hosts_of system) number ≡ Some end → Among end (ends_of system)
host_is_among system number end at = among_at (ends_of system) number end (host_is_end system number end at)

-- the output of this number among the ports of a host
pub host_output : (system : SystemTable) (number : ℕ) (end : EndId) (host : HostPort) (k : ℕ) (port : RolePort) → HasKnownPorts system → slice_get (hosts_of system) number ≡ Some end
    → known_at system end ≡ Host host → slice_get (host_ports host) k ≡ Some port → is_output true port.role ≡ true
    → IsPortIf (ports_of system) true port.width (port_at system end port.role)
host_output system number end host k port known at is has output =
    subst (λ (way : Bool). IsPortIf (ports_of system) way port.width (port_at system end port.role)) output
    (known.known end (Host host) port (host_is_among system number end at) is (among_at (host_ports host) k port has))
