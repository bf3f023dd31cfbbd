-- The hosts of a system: the nets at their ports that the module reads, and what drives the others.
use Rattle.std.specs.Prelude.{◌≡◌, ◌*◌, ℕ, length, List, [], ◌∷◌, Some, unwrap_or, slice_get}
use Rattle.iface_roles.specs.declared.records.HostPort.{HostPort}
use Rattle.iface_roles.specs.declared.records.Finished.TheVariants.{Host}
use Rattle.iface_roles.specs.Proper.{IsBoundedHost}
use Rattle.system_tables.specs.declared.tables.EndId.{EndId}
use Rattle.system_tables.specs.Tables.{SystemTable}
use Rattle.address_map.specs.Footprints.{known_at}
use Rattle.address_map.specs.Maps.{hosts_of}
use Rattle.netlist.specs.Nets.{NetValue}
use Rattle.netlist.specs.Netlists.{Netlist}
use Rattle.memory_runs.specs.Sides.{burst_width}
use Rattle.mm_host.specs.declared.nets.HostNets.{HostNets}
use Rattle.mm_host.specs.declared.nets.HostAnswer.{HostAnswer}
use Rattle.mm_host.specs.Hosts.{AreHostNets}
use Rattle.mm_fabric.specs.declared.begun.HostEnd.{HostEnd}
use Rattle.mm_fabric.specs.declared.parts.HostPart.{HostPart}
use Rattle.port_tables.specs.declared.roles.PortRole.{PortRole}
use Rattle.port_tables.specs.declared.roles.PortRole.TheVariants as role
use Rattle.interconnect.specs.declared.outputs.Output.{Output}
use Rattle.interconnect.specs.Outputs.{input_at, outputs_by}

-- ---- inputs

-- the nets of a host's ports that the module reads
pub record AreHostInputs (system : SystemTable) (end : EndId) (port : HostPort) (nets : HostNets) : Type 0 where
  pub address : input_at system end role.Address port.address_bits ≡ Some nets.address
  pub read : nets.read ≡ input_at system end role.Read 1
  pub write : nets.write ≡ input_at system end role.Write 1
  pub writedata : nets.writedata ≡ input_at system end role.WriteData (port.word_bytes * 8)
  pub byteenable : nets.byteenable ≡ input_at system end role.ByteEnable port.word_bytes
  pub burstcount : nets.burstcount ≡ input_at system end role.BurstCount (burst_width port.burst_bits)

-- the ports of the host of this number, and its nets
pub record IsHostIn (system : SystemTable) (number : ℕ) (host : HostEnd) : Type 0 where
  pub end : EndId
  pub end_is : slice_get (hosts_of system) number ≡ Some end
  pub port_is : known_at system end ≡ Host host.port
  pub bounded : IsBoundedHost host.port
  pub inputs : AreHostInputs system end host.port host.nets

-- the first hosts
pub record AreHostsIn (system : SystemTable) (netlist : Netlist) (count : ℕ) (hosts : List HostEnd) : Type 0 where
  pub many : length hosts ≡ count
  pub each : (h : ℕ) (host : HostEnd) → slice_get hosts h ≡ Some host → IsHostIn system h host
  pub nets : (h : ℕ) (host : HostEnd) → slice_get hosts h ≡ Some host → AreHostNets netlist host.port host.nets

-- ---- outputs

abbrev pub host_roles : List PortRole
host_roles = role.WaitRequest ∷ role.ReadData ∷ role.ReadDataValid ∷ role.Response ∷ []

-- the net for each output of a host; where the host has no such port this is any net
abbrev pub host_net : HostAnswer → PortRole → NetValue
host_net told role.ReadData = told.readdata
host_net told role.ReadDataValid = unwrap_or told.readdatavalid told.waitrequest
host_net told role.Response = unwrap_or told.response told.waitrequest
host_net told _ = told.waitrequest

abbrev pub host_outputs : HostPart → List Output
host_outputs part = outputs_by (host_net part.told) host_roles
