-- Where the ports of a module stand in its header.
use Rattle.std.specs.Prelude.{◌≡◌, ◌+◌, ◌*◌, ◌<◌, ◌≤◌, ℕ, Bool, List, map, flat_map, length, slice_get, Option, Some, None}
use Rattle.iface_roles.specs.declared.roles.Role.{Role}
use Rattle.iface_roles.specs.declared.roles.Role.TheVariants as of_interface
use Rattle.iface_roles.specs.declared.records.Finished.{Finished}
use Rattle.system_tables.specs.declared.tables.EndId.{EndId}
use Rattle.system_tables.specs.declared.tables.Connection.{Connection}
use Rattle.system_tables.specs.Tables.{SystemTable}
use Rattle.address_map.specs.Footprints.{known_at}
use Rattle.address_map.specs.Maps.{hosts_of, agents_of}
use Rattle.link_rules.specs.Links.{streams_of}
use Rattle.netlist.specs.declared.line.PortLine.{PortLine}
use Rattle.netlist.specs.Netlists.{input_count}
use Rattle.netlist.specs.Signals.{port_named}
use Rattle.port_tables.specs.declared.roles.PortRole.{PortRole}
use Rattle.port_tables.specs.declared.roles.PortRole.TheVariants as role
use Rattle.port_tables.specs.declared.roles.RolePort.{RolePort}
use Rattle.port_tables.specs.declared.port_table.PortEntry.{PortEntry}
use Rattle.port_tables.specs.declared.port_table.PortMap.{PortMap}
use Rattle.port_tables.specs.Lists.{Among}
use Rattle.port_tables.specs.EndFacts.{IsPlanned}
use Rattle.port_tables.specs.Ports.{role_word, is_output, may_have, role_ports, starts, name_at, port_name, ends_of, ports_of}

-- ---- what stands in the header

-- a port of an end
abbrev pub entry_of : EndId → Bool → RolePort → PortEntry
entry_of end starts port = record { end = end; port = port; output = is_output starts port.role }

abbrev pub known_entries : EndId → Finished → List PortEntry
known_entries end known = map (entry_of end (starts known)) (role_ports known)

abbrev pub end_entries : SystemTable → EndId → List PortEntry
end_entries system end = known_entries end (known_at system end)

-- the ports of the module, in header order
abbrev pub entries_of : SystemTable → List PortEntry
entries_of system = flat_map (end_entries system) (ends_of system)

-- the line of a port
abbrev pub line_of_entry : SystemTable → PortEntry → PortLine
line_of_entry system entry =
    record
    { name = port_name (name_at system entry.end) (role_word entry.port.role); width = entry.port.width; output = entry.output }

-- the number of the port of this role at an end, by its name in the header
abbrev pub port_at : SystemTable → EndId → PortRole → Option ℕ
port_at system end role = port_named (ports_of system) (port_name (name_at system end) (role_word role))

-- ---- what stands at a port

-- the port of a role is one of this direction and width
pub record IsPort (ports : List PortLine) (output : Bool) (width k : ℕ) : Type 0 where
  pub port : PortLine
  pub is : slice_get ports k ≡ Some port
  pub output_is : port.output ≡ output
  pub width_is : port.width ≡ width
  pub some : 0 < width

-- and there is none where it has no bits
abbrev pub IsPortIf : List PortLine → Bool → ℕ → Option ℕ → Type 0
IsPortIf ports output width (Some k) = IsPort ports output width k
IsPortIf ports output width None = width ≡ 0

-- ends with a role whose ports have one name are one, and the roles too
pub record IsOneRole (a b : EndId) (r s : PortRole) : Type 0 where
  pub end : a ≡ b
  pub role : r ≡ s

-- the end and the role of port k, whose line is this one
pub record IsOwned (system : SystemTable) (k : ℕ) (port : PortLine) : Type 0 where
  pub end : EndId
  pub role_port : RolePort
  pub among : Among end (ends_of system)
  pub may : Among role_port (may_have (known_at system end))
  pub some : 0 < role_port.width
  pub named : port_at system end role_port.role ≡ Some k
  pub output : port.output ≡ is_output (starts (known_at system end)) role_port.role

-- what is known of the ports of a system's module
pub record HasKnownPorts (system : SystemTable) : Type 0 where
  pub planned : IsPlanned system
  -- a port that an end may have stands in the header with its width and direction, or it has no bits and doesn't stand there
  pub known : (end : EndId) (there : Finished) (p : RolePort) → Among end (ends_of system) → known_at system end ≡ there
      → Among p (may_have there)
      → IsPortIf (ports_of system) (is_output (starts there) p.role) p.width (port_at system end p.role)
  -- it stands for one end and one role
  pub one_role : (a b : EndId) (r s : PortRole) (k : ℕ) → Among a (ends_of system) → Among b (ends_of system)
      → port_at system a r ≡ Some k → port_at system b s ≡ Some k → IsOneRole a b r s
  pub owner : (k : ℕ) (port : PortLine) → slice_get (ports_of system) k ≡ Some port → IsOwned system k port
  pub few_inputs : input_count (ports_of system) ≤ 880
  pub inputs_by_ends : input_count (ports_of system)
      ≤ 11 * length (hosts_of system) + 11 * length (agents_of system) + 22 * length (streams_of system)

-- ---- what the map tells

-- the port of this number is one of this end and role
pub record IsEntryAt (entries : List PortEntry) (place : ℕ) (end : EndId) (role : PortRole) : Type 0 where
  pub entry : PortEntry
  pub is : slice_get entries place ≡ Some entry
  pub end_is : entry.end ≡ end
  pub role_is : entry.port.role ≡ role

-- the number of a port of this end and role; None where there is none
abbrev pub IsPlaceOf : List PortEntry → EndId → PortRole → Option ℕ → Type 0
IsPlaceOf entries end role (Some place) = IsEntryAt entries place end role
IsPlaceOf entries end role None = (place : ℕ) → ¬ IsEntryAt entries place end role

-- the module's role for one of an interface; it has no port for the others
abbrev pub module_role : Role → Option PortRole
module_role of_interface.Address = Some role.Address
module_role of_interface.Read = Some role.Read
module_role of_interface.Write = Some role.Write
module_role of_interface.WriteData = Some role.WriteData
module_role of_interface.ByteEnable = Some role.ByteEnable
module_role of_interface.BurstCount = Some role.BurstCount
module_role of_interface.WaitRequest = Some role.WaitRequest
module_role of_interface.ReadData = Some role.ReadData
module_role of_interface.ReadDataValid = Some role.ReadDataValid
module_role of_interface.Response = Some role.Response
module_role of_interface.WriteResponseValid = None
module_role of_interface.Lock = None
module_role of_interface.DebugAccess = None
module_role of_interface.BeginBurstTransfer = None
module_role of_interface.Ready = Some role.Ready
module_role of_interface.Valid = Some role.Valid
module_role of_interface.Data = Some role.Data
module_role of_interface.Channel = Some role.Channel
module_role of_interface.Error = Some role.Error
module_role of_interface.StartOfPacket = Some role.StartOfPacket
module_role of_interface.EndOfPacket = Some role.EndOfPacket
module_role of_interface.Empty = Some role.Empty

abbrev pub IsPlaceFor : List PortEntry → EndId → Option PortRole → Option ℕ → Type 0
IsPlaceFor entries end None place = place ≡ None
IsPlaceFor entries end (Some role) place = IsPlaceOf entries end role place

-- the same by the name of the port
abbrev pub port_for : SystemTable → EndId → Option PortRole → Option ℕ
port_for system end None = None
port_for system end (Some role) = port_at system end role

-- the port of this role at the end of this number
pub record IsAt (ends : List EndId) (entries : List PortEntry) (number : ℕ) (role : PortRole) (place : ℕ) : Type 0 where
  pub end : EndId
  pub end_is : slice_get ends number ≡ Some end
  pub is : IsEntryAt entries place end role

-- the map tells this port and no other, and it is the one of the name
pub record IsTold (system : SystemTable) (end : EndId) (role : PortRole) (Tells : ℕ → Type 0) : Type 0 where
  pub place : ℕ
  pub told : Tells place
  pub only : (other : ℕ) → Tells other → other ≡ place
  pub named : port_at system end role ≡ Some place

-- the sinks of the first streams
pub record AreSinks (system : SystemTable) (number : ℕ) (sinks : List EndId) : Type 0 where
  pub count : length sinks ≡ number
  pub each : (n place : ℕ) (connection : Connection) → n < number → slice_get (streams_of system) n ≡ Some place
      → slice_get system.connections place ≡ Some connection
      → slice_get sinks n ≡ Some connection.end

-- the map is that of the system's module
pub record IsMapOf (system : SystemTable) (ports : PortMap) : Type 0 where
  pub entries : ports.entries ≡ entries_of system
  pub agents : ports.agents ≡ agents_of system
  pub sinks : AreSinks system (length (streams_of system)) ports.sinks

-- each port that the map tells is the one of its name in the header: that of its end and its role
pub record AreTold (system : SystemTable) (ports : PortMap) : Type 0 where
  pub places : (number : ℕ) (end : EndId) → slice_get (ends_of system) number ≡ Some end → (role : Role) (place : Option ℕ)
      → IsPlaceFor ports.entries end (module_role role) place → place ≡ port_for system end (module_role role)
  pub grants : (number : ℕ) (end : EndId) → slice_get (agents_of system) number ≡ Some end
      → IsTold system end role.Grant (IsAt ports.agents ports.entries number role.Grant)
  pub dropped : (number place : ℕ) (connection : Connection) → slice_get (streams_of system) number ≡ Some place
      → slice_get system.connections place ≡ Some connection
      → IsTold system connection.end role.Dropped (IsAt ports.sinks ports.entries number role.Dropped)
