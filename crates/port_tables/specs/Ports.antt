-- The ports of a module: those of each end, in the order of the tables of roles.
use Rattle.std.specs.Prelude.{ℕ, ◌*◌, Bool, true, false, not, nat_lt, if◌then◌else◌, List, [], ◌∷◌, ◌++◌, codes, map, filter, flat_map, slice_get}
use Rattle.std.specs.Option.{option_map_or}
use Rattle.iface_roles.specs.declared.records.HostPort.{HostPort}
use Rattle.iface_roles.specs.declared.records.AgentPort.{AgentPort}
use Rattle.iface_roles.specs.declared.records.Finished.{Finished}
use Rattle.iface_roles.specs.declared.records.Finished.TheVariants.{Host, Agent, Source, Sink, Other}
use Rattle.system_tables.specs.declared.tables.EndId.{EndId}
use Rattle.system_tables.specs.Tables.{SystemTable}
use Rattle.address_map.specs.Footprints.{known_at}
use Rattle.address_map.specs.Maps.{hosts_of, agents_of}
use Rattle.link_rules.specs.Links.{streams_of}
use Rattle.link_rules.specs.Plans.{instance_name_at, interface_name_at}
use Rattle.netlist.specs.declared.line.PortLine.{PortLine}
use Rattle.stream_runs.specs.Ends.{Declared}
use Rattle.st_timing.specs.Ends.{declared}
use Rattle.port_tables.specs.declared.roles.PortRole.{PortRole}
use Rattle.port_tables.specs.declared.roles.PortRole.TheVariants as role
use Rattle.port_tables.specs.declared.roles.RolePort.{RolePort}

-- the word for a role in a port's name
abbrev pub role_word : PortRole → List ℕ
role_word role.Address = codes "address"
role_word role.Read = codes "read"
role_word role.Write = codes "write"
role_word role.WriteData = codes "writedata"
role_word role.ByteEnable = codes "byteenable"
role_word role.BurstCount = codes "burstcount"
role_word role.WaitRequest = codes "waitrequest"
role_word role.ReadData = codes "readdata"
role_word role.ReadDataValid = codes "readdatavalid"
role_word role.Response = codes "response"
role_word role.Grant = codes "grant"
role_word role.Ready = codes "ready"
role_word role.Valid = codes "valid"
role_word role.Data = codes "data"
role_word role.Channel = codes "channel"
role_word role.Error = codes "error"
role_word role.StartOfPacket = codes "startofpacket"
role_word role.EndOfPacket = codes "endofpacket"
role_word role.Empty = codes "empty"
role_word role.Dropped = codes "dropped"

-- the signal goes the way of the connection, from a host or a source
abbrev pub is_forward : PortRole → Bool
is_forward role.Address = true
is_forward role.Read = true
is_forward role.Write = true
is_forward role.WriteData = true
is_forward role.ByteEnable = true
is_forward role.BurstCount = true
is_forward role.WaitRequest = false
is_forward role.ReadData = false
is_forward role.ReadDataValid = false
is_forward role.Response = false
is_forward role.Grant = true
is_forward role.Ready = false
is_forward role.Valid = true
is_forward role.Data = true
is_forward role.Channel = true
is_forward role.Error = true
is_forward role.StartOfPacket = true
is_forward role.EndOfPacket = true
is_forward role.Empty = true
is_forward role.Dropped = true

-- whether the module drives a port: where the connection ends, those of the signals that go its way; where it starts, the others
abbrev pub is_output : Bool → PortRole → Bool
is_output starts role = if starts then not (is_forward role) else is_forward role

abbrev pub port_of : PortRole → ℕ → RolePort
port_of role width = record { role = role; width = width }

-- so many bits where the port is there, and else none
abbrev pub bits_if : Bool → ℕ → ℕ
bits_if present bits = if present then bits else 0

-- the ports that a host may have; one of 0 bits isn't there
abbrev pub host_ports : HostPort → List RolePort
host_ports host =
    port_of role.Address host.address_bits
    ∷ port_of role.Read (bits_if host.reads 1)
    ∷ port_of role.Write (bits_if host.writes 1)
    ∷ port_of role.WriteData (bits_if host.writes (8 * host.word_bytes))
    ∷ port_of role.ByteEnable (bits_if host.enables host.word_bytes)
    ∷ port_of role.BurstCount host.burst_bits
    ∷ port_of role.WaitRequest (bits_if host.waitrequest 1)
    ∷ port_of role.ReadData (bits_if host.reads (8 * host.word_bytes))
    ∷ port_of role.ReadDataValid (bits_if host.readdatavalid 1)
    ∷ port_of role.Response (bits_if host.response 2)
    ∷ []

-- the ports that an agent may have, and `grant`
abbrev pub agent_ports : AgentPort → List RolePort
agent_ports agent =
    port_of role.Address agent.address_bits
    ∷ port_of role.Read (bits_if agent.reads 1)
    ∷ port_of role.Write (bits_if agent.writes 1)
    ∷ port_of role.WriteData (bits_if agent.writes (8 * agent.word_bytes))
    ∷ port_of role.ByteEnable (bits_if agent.enables agent.word_bytes)
    ∷ port_of role.BurstCount agent.burst_bits
    ∷ port_of role.WaitRequest (bits_if agent.waitrequest 1)
    ∷ port_of role.ReadData (bits_if agent.reads (8 * agent.word_bytes))
    ∷ port_of role.ReadDataValid (bits_if agent.readdatavalid 1)
    ∷ port_of role.Response (bits_if agent.response 2)
    ∷ port_of role.Grant 4
    ∷ []

-- the ports that a source or a sink may have
abbrev pub stream_ports : Declared → List RolePort
stream_ports end =
    port_of role.Ready (bits_if end.ready 1)
    ∷ port_of role.Valid 1
    ∷ port_of role.Data (end.symbols * end.symbol_bits)
    ∷ port_of role.Channel end.channel_bits
    ∷ port_of role.Error end.error_bits
    ∷ port_of role.StartOfPacket (bits_if end.packets 1)
    ∷ port_of role.EndOfPacket (bits_if end.packets 1)
    ∷ port_of role.Empty end.empty_bits
    ∷ []

-- the ports that an end may have; behind those of a sink stands `dropped`
abbrev pub may_have : Finished → List RolePort
may_have (Host host) = host_ports host
may_have (Agent agent) = agent_ports agent
may_have (Source source) = stream_ports (declared source)
may_have (Sink sink) = stream_ports (declared sink) ++ port_of role.Dropped 1 ∷ []
may_have Other = []

abbrev pub has_bits : RolePort → Bool
has_bits port = nat_lt 0 port.width

-- the ports that an end has
abbrev pub role_ports : Finished → List RolePort
role_ports known = filter has_bits (may_have known)

-- a connection starts there
abbrev pub starts : Finished → Bool
starts (Host host) = true
starts (Agent agent) = false
starts (Source source) = true
starts (Sink sink) = false
starts Other = false

-- the names of an end
pub record EndName : Type 0 where
  pub instance : List ℕ
  pub interface : List ℕ

abbrev pub name_at : SystemTable → EndId → EndName
name_at system end = record { instance = instance_name_at system end; interface = interface_name_at system end }

-- the name of a port: instance$interface$role
abbrev pub port_name : EndName → List ℕ → List ℕ
port_name name word = name.instance ++ codes "$" ++ name.interface ++ codes "$" ++ word

abbrev pub port_line : EndName → Bool → RolePort → PortLine
port_line name starts port =
    record { name = port_name name (role_word port.role); width = port.width; output = is_output starts port.role }

-- the ports of the module at an end of which so much is known
abbrev pub known_ports : EndName → Finished → List PortLine
known_ports name known = map (port_line name (starts known)) (role_ports known)

abbrev pub end_ports : SystemTable → EndId → List PortLine
end_ports system end = known_ports (name_at system end) (known_at system end)

-- the ends of the connection of this number
abbrev pub connection_ends : SystemTable → ℕ → List EndId
connection_ends system number =
    option_map_or (λ connection. connection.start ∷ connection.end ∷ []) (slice_get system.connections number) []

-- the ends of a system in the order of the header: the hosts, the agents, and of each stream its source and its sink
abbrev pub ends_of : SystemTable → List EndId
ends_of system = hosts_of system ++ agents_of system ++ flat_map (connection_ends system) (streams_of system)

-- the ports of the module
abbrev pub ports_of : SystemTable → List PortLine
ports_of system = flat_map (end_ports system) (ends_of system)

-- the name of the module
abbrev pub module_name : SystemTable → List ℕ
module_name system = system.name ++ codes "_interconnect"
