-- How far a module is built: whether hosts and agents are joined, which streams are, and what drives the outputs at their ends.
use Rattle.std.specs.Prelude.{◌≡◌, ℕ, zero, suc, ◌+◌, ◌*◌, ◌<◌, ◌≤◌, Bool, true, false, List, [], ◌∷◌, ◌++◌, length, Option, Some, None, unwrap_or, if◌then◌else◌, IfSome, slice_get}
use Rattle.iface_roles.specs.declared.records.StreamPort.{StreamPort}
use Rattle.system_tables.specs.declared.tables.EndId.{EndId}
use Rattle.system_tables.specs.declared.tables.Connection.{Connection}
use Rattle.system_tables.specs.Tables.{SystemTable}
use Rattle.address_map.specs.Maps.{hosts_of, agents_of}
use Rattle.link_rules.specs.Links.{streams_of}
use Rattle.link_rules.specs.Plans.{PlanTable}
use Rattle.link_rules.specs.declared.plan_connections.StreamConnection.{StreamConnection}
use Rattle.netlist.specs.declared.line.Line.{Line}
use Rattle.netlist.specs.Nets.{NetValue, net_of}
use Rattle.netlist.specs.Netlists.{Netlist, IsClocked, IsWritten, driver_of, input_count, appended}
use Rattle.stream_runs.specs.Ends.{Declared}
use Rattle.net_parts.specs.Growth.{GrowsInMemory, StillWait, StillWaitForWrite}
use Rattle.st_timing.specs.Ends.{declared}
use Rattle.st_path.specs.Ends.{ArePathNets}
use Rattle.st_path.specs.Serving.{most_nets, most_memories, ServesInLonger}
use Rattle.st_path.specs.declared.ends.SourceNets.{SourceNets}
use Rattle.st_path.specs.declared.ends.PathNets.{PathNets}
use Rattle.port_tables.specs.declared.roles.PortRole.{PortRole}
use Rattle.port_tables.specs.declared.roles.PortRole.TheVariants as role
use Rattle.port_tables.specs.Ports.{ports_of, module_name}
use Rattle.interconnect.specs.declared.outputs.Output.{Output}
use Rattle.port_tables.specs.Wires.{is_wire_at, wires_before}
use Rattle.interconnect.specs.Streams.{IsStream, low_line}
use Rattle.interconnect.specs.Outputs.{input_at, outputs_by, AreDrivenAt, IsNoPortOf}
use Rattle.interconnect.specs.Each.{IsNoPortOfEach}
use Rattle.interconnect.specs.Fabrics.{memory_nets, system_memories, HasFabric}

-- ---- the nets of a stream

-- the nets of the ports of a source that the module reads
pub record AreInputs (system : SystemTable) (end : EndId) (declared : Declared) (nets : SourceNets) : Type 0 where
  pub valid : input_at system end role.Valid 1 ≡ Some nets.valid
  pub word : input_at system end role.Data (declared.symbols * declared.symbol_bits) ≡ Some nets.word
  pub channel : nets.channel ≡ input_at system end role.Channel declared.channel_bits
  pub error : nets.error ≡ input_at system end role.Error declared.error_bits
  pub startofpacket : nets.startofpacket ≡ input_at system end role.StartOfPacket 1
  pub endofpacket : nets.endofpacket ≡ input_at system end role.EndOfPacket 1
  pub empty : nets.empty ≡ input_at system end role.Empty declared.empty_bits

-- what drives the outputs of a stream that is a wire: the inputs of the other end, and for `dropped` a net that is always low
abbrev pub wire_nets : SourceNets → Option NetValue → NetValue → PathNets
wire_nets from ready low =
    record {
      ready = unwrap_or ready low;
      beat = record {
        valid = from.valid;
        word = from.word;
        channel = unwrap_or from.channel low;
        error = unwrap_or from.error low;
        first = unwrap_or from.startofpacket low;
        last = unwrap_or from.endofpacket low;
        empty = unwrap_or from.empty low;
      };
      dropped = low;
    }

-- the roles of the outputs at a source, and at a sink
abbrev pub source_roles : List PortRole
source_roles = role.Ready ∷ []

abbrev pub sink_roles : List PortRole
sink_roles =
    role.Valid ∷ role.Data ∷ role.Channel ∷ role.Error ∷ role.StartOfPacket ∷ role.EndOfPacket ∷ role.Empty ∷ role.Dropped ∷ []

-- the net that drives the output of a role
abbrev pub net_for : PathNets → PortRole → NetValue
net_for made role.Ready = made.ready
net_for made role.Valid = made.beat.valid
net_for made role.Data = made.beat.word
net_for made role.Channel = made.beat.channel
net_for made role.Error = made.beat.error
net_for made role.StartOfPacket = made.beat.first
net_for made role.EndOfPacket = made.beat.last
net_for made role.Empty = made.beat.empty
net_for made _ = made.dropped

-- what drives the outputs of a stream
abbrev pub source_outputs : PathNets → List Output
source_outputs made = outputs_by (net_for made) source_roles

abbrev pub sink_outputs : PathNets → List Output
sink_outputs made = outputs_by (net_for made) sink_roles

-- ---- one stream

-- the low net of a stream that is a wire; its connection has number `place`
abbrev pub low_at : SystemTable → ℕ → ℕ → Option NetValue
low_at system number place =
    if is_wire_at system place then Some (net_of (input_count (ports_of system) + wires_before system number) 1) else None

-- the net is the low net of the stream of this number
abbrev pub IsLowOf : SystemTable → ℕ → Option NetValue → Type 0
IsLowOf system number low = (place : ℕ) → slice_get (streams_of system) number ≡ Some place → low ≡ low_at system number place

-- what stands between the ends of a stream was added
pub record AddsStream (system : SystemTable) (link : StreamConnection) (low : Option NetValue) (old new : Netlist)
    (made : PathNets) : Type 0 where
  pub from : SourceNets
  pub ready : Option NetValue
  pub from_are : AreInputs system link.source_end (declared link.source) from
  pub ready_is : ready ≡ input_at system link.sink_end role.Ready 1
  pub nets : ArePathNets new (declared link.sink) made
  pub serves : ServesInLonger (declared link.source) (declared link.sink) link.fifo from ready made new
  pub grows : GrowsInMemory most_nets most_memories old new
  pub no_more_wait : StillWait new old
  pub no_more_wait_for_write : StillWaitForWrite new old
  pub wire : IfSome low (λ net. made ≡ wire_nets from ready net)

-- a stream whose outputs are driven by what serves it
pub record IsJoinedStream (system : SystemTable) (netlist : Netlist) (number place : ℕ) (connection : Connection)
    (source : StreamPort) (sink : StreamPort) : Type 0 where
  pub from : SourceNets
  pub ready : Option NetValue
  pub made : PathNets
  pub from_are : AreInputs system connection.start (declared source) from
  pub ready_is : ready ≡ input_at system connection.end role.Ready 1
  pub serves : ServesInLonger (declared source) (declared sink) connection.fifo from ready made netlist
  pub source_driven : AreDrivenAt system connection.start (source_outputs made) netlist
  pub sink_driven : AreDrivenAt system connection.end (sink_outputs made) netlist
  pub wire : IfSome (low_at system number place) (λ net. made ≡ wire_nets from ready net)

-- ---- all streams

-- so many nets that are always low
abbrev pub low_lines : ℕ → List Line
low_lines zero = []
low_lines (suc count) = low_line ∷ low_lines count

-- the netlist with so many of them
abbrev pub with_lows : Netlist → ℕ → Netlist
with_lows netlist count = record netlist { lines = netlist.lines ++ low_lines count }

-- a low net was added, where one is asked for, and else nothing
abbrev pub AddsLow : Bool → Netlist → Netlist → Option NetValue → Type 0
AddsLow true old new low = (new ≡ appended old low_line) × (low ≡ Some (net_of (length old.lines) 1)) × StillWait new old
AddsLow false old new low = (new ≡ old) × (low ≡ None)

-- the low nets stand behind those of the inputs, in the order of the wires
abbrev pub HasLows : SystemTable → Netlist → Type 0
HasLows system netlist =
    (n : ℕ) → n < wires_before system (length (streams_of system))
    → slice_get netlist.lines (input_count (ports_of system) + n) ≡ Some low_line

-- the low nets of the first streams
pub record AreLows (system : SystemTable) (number : ℕ) (lows : List (Option NetValue)) : Type 0 where
  pub count : length lows ≡ number
  pub each : (n place : ℕ) → n < number → slice_get (streams_of system) n ≡ Some place
      → slice_get lows n ≡ Some (low_at system n place)

-- the header with the low nets, and no output driven
pub record IsBegun (system : SystemTable) (netlist : Netlist) : Type 0 where
  pub name : netlist.name ≡ module_name system
  pub ports : netlist.ports ≡ ports_of system
  pub lows : HasLows system netlist
  pub undriven : (port : ℕ) → driver_of netlist port ≡ None
  pub clocked : IsClocked netlist
  pub written : IsWritten netlist
  pub few : length netlist.lines ≤ input_count (ports_of system) + length (streams_of system)
  pub memories : netlist.memories ≡ []

-- ---- memory and streams

-- the port is none of a host's or an agent's, nor of those of the streams below this number
pub record IsFree (plan : PlanTable) (streams : ℕ) (port : ℕ) : Type 0 where
  pub of_hosts : IsNoPortOfEach plan.system (hosts_of plan.system) port
  pub of_agents : IsNoPortOfEach plan.system (agents_of plan.system) port
  pub of_sources : (n : ℕ) (connection : Connection) (source : StreamPort) (sink : StreamPort) → n < streams
      → IsStream plan.system n connection source sink → IsNoPortOf plan.system connection.start port
  pub of_sinks : (n : ℕ) (connection : Connection) (source : StreamPort) (sink : StreamPort) → n < streams
      → IsStream plan.system n connection source sink → IsNoPortOf plan.system connection.end port

-- hosts and agents are joined, and the streams below this number; no other port is driven
pub record IsJoinedUpTo (plan : PlanTable) (streams : ℕ) (netlist : Netlist) : Type 0 where
  pub name : netlist.name ≡ module_name plan.system
  pub ports : netlist.ports ≡ ports_of plan.system
  pub lows : HasLows plan.system netlist
  pub memory : 0 < length (hosts_of plan.system) → HasFabric plan netlist
  pub joined : (n place : ℕ) (connection : Connection) (source : StreamPort) (sink : StreamPort) → n < streams
      → slice_get (streams_of plan.system) n ≡ Some place
      → IsStream plan.system n connection source sink → IsJoinedStream plan.system netlist n place connection source sink
  pub rest : (port : ℕ) → IsFree plan streams port → driver_of netlist port ≡ None
  pub clocked : IsClocked netlist
  pub written : IsWritten netlist
  pub few : length netlist.lines
      ≤ input_count (ports_of plan.system) + length (streams_of plan.system) + memory_nets plan.system + streams * most_nets
  pub few_memories : length netlist.memories ≤ system_memories plan.system + streams * most_memories
