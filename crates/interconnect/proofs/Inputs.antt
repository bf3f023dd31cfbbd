-- The nets at the inputs of a stream.
use Rattle.std.proofs.Common.{◌≡◌, ℕ, ◌+◌, ◌*◌, ◌<◌, ◌≤◌, ◌^◌, Bool, true, false, List, Option, Some, None, slice_get, length, inl, inr, refl, sym, ap, subst, ◌∙◌, arith}
use Rattle.std.specs.Prelude.{IfSome, IsSome, is_some, option_map, nat_lt, if◌then◌else◌}
use Rattle.std.proofs.lemmas.Bool.Decides.{Decides-ltb}
use Rattle.iface_roles.specs.declared.records.Finished.TheVariants.{Source, Sink}
use Rattle.iface_roles.specs.declared.records.StreamPort.{StreamPort}
use Rattle.iface_roles.specs.Proper.{IsProper, IsBoundedStream}
use Rattle.system_tables.specs.declared.tables.EndId.{EndId}
use Rattle.system_tables.specs.Tables.{SystemTable}
use Rattle.address_map.specs.Footprints.{known_at}
use Rattle.link_rules.specs.declared.plan_connections.StreamConnection.{StreamConnection}
use Rattle.link_rules.specs.Links.{streams_of}
use Rattle.link_rules.specs.Plans.{PlanTable}
use Rattle.link_rules.specs.PlanConnections.{IsStreamConnection}
use Rattle.netlist.specs.declared.line.PortLine.{PortLine}
use Rattle.netlist.specs.Nets.{NetValue, net_of}
use Rattle.netlist.specs.Netlists.{Netlist, IsInputPort, input_count, input_net}
use Rattle.net_parts.specs.Nets.{IsNetOfWidth}
use Rattle.st_timing.specs.Ends.{declared}
use Rattle.st_path.specs.Ends.{IsNetIf, AreSourceNets, ArePathNets}
use Rattle.st_path.specs.Serving.{most_nets, most_memories, ServesInLonger}
use Rattle.st_path.specs.declared.ends.SourceNets.{SourceNets}
use Rattle.st_path.specs.declared.ends.PathNets.{PathNets}
use Rattle.port_tables.specs.declared.roles.PortRole.{PortRole}
use Rattle.port_tables.specs.declared.roles.PortRole.TheVariants as role
use Rattle.port_tables.specs.declared.roles.RolePort.{RolePort}
use Rattle.port_tables.specs.Ports.{is_output, bits_if, port_of, stream_ports, ends_of, ports_of}
use Rattle.port_tables.specs.PortMaps.{HasKnownPorts, port_at, IsPortIf}
use Rattle.port_tables.specs.Wires.{is_wire_at, wires_before}
use Rattle.interconnect.specs.Streams.{low_line}
use Rattle.interconnect.specs.Outputs.{IsInputIf, input_at}
use Rattle.interconnect.specs.Joins.{AreInputs, wire_nets, low_at, AddsStream, HasLows, IsJoinedUpTo}
use Rattle.port_tables.specs.EndFacts.{known_is}
use Rattle.interconnect.proofs.Forms.{wire_is}
use Rattle.port_tables.specs.Numbering.{plan_end}
use Rattle.interconnect.proofs.StreamEnds.{source_known, sink_known, source_among, sink_among}
use Rattle.interconnect.proofs.WireNets.{WiresAreServed, wire_serves, wire_path, low_bit, grows-none}
use Rattle.interconnect.proofs.Weights.{HasFewLinks, memory_room}
use Rattle.interconnect.proofs.LowNets.{mul_some, wire_below, wire_test}
use Rattle.port_tables.specs.Lists.{Among}

-- ---- one input

-- what was read of an input
pub record IsRead (system : SystemTable) (netlist : Netlist) (end : EndId) (r : PortRole) (net : Option NetValue) : Type 0 where
  pub net_is : (width : ℕ) → IsInputIf system end r width → net ≡ input_at system end r width
  pub is : (width : ℕ) → IsInputIf system end r width → IfSome net (λ n. IsNetOfWidth netlist n width)

input_port : (ports : List PortLine) (width : ℕ) (o : Option ℕ) → IsPortIf ports false width o → IfSome o (λ k. IsInputPort ports k width)
input_port ports width None p = tt
input_port ports width (Some k) p = record { port = p.port; is = p.is; input = p.output_is; width = p.width_is }

bit_port : (ports : List PortLine) (present : Bool) (o : Option ℕ) → IsPortIf ports false (bits_if present 1) o → IfSome o (λ k. IsInputPort ports k 1)
bit_port ports true o p = input_port ports 1 o p
bit_port ports false None p = tt
bit_port ports false (Some k) p = (let some = p.some in absurd (omega (arith, some)))

-- the ports of a source, and `ready` of a sink
pub record IsSourceAt (system : SystemTable) (end : EndId) (source : StreamPort) : Type 0 where
  pub ports : HasKnownPorts system
  pub among : Among end (ends_of system)
  pub known : known_at system end ≡ Source source

source_port : (system : SystemTable) (end : EndId) (source : StreamPort) (p : RolePort) → IsSourceAt system end source → Among p (stream_ports (declared source)) → is_output true p.role ≡ false
    → IsPortIf (ports_of system) false p.width (port_at system end p.role)
source_port system end source p h may way =
    subst (λ (b : Bool). IsPortIf (ports_of system) b p.width (port_at system end p.role)) way (h.ports.known end (Source source) p h.among h.known may)

valid_port : (system : SystemTable) (end : EndId) (source : StreamPort) → IsSourceAt system end source → IsPortIf (ports_of system) false 1 (port_at system end role.Valid)
valid_port system end source h = source_port system end source (port_of role.Valid 1) h (inr (inl refl)) refl

data_port : (system : SystemTable) (end : EndId) (source : StreamPort) → IsSourceAt system end source → IsPortIf (ports_of system) false (source.symbols * source.symbol_bits) (port_at system end role.Data)
data_port system end source h = source_port system end source (port_of role.Data (source.symbols * source.symbol_bits)) h (inr (inr (inl refl))) refl

channel_port : (system : SystemTable) (end : EndId) (source : StreamPort) → IsSourceAt system end source → IsPortIf (ports_of system) false source.channel_bits (port_at system end role.Channel)
channel_port system end source h = source_port system end source (port_of role.Channel source.channel_bits) h (inr (inr (inr (inl refl)))) refl

error_port : (system : SystemTable) (end : EndId) (source : StreamPort) → IsSourceAt system end source → IsPortIf (ports_of system) false source.error_bits (port_at system end role.Error)
error_port system end source h = source_port system end source (port_of role.Error source.error_bits) h (inr (inr (inr (inr (inl refl))))) refl

start_port : (system : SystemTable) (end : EndId) (source : StreamPort) → IsSourceAt system end source → IsPortIf (ports_of system) false (bits_if source.packets 1) (port_at system end role.StartOfPacket)
start_port system end source h = source_port system end source (port_of role.StartOfPacket (bits_if source.packets 1)) h (inr (inr (inr (inr (inr (inl refl)))))) refl

end_port : (system : SystemTable) (end : EndId) (source : StreamPort) → IsSourceAt system end source → IsPortIf (ports_of system) false (bits_if source.packets 1) (port_at system end role.EndOfPacket)
end_port system end source h = source_port system end source (port_of role.EndOfPacket (bits_if source.packets 1)) h (inr (inr (inr (inr (inr (inr (inl refl))))))) refl

empty_port : (system : SystemTable) (end : EndId) (source : StreamPort) → IsSourceAt system end source → IsPortIf (ports_of system) false source.empty_bits (port_at system end role.Empty)
empty_port system end source h = source_port system end source (port_of role.Empty source.empty_bits) h (inr (inr (inr (inr (inr (inr (inr (inl refl)))))))) refl

pub source_at : (system : SystemTable) (end : EndId) (source : StreamPort) → HasKnownPorts system → Among end (ends_of system) → known_at system end ≡ Source source → IsSourceAt system end source
source_at system end source h a e = record { ports = h; among = a; known = e }

pub valid_input : (system : SystemTable) (end : EndId) (source : StreamPort) → IsSourceAt system end source → IsInputIf system end role.Valid 1
valid_input system end source h = input_port (ports_of system) 1 (port_at system end role.Valid) (valid_port system end source h)

pub data_input : (system : SystemTable) (end : EndId) (source : StreamPort) → IsSourceAt system end source → IsInputIf system end role.Data (source.symbols * source.symbol_bits)
data_input system end source h = input_port (ports_of system) (source.symbols * source.symbol_bits) (port_at system end role.Data) (data_port system end source h)

pub channel_input : (system : SystemTable) (end : EndId) (source : StreamPort) → IsSourceAt system end source → IsInputIf system end role.Channel source.channel_bits
channel_input system end source h = input_port (ports_of system) source.channel_bits (port_at system end role.Channel) (channel_port system end source h)

pub error_input : (system : SystemTable) (end : EndId) (source : StreamPort) → IsSourceAt system end source → IsInputIf system end role.Error source.error_bits
error_input system end source h = input_port (ports_of system) source.error_bits (port_at system end role.Error) (error_port system end source h)

pub start_input : (system : SystemTable) (end : EndId) (source : StreamPort) → IsSourceAt system end source → IsInputIf system end role.StartOfPacket 1
start_input system end source h = bit_port (ports_of system) source.packets (port_at system end role.StartOfPacket) (start_port system end source h)

pub end_input : (system : SystemTable) (end : EndId) (source : StreamPort) → IsSourceAt system end source → IsInputIf system end role.EndOfPacket 1
end_input system end source h = bit_port (ports_of system) source.packets (port_at system end role.EndOfPacket) (end_port system end source h)

pub empty_input : (system : SystemTable) (end : EndId) (source : StreamPort) → IsSourceAt system end source → IsInputIf system end role.Empty source.empty_bits
empty_input system end source h = input_port (ports_of system) source.empty_bits (port_at system end role.Empty) (empty_port system end source h)

-- ---- nets

-- a net where the end has the port
net_if : (ports : List PortLine) (netlist : Netlist) (width : ℕ) (o : Option ℕ) (net : Option NetValue) → IsPortIf ports false width o → net ≡ option_map (λ (k : ℕ). net_of (input_net ports k) width) o
    → IfSome net (λ n. IsNetOfWidth netlist n width) → IsNetIf (nat_lt 0 width) width netlist net
net_if ports netlist width None net p e is = subst (λ (w : ℕ). IsNetIf (nat_lt 0 w) w netlist net) (sym p) e
net_if ports netlist width (Some k) net p e is =
    subst (λ (b : Bool). IsNetIf b width netlist net) (sym ((Decides-ltb 0 width).1 p.some))
    (subst (λ (o : Option NetValue). IsNetIf true width netlist o) (sym e) (subst (λ (o : Option NetValue). IfSome o (λ n. IsNetOfWidth netlist n width)) e is))

pub bit_if : (ports : List PortLine) (netlist : Netlist) (present : Bool) (o : Option ℕ) (net : Option NetValue) → IsPortIf ports false (bits_if present 1) o → net ≡ option_map (λ (k : ℕ). net_of (input_net ports k) 1) o
    → IfSome net (λ n. IsNetOfWidth netlist n 1) → IsNetIf present 1 netlist net
bit_if ports netlist true o net p e is = net_if ports netlist 1 o net p e is
bit_if ports netlist false None net p e is = e
bit_if ports netlist false (Some k) net p e is = (let some = p.some in absurd (omega (arith, some)))

some_port : (ports : List PortLine) (width : ℕ) (o : Option ℕ) → 0 < width → IsPortIf ports false width o → is_some o ≡ true
some_port ports width None some p = absurd (omega (arith, some, p))
some_port ports width (Some k) some p = refl

mapped_some : (o : Option ℕ) (f : ℕ → NetValue) → is_some o ≡ true → IsSome (option_map f o)
mapped_some None f e = e
mapped_some (Some k) f e = refl

read_some : (system : SystemTable) (netlist : Netlist) (end : EndId) (r : PortRole) (width : ℕ) (net : Option NetValue) → IsRead system netlist end r net → 0 < width
    → IsPortIf (ports_of system) false width (port_at system end r) → IsSome net
read_some system netlist end r width net read some port =
    subst IsSome (sym (read.net_is width (input_port (ports_of system) width (port_at system end r) port)))
    (mapped_some (port_at system end r) (λ (k : ℕ). net_of (input_net (ports_of system) k) width) (some_port (ports_of system) width (port_at system end r) some port))

pub valid_some : (system : SystemTable) (netlist : Netlist) (end : EndId) (source : StreamPort) (net : Option NetValue) → IsSourceAt system end source → IsRead system netlist end role.Valid net → IsSome net
valid_some system netlist end source net h read = read_some system netlist end role.Valid 1 net read (omega arith) (valid_port system end source h)

pub data_some : (system : SystemTable) (netlist : Netlist) (end : EndId) (source : StreamPort) (net : Option NetValue) → IsSourceAt system end source → IsBoundedStream source → IsRead system netlist end role.Data net → IsSome net
data_some system netlist end source net h bounded read =
    read_some system netlist end role.Data (source.symbols * source.symbol_bits) net read (mul_some source.symbols source.symbol_bits bounded.some bounded.bit) (data_port system end source h)

pub bounded_at : (system : SystemTable) (end : EndId) (source : StreamPort) → IsSourceAt system end source → ((source : StreamPort) → IsProper (Source source) → IsBoundedStream source) → IsBoundedStream source
bounded_at system end source h law =
    let at = plan_end system end h.ports.planned h.among in
    law source (subst IsProper (sym (known_is system end at.known at.is) ∙ h.known) at.proper)

-- what was read of all inputs of a source
pub record AreRead (system : SystemTable) (netlist : Netlist) (end : EndId) (valid word channel error startofpacket endofpacket empty : Option NetValue) : Type 0 where
  pub valid_is : IsRead system netlist end role.Valid valid
  pub word_is : IsRead system netlist end role.Data word
  pub channel_is : IsRead system netlist end role.Channel channel
  pub error_is : IsRead system netlist end role.Error error
  pub start_is : IsRead system netlist end role.StartOfPacket startofpacket
  pub end_is : IsRead system netlist end role.EndOfPacket endofpacket
  pub empty_is : IsRead system netlist end role.Empty empty

pub are_inputs : (system : SystemTable) (netlist : Netlist) (end : EndId) (source : StreamPort) (valid word : NetValue) (v d channel error startofpacket endofpacket empty : Option NetValue) → IsSourceAt system end source
    → AreRead system netlist end v d channel error startofpacket endofpacket empty → v ≡ Some valid → d ≡ Some word
    → AreInputs system end (declared source)
    (record { valid = valid; word = word; channel = channel; error = error; startofpacket = startofpacket; endofpacket = endofpacket; empty = empty })
are_inputs system netlist end source valid word v d channel error startofpacket endofpacket empty h read e f =
    record {
      valid = sym (read.valid_is.net_is 1 (valid_input system end source h)) ∙ e;
      word = sym (read.word_is.net_is (source.symbols * source.symbol_bits) (data_input system end source h)) ∙ f;
      channel = read.channel_is.net_is source.channel_bits (channel_input system end source h);
      error = read.error_is.net_is source.error_bits (error_input system end source h);
      startofpacket = read.start_is.net_is 1 (start_input system end source h);
      endofpacket = read.end_is.net_is 1 (end_input system end source h);
      empty = read.empty_is.net_is source.empty_bits (empty_input system end source h);
    }

some_net : (netlist : Netlist) (width : ℕ) (o : Option NetValue) (net : NetValue) → o ≡ Some net → IfSome o (λ n. IsNetOfWidth netlist n width) → IsNetOfWidth netlist net width
some_net netlist width o net e is = subst (λ (o : Option NetValue). IfSome o (λ n. IsNetOfWidth netlist n width)) e is

pub are_nets : (system : SystemTable) (netlist : Netlist) (end : EndId) (source : StreamPort) (valid word : NetValue) (v d channel error startofpacket endofpacket empty : Option NetValue) → IsSourceAt system end source
    → AreRead system netlist end v d channel error startofpacket endofpacket empty → v ≡ Some valid → d ≡ Some word
    → AreSourceNets netlist (declared source)
    (record { valid = valid; word = word; channel = channel; error = error; startofpacket = startofpacket; endofpacket = endofpacket; empty = empty })
are_nets system netlist end source valid word v d channel error startofpacket endofpacket empty h read e f =
    let channel_here = channel_input system end source h in
    let error_here = error_input system end source h in
    let start_here = start_input system end source h in
    let end_here = end_input system end source h in
    let empty_here = empty_input system end source h in
    record {
      valid = some_net netlist 1 v valid e (read.valid_is.is 1 (valid_input system end source h));
      word = some_net netlist (source.symbols * source.symbol_bits) d word f (read.word_is.is (source.symbols * source.symbol_bits) (data_input system end source h));
      channel = net_if (ports_of system) netlist source.channel_bits (port_at system end role.Channel) channel (channel_port system end source h) (read.channel_is.net_is source.channel_bits channel_here) (read.channel_is.is source.channel_bits channel_here);
      error = net_if (ports_of system) netlist source.error_bits (port_at system end role.Error) error (error_port system end source h) (read.error_is.net_is source.error_bits error_here) (read.error_is.is source.error_bits error_here);
      startofpacket = bit_if (ports_of system) netlist source.packets (port_at system end role.StartOfPacket) startofpacket (start_port system end source h) (read.start_is.net_is 1 start_here) (read.start_is.is 1 start_here);
      endofpacket = bit_if (ports_of system) netlist source.packets (port_at system end role.EndOfPacket) endofpacket (end_port system end source h) (read.end_is.net_is 1 end_here) (read.end_is.is 1 end_here);
      empty = net_if (ports_of system) netlist source.empty_bits (port_at system end role.Empty) empty (empty_port system end source h) (read.empty_is.net_is source.empty_bits empty_here) (read.empty_is.is source.empty_bits empty_here);
    }

-- ---- the ends of a link

pub source_of : (system : SystemTable) (number : ℕ) (link : StreamConnection) → HasKnownPorts system → IsStreamConnection system number link → IsSourceAt system link.source_end link.source
source_of system number link h is = source_at system link.source_end link.source h (source_among system number link h.planned is) (source_known system number link is)

pub record IsSinkAt (system : SystemTable) (end : EndId) (sink : StreamPort) : Type 0 where
  pub ports : HasKnownPorts system
  pub among : Among end (ends_of system)
  pub known : known_at system end ≡ Sink sink

pub sink_of : (system : SystemTable) (number : ℕ) (link : StreamConnection) → HasKnownPorts system → IsStreamConnection system number link → IsSinkAt system link.sink_end link.sink
sink_of system number link h is = record { ports = h; among = sink_among system number link h.planned is; known = sink_known system number link is }

ready_port : (system : SystemTable) (end : EndId) (sink : StreamPort) → IsSinkAt system end sink → IsPortIf (ports_of system) false (bits_if sink.ready 1) (port_at system end role.Ready)
ready_port system end sink h = h.ports.known end (Sink sink) (port_of role.Ready (bits_if sink.ready 1)) h.among h.known (inl refl)

pub ready_input : (system : SystemTable) (end : EndId) (sink : StreamPort) → IsSinkAt system end sink → IsInputIf system end role.Ready 1
ready_input system end sink h = bit_port (ports_of system) sink.ready (port_at system end role.Ready) (ready_port system end sink h)

pub ready_if : (system : SystemTable) (end : EndId) (sink : StreamPort) (netlist : Netlist) (net : Option NetValue) → IsSinkAt system end sink → IsRead system netlist end role.Ready net → IsNetIf sink.ready 1 netlist net
ready_if system end sink netlist net h read =
    let here = ready_input system end sink h in
    bit_if (ports_of system) netlist sink.ready (port_at system end role.Ready) net (ready_port system end sink h) (read.net_is 1 here) (read.is 1 here)

pub path_room : (plan : PlanTable) (number : ℕ) (netlist : Netlist) → HasKnownPorts plan.system → HasFewLinks plan.system → number < length (streams_of plan.system) → IsJoinedUpTo plan number netlist
    → length netlist.lines + most_nets ≤ 2 ^ 20
path_room plan number netlist h links inside upto =
    let few = upto.few in
    let inputs = h.few_inputs in
    let memory = memory_room plan.system h.planned links in
    let streams = h.planned.few_streams in
    omega (arith, few, inputs, memory, streams, inside)

pub path_memory_room : (plan : PlanTable) (number : ℕ) (netlist : Netlist) → HasKnownPorts plan.system → HasFewLinks plan.system → number < length (streams_of plan.system) → IsJoinedUpTo plan number netlist
    → length netlist.memories + most_memories ≤ 2 ^ 16
path_memory_room plan number netlist h links inside upto =
    let few = upto.few_memories in
    let few_links = links.agents in
    let hosts = h.planned.few_hosts in
    let agents = h.planned.few_agents in
    let streams = h.planned.few_streams in
    omega (arith, few, few_links, hosts, agents, streams, inside)

-- ---- what was added

-- a stream with a low net is a wire, and the net is its own
low_known : (system : SystemTable) (number place : ℕ) (low : NetValue) (b : Bool) → is_wire_at system place ≡ b → Some low ≡ (if b then Some (net_of (input_count (ports_of system) + wires_before system number) 1) else None)
    → (is_wire_at system place ≡ true) × (low ≡ net_of (input_count (ports_of system) + wires_before system number) 1)
low_known system number place low true e f = (e, cc)
low_known system number place low false e f = absurd (let none : Some low ≡ None = f in cc)

pub adds_wire : WiresAreServed → (system : SystemTable) (number : ℕ) (link : StreamConnection) (low : NetValue) (netlist : Netlist) (from : SourceNets) (ready : Option NetValue) (made : PathNets) → HasKnownPorts system
    → IsStreamConnection system number link → IsBoundedStream link.source → AreInputs system link.source_end (declared link.source) from → AreSourceNets netlist (declared link.source) from
    → IsRead system netlist link.sink_end role.Ready ready → Some low ≡ low_at system number link.connection → HasLows system netlist → made ≡ wire_nets from ready low
    → AddsStream system link (Some low) netlist netlist made
adds_wire law system number link low netlist from ready made h at bounded inputs nets read low_is lows is =
    let source = declared link.source in
    let sink = declared link.sink in
    let end = sink_of system number link h at in
    let known = low_known system number link.connection low (is_wire_at system link.connection) refl low_is in
    let wire = wire_is source sink link.fifo (sym (wire_test system number link at) ∙ known.0) in
    let there = ready_if system link.sink_end link.sink netlist ready end read in
    let line = lows (wires_before system number) (wire_below system number link.connection at.place_is known.0) in
    let number_is : low.number ≡ input_count (ports_of system) + wires_before system number = ap (λ (n : NetValue). n.number) known.1 in
    record {
      from = from;
      ready = ready;
      from_are = inputs;
      ready_is = read.net_is 1 (ready_input system link.sink_end link.sink end);
      nets = subst (ArePathNets netlist sink) (sym is) (wire_path netlist source sink from ready low wire.alike nets there
          (low_bit netlist low (input_count (ports_of system) + wires_before system number) known.1 line));
      serves = subst (λ (m : PathNets). ServesInLonger source sink link.fifo from ready m netlist) (sym is)
          (wire_serves law netlist source sink link.fifo from ready low wire bounded.some nets there (subst (λ (n : ℕ). slice_get netlist.lines n ≡ Some low_line) (sym number_is) line));
      grows = grows-none most_nets most_memories netlist;
      no_more_wait = λ n w. w;
      no_more_wait_for_write = λ m w. w;
      wire = is;
    }
