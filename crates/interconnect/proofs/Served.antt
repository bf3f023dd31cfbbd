-- A joined stream is served, and one that is a wire joins each output to its input.
use Rattle.std.proofs.Common.{◌≡◌, ◌⊎◌, inl, inr, ℕ, ◌+◌, ◌*◌, ◌<◌, Bool, true, false, not, List, slice_get, Option, Some, None, codes, refl, sym, ap, subst, ◌∙◌, arith}
use Rattle.std.specs.Prelude.{IfSome, IsSome, option_map, unwrap_or, nat_lt, if◌then◌else◌}
use Rattle.std.specs.List.{filter}
use Rattle.std.proofs.lemmas.Bool.{ltb-true}
use Rattle.std.proofs.lemmas.Bool.Decides.{Decides-ltb}
use Rattle.iface_roles.specs.declared.records.Finished.TheVariants.{Source, Sink}
use Rattle.system_tables.specs.declared.tables.EndId.{EndId}
use Rattle.system_tables.specs.declared.tables.Connection.{Connection}
use Rattle.system_tables.specs.Tables.{SystemTable}
use Rattle.address_map.specs.Footprints.{known_at}
use Rattle.iface_roles.specs.declared.records.Finished.{Finished}
use Rattle.iface_roles.specs.declared.records.StreamPort.{StreamPort}
use Rattle.netlist.specs.declared.line.PortLine.{PortLine}
use Rattle.netlist.specs.Nets.{NetValue, net_of}
use Rattle.netlist.specs.Netlists.{Netlist, IsWellMade, driver_of, input_count, input_net}
use Rattle.netlist.specs.Runs.{Run}
use Rattle.netlist.specs.Signals.{port_named, signal}
use Rattle.stream_runs.specs.Source.{IsLegalSource}
use Rattle.stream_runs.specs.Awake.{IsServedAwake}
use Rattle.stream_runs.specs.Ends.{Declared, Signals, side_of, view_of, signal_or, stream_of, run_of}
use Rattle.st_timing.specs.Ends.{declared}
use Rattle.st_path.specs.Ends.{signal_on, signal_of, signal_where, source_signals, sink_signals}
use Rattle.st_path.specs.declared.ends.PathNets.{PathNets}
use Rattle.port_tables.specs.declared.roles.PortRole.{PortRole}
use Rattle.port_tables.specs.declared.roles.PortRole.TheVariants as role
use Rattle.port_tables.specs.declared.roles.RolePort.{RolePort}
use Rattle.port_tables.specs.Lists.{Among, among_at, among_filter}
use Rattle.port_tables.specs.Ports.{role_word, is_forward, is_output, bits_if, port_of, port_name, stream_ports, has_bits, name_at, ports_of}
use Rattle.port_tables.specs.PortMaps.{IsPortIf, HasKnownPorts, port_at}
use Rattle.port_tables.specs.Ends.{IsStreamPlace}
use Rattle.port_tables.specs.Wires.{is_wire_stream, is_wire_as, is_wire_at, wires_before}
use Rattle.interconnect.specs.Streams.{end_signals, dropped_signal, ServesStream, IsDrivenBy, IsJoined, IsWired, low_line}
use Rattle.interconnect.specs.Outputs.{input_at}
use Rattle.interconnect.specs.Joins.{wire_nets, source_roles, sink_roles, net_for, low_at, IsJoinedStream}
use Rattle.interconnect.proofs.Forms.{IsWire, wire_is}
use Rattle.interconnect.proofs.Driving.{each_at, role_driven, extends-refl}
use Rattle.interconnect.proofs.StreamEnds.{start_among, finish_among}
use Rattle.interconnect.proofs.Joining.{output_roles, output_at, output_width, outputs_are}
use Rattle.interconnect.proofs.Shown.{shown, shown_at, output_shown, input_shown, bits_lt, driven_some, no_input}
use Rattle.interconnect.proofs.WireNets.{same_signals}

-- a stream in a finished netlist
pub record IsJoinedIn (system : SystemTable) (number : ℕ) (connection : Connection) (netlist : Netlist) : Type 0 where
  pub known : HasKnownPorts system
  pub at : IsStreamPlace system number connection
  pub well_made : IsWellMade netlist
  pub ports : netlist.ports ≡ ports_of system
  pub some_bits : 0 < at.sink_port.symbols * at.sink_port.symbol_bits
  pub joined : IsJoinedStream system netlist number at.place connection at.source_port at.sink_port

-- ---- signals

driven_role : (system : SystemTable) (number : ℕ) (connection : Connection) (netlist : Netlist) (j : IsJoinedIn system number connection netlist) (n : ℕ) (r : PortRole) → slice_get output_roles n ≡ Some r
    → IfSome (output_at system connection r) (λ port. driver_of netlist port ≡ Some (net_for j.joined.made r).number)
driven_role system number connection netlist j n r is =
    each_at (λ (r : PortRole). IfSome (output_at system connection r) (λ port. driver_of netlist port ≡ Some (net_for j.joined.made r).number)) output_roles n r
    (source 0 role.Ready refl, (sink 0 role.Valid refl, (sink 1 role.Data refl, (sink 2 role.Channel refl, (sink 3 role.Error refl, (sink 4 role.StartOfPacket refl, (sink 5 role.EndOfPacket refl, (sink 6 role.Empty refl, (sink 7 role.Dropped refl, tt))))))))) is
  where
    source : (n : ℕ) (r : PortRole) → slice_get source_roles n ≡ Some r → IfSome (port_at system connection.start r) (λ port. driver_of netlist port ≡ Some (net_for j.joined.made r).number)
    source = role_driven system connection.start (net_for j.joined.made) source_roles netlist j.joined.source_driven

    sink : (n : ℕ) (r : PortRole) → slice_get sink_roles n ≡ Some r → IfSome (port_at system connection.end r) (λ port. driver_of netlist port ≡ Some (net_for j.joined.made r).number)
    sink = role_driven system connection.end (net_for j.joined.made) sink_roles netlist j.joined.sink_driven

-- what stands at an output of a stream, and what at an input
out : (system : SystemTable) (number : ℕ) (connection : Connection) (netlist : Netlist) (run : Run) (n : ℕ) (r : PortRole) (end : EndId) (present : Bool) (j : IsJoinedIn system number connection netlist)
    → slice_get output_roles n ≡ Some r → output_at system connection r ≡ port_at system end r → nat_lt 0 (output_width (declared j.at.source_port) (declared j.at.sink_port) r) ≡ present
    → signal netlist run (port_name (name_at system end) (role_word r)) ≡ signal_where present run (net_for j.joined.made r)
out system number connection netlist run n r end present j e is there =
    shown_at system netlist run end r j.ports
    ∙ ap (shown netlist run) (sym is)
    ∙ output_shown (ports_of system) netlist run present (output_width (declared j.at.source_port) (declared j.at.sink_port) r) (net_for j.joined.made r) (output_at system connection r) there
    (outputs_are system number connection j.known j.at n r e) (driven_role system number connection netlist j n r e)

inp : (system : SystemTable) (number : ℕ) (connection : Connection) (netlist : Netlist) (run : Run) (end : EndId) (p : RolePort) (net : Option NetValue) (j : IsJoinedIn system number connection netlist)
    → IsPortIf (ports_of system) false p.width (port_at system end p.role) → net ≡ input_at system end p.role p.width
    → signal netlist run (port_name (name_at system end) (role_word p.role)) ≡ signal_of run net
inp system number connection netlist run end p net j port is =
    shown_at system netlist run end p.role j.ports ∙ input_shown (ports_of system) netlist run p.width net (port_at system end p.role) j.well_made j.ports port is

-- an input of a source
source_input : (system : SystemTable) (number : ℕ) (connection : Connection) (netlist : Netlist) (run : Run) (p : RolePort) (net : Option NetValue) (j : IsJoinedIn system number connection netlist)
    → Among p (stream_ports (declared j.at.source_port)) → is_output true p.role ≡ false → net ≡ input_at system connection.start p.role p.width
    → signal netlist run (port_name (name_at system connection.start) (role_word p.role)) ≡ signal_of run net
source_input system number connection netlist run p net j may way is =
    inp system number connection netlist run connection.start p net j
    (subst (λ (b : Bool). IsPortIf (ports_of system) b p.width (port_at system connection.start p.role)) way
    (j.known.known connection.start (Source j.at.source_port) p (start_among system number connection j.at) j.at.source_is may)) is

packet_width : (system : SystemTable) (end : EndId) (r : PortRole) (packets : Bool) (net : Option NetValue) → IsPortIf (ports_of system) false (bits_if packets 1) (port_at system end r) → net ≡ input_at system end r 1
    → net ≡ input_at system end r (bits_if packets 1)
packet_width system end r true net port is = is
packet_width system end r false net port is = is ∙ by_port (port_at system end r) port
  where
    by_port : (o : Option ℕ) → IsPortIf (ports_of system) false 0 o → option_map (λ (k : ℕ). net_of (input_net (ports_of system) k) 1) o ≡ option_map (λ (k : ℕ). net_of (input_net (ports_of system) k) 0) o
    by_port None e = refl
    by_port (Some k) p = (let some = p.some in absurd (omega (arith, some)))

source_port_of : (system : SystemTable) (number : ℕ) (connection : Connection) (netlist : Netlist) (p : RolePort) (j : IsJoinedIn system number connection netlist)
    → Among p (stream_ports (declared j.at.source_port)) → is_output true p.role ≡ false → IsPortIf (ports_of system) false p.width (port_at system connection.start p.role)
source_port_of system number connection netlist p j may way =
    subst (λ (b : Bool). IsPortIf (ports_of system) b p.width (port_at system connection.start p.role)) way
    (j.known.known connection.start (Source j.at.source_port) p (start_among system number connection j.at) j.at.source_is may)

source_shown : (system : SystemTable) (number : ℕ) (connection : Connection) (netlist : Netlist) (run : Run) (j : IsJoinedIn system number connection netlist)
    → end_signals netlist run (name_at system connection.start) ≡ source_signals (declared j.at.source_port) j.joined.from j.joined.made run
source_shown system number connection netlist run j =
    let declared = declared j.at.source_port in
    let input = source_input system number connection netlist run in
    let packets = source_port_of system number connection netlist in
    same_signals _ _
    (out system number connection netlist run 0 role.Ready connection.start declared.ready j refl refl (bits_lt declared.ready))
    (input (port_of role.Valid 1) (Some j.joined.from.valid) j (inr (inl refl)) refl (sym j.joined.from_are.valid))
    (input (port_of role.Data (declared.symbols * declared.symbol_bits)) (Some j.joined.from.word) j (inr (inr (inl refl))) refl (sym j.joined.from_are.word))
    (input (port_of role.Channel declared.channel_bits) j.joined.from.channel j (inr (inr (inr (inl refl)))) refl j.joined.from_are.channel)
    (input (port_of role.Error declared.error_bits) j.joined.from.error j (inr (inr (inr (inr (inl refl))))) refl j.joined.from_are.error)
    (input (port_of role.StartOfPacket (bits_if declared.packets 1)) j.joined.from.startofpacket j (inr (inr (inr (inr (inr (inl refl)))))) refl
    (packet_width system connection.start role.StartOfPacket declared.packets j.joined.from.startofpacket
    (packets (port_of role.StartOfPacket (bits_if declared.packets 1)) j (inr (inr (inr (inr (inr (inl refl)))))) refl) j.joined.from_are.startofpacket))
    (input (port_of role.EndOfPacket (bits_if declared.packets 1)) j.joined.from.endofpacket j (inr (inr (inr (inr (inr (inr (inl refl))))))) refl
    (packet_width system connection.start role.EndOfPacket declared.packets j.joined.from.endofpacket
    (packets (port_of role.EndOfPacket (bits_if declared.packets 1)) j (inr (inr (inr (inr (inr (inr (inl refl))))))) refl) j.joined.from_are.endofpacket))
    (input (port_of role.Empty declared.empty_bits) j.joined.from.empty j (inr (inr (inr (inr (inr (inr (inr (inl refl)))))))) refl j.joined.from_are.empty)

sink_ready_port : (system : SystemTable) (number : ℕ) (connection : Connection) (netlist : Netlist) (j : IsJoinedIn system number connection netlist)
    → IsPortIf (ports_of system) false (bits_if (declared j.at.sink_port).ready 1) (port_at system connection.end role.Ready)
sink_ready_port system number connection netlist j =
    j.known.known connection.end (Sink j.at.sink_port) (port_of role.Ready (bits_if (declared j.at.sink_port).ready 1)) (finish_among system number connection j.at) j.at.sink_is (inl refl)

sink_shown : (system : SystemTable) (number : ℕ) (connection : Connection) (netlist : Netlist) (run : Run) (j : IsJoinedIn system number connection netlist)
    → end_signals netlist run (name_at system connection.end) ≡ sink_signals (declared j.at.sink_port) j.joined.ready j.joined.made run
sink_shown system number connection netlist run j =
    let declared = declared j.at.sink_port in
    let output = out system number connection netlist run in
    same_signals _ _
    (inp system number connection netlist run connection.end (port_of role.Ready (bits_if declared.ready 1)) j.joined.ready j (sink_ready_port system number connection netlist j)
    (packet_width system connection.end role.Ready declared.ready j.joined.ready (sink_ready_port system number connection netlist j) j.joined.ready_is))
    (output 1 role.Valid connection.end true j refl refl refl)
    (output 2 role.Data connection.end true j refl refl ((Decides-ltb 0 (declared.symbols * declared.symbol_bits)).1 j.some_bits))
    (output 3 role.Channel connection.end (nat_lt 0 declared.channel_bits) j refl refl refl)
    (output 4 role.Error connection.end (nat_lt 0 declared.error_bits) j refl refl refl)
    (output 5 role.StartOfPacket connection.end declared.packets j refl refl (bits_lt declared.packets))
    (output 6 role.EndOfPacket connection.end declared.packets j refl refl (bits_lt declared.packets))
    (output 7 role.Empty connection.end (nat_lt 0 declared.empty_bits) j refl refl refl)

-- ---- the stream is served

dropped_shown : (system : SystemTable) (number : ℕ) (connection : Connection) (netlist : Netlist) (run : Run) (j : IsJoinedIn system number connection netlist)
    → dropped_signal netlist run (name_at system connection.end) ≡ signal_on run j.joined.made.dropped
dropped_shown system number connection netlist run j =
    ap (λ (o : Option (ℕ → ℕ)). signal_or 0 o) (out system number connection netlist run 8 role.Dropped connection.end true j refl refl refl)

pub is_served : (system : SystemTable) (number : ℕ) (connection : Connection) (netlist : Netlist) (j : IsJoinedIn system number connection netlist)
    → ServesStream netlist (name_at system connection.start) (name_at system connection.end) (declared j.at.source_port) (declared j.at.sink_port) connection.fifo
is_served system number connection netlist j run cycles is_run legal =
    let source = declared j.at.source_port in
    let sink = declared j.at.sink_port in
    let from = source_shown system number connection netlist run j in
    let to = sink_shown system number connection netlist run j in
    let dropped = dropped_shown system number connection netlist run j in
    let served = j.joined.serves netlist (extends-refl netlist) run cycles is_run (subst (λ (s : Signals). IsLegalSource (side_of source) (view_of s) cycles) from legal) in
    subst (λ (d : ℕ → ℕ). IsServedAwake (stream_of source sink connection.fifo) (run_of (end_signals netlist run (name_at system connection.start)) (end_signals netlist run (name_at system connection.end)) d) cycles) (sym dropped)
    (subst (λ (s : Signals). IsServedAwake (stream_of source sink connection.fifo) (run_of (end_signals netlist run (name_at system connection.start)) s (signal_on run j.joined.made.dropped)) cycles) (sym to)
    (subst (λ (s : Signals). IsServedAwake (stream_of source sink connection.fifo) (run_of s (sink_signals sink j.joined.ready j.joined.made run) (signal_on run j.joined.made.dropped)) cycles) (sym from) served))

-- ---- a wire

-- the output of one name is driven by the input of another
driven_by : (ports : List PortLine) (netlist : Netlist) (output input : List ℕ) (o i : Option ℕ) (width : ℕ) (net : NetValue) → netlist.ports ≡ ports → port_named ports output ≡ o → port_named ports input ≡ i
    → IsPortIf ports true width o → IsPortIf ports false width i → 0 < width → IfSome o (λ k. driver_of netlist k ≡ Some net.number) → IfSome i (λ k. net.number ≡ input_net ports k)
    → IsDrivenBy netlist output input
driven_by ports netlist output input None i width net e f g p q some driver is = absurd (omega (arith, p, some))
driven_by ports netlist output input (Some k) None width net e f g p q some driver is = absurd (omega (arith, q, some))
driven_by ports netlist output input (Some k) (Some l) width net e f g p q some driver is =
    record {
      output_port = k;
      input_port = l;
      output_is = ap (λ (ps : List PortLine). port_named ps output) e ∙ f;
      input_is = ap (λ (ps : List PortLine). port_named ps input) e ∙ g;
      driver = driver ∙ ap Some is ∙ ap (λ (ps : List PortLine). Some (input_net ps l)) (sym e);
    }

-- the net of an input is the one of its port
net_is : (ports : List PortLine) (width : ℕ) (o : Option ℕ) (net : Option NetValue) (low : NetValue) → net ≡ option_map (λ (k : ℕ). net_of (input_net ports k) width) o → IfSome o (λ k. (unwrap_or net low).number ≡ input_net ports k)
net_is ports width None net low e = tt
net_is ports width (Some k) net low e = ap (λ (o : Option NetValue). (unwrap_or o low).number) e

-- a wire in a finished netlist
record IsWireIn (system : SystemTable) (number : ℕ) (connection : Connection) (netlist : Netlist) (low : NetValue) : Type 0 where
  joined : IsJoinedIn system number connection netlist
  wire : IsWire (declared joined.at.source_port) (declared joined.at.sink_port) connection.fifo
  made : joined.joined.made ≡ wire_nets joined.joined.from joined.joined.ready low

-- what holds of each port of an end of a stream
each_port : (P : RolePort → Type 0) (d : Declared) → P (port_of role.Ready (bits_if d.ready 1)) → P (port_of role.Valid 1) → P (port_of role.Data (d.symbols * d.symbol_bits)) → P (port_of role.Channel d.channel_bits)
    → P (port_of role.Error d.error_bits) → P (port_of role.StartOfPacket (bits_if d.packets 1)) → P (port_of role.EndOfPacket (bits_if d.packets 1)) → P (port_of role.Empty d.empty_bits)
    → (p : RolePort) → Among p (stream_ports d) → P p
each_port P d a b c e f g h i p (inl is) = subst P is a
each_port P d a b c e f g h i p (inr (inl is)) = subst P is b
each_port P d a b c e f g h i p (inr (inr (inl is))) = subst P is c
each_port P d a b c e f g h i p (inr (inr (inr (inl is)))) = subst P is e
each_port P d a b c e f g h i p (inr (inr (inr (inr (inl is))))) = subst P is f
each_port P d a b c e f g h i p (inr (inr (inr (inr (inr (inl is)))))) = subst P is g
each_port P d a b c e f g h i p (inr (inr (inr (inr (inr (inr (inl is))))))) = subst P is h
each_port P d a b c e f g h i p (inr (inr (inr (inr (inr (inr (inr (inl is)))))))) = subst P is i
each_port P d a b c e f g h i p (inr (inr (inr (inr (inr (inr (inr (inr none)))))))) = absurd none

-- a signal that goes forward
forward_joined : (system : SystemTable) (number : ℕ) (connection : Connection) (netlist : Netlist) (low : NetValue) (n width : ℕ) (r : PortRole) (net : Option NetValue) (w : IsWireIn system number connection netlist low)
    → slice_get output_roles n ≡ Some r → is_forward r ≡ true → Among (port_of r width) (stream_ports (declared w.joined.at.source_port))
    → output_width (declared w.joined.at.source_port) (declared w.joined.at.sink_port) r ≡ width → net ≡ input_at system connection.start r width
    → net_for w.joined.joined.made r ≡ unwrap_or net low → 0 < width → IsDrivenBy netlist (port_name (name_at system connection.end) (role_word r)) (port_name (name_at system connection.start) (role_word r))
forward_joined system number connection netlist low n width r net w e forward may same is made some =
    let j = w.joined in
    let here : output_at system connection r ≡ port_at system connection.end r = ap (λ (b : Bool). port_at system (if b then connection.end else connection.start) r) forward in
    let input : is_output true r ≡ false = ap not forward in
    driven_by (ports_of system) netlist _ _ (output_at system connection r) (port_at system connection.start r) width (net_for j.joined.made r) j.ports (sym here) refl
    (subst (λ (n : ℕ). IsPortIf (ports_of system) true n (output_at system connection r)) same (outputs_are system number connection j.known j.at n r e))
    (subst (λ (b : Bool). IsPortIf (ports_of system) b width (port_at system connection.start r)) input
    (j.known.known connection.start (Source j.at.source_port) (port_of r width) (start_among system number connection j.at) j.at.source_is may))
    some (driven_role system number connection netlist j n r e)
    (subst (λ (x : NetValue). IfSome (port_at system connection.start r) (λ k. x.number ≡ input_net (ports_of system) k)) (sym made) (net_is (ports_of system) width (port_at system connection.start r) net low is))

-- and `ready`
ready_joined : (system : SystemTable) (number : ℕ) (connection : Connection) (netlist : Netlist) (low : NetValue) → IsWireIn system number connection netlist low
    → IsDrivenBy netlist (port_name (name_at system connection.start) (codes "ready")) (port_name (name_at system connection.end) (codes "ready"))
ready_joined system number connection netlist low w =
    let j = w.joined in
    let one : output_width (declared j.at.source_port) (declared j.at.sink_port) role.Ready ≡ 1 = ap (λ (b : Bool). bits_if b 1) w.wire.alike.source_ready in
    let other : bits_if (declared j.at.sink_port).ready 1 ≡ 1 = ap (λ (b : Bool). bits_if b 1) w.wire.alike.sink_ready in
    driven_by (ports_of system) netlist _ _ (output_at system connection role.Ready) (port_at system connection.end role.Ready) 1 (net_for j.joined.made role.Ready) j.ports refl refl
    (subst (λ (n : ℕ). IsPortIf (ports_of system) true n (output_at system connection role.Ready)) one (outputs_are system number connection j.known j.at 0 role.Ready refl))
    (subst (λ (n : ℕ). IsPortIf (ports_of system) false n (port_at system connection.end role.Ready)) other (sink_ready_port system number connection netlist j))
    (omega arith) (driven_role system number connection netlist j 0 role.Ready refl)
    (subst (λ (m : PathNets). IfSome (port_at system connection.end role.Ready) (λ k. (net_for m role.Ready).number ≡ input_net (ports_of system) k)) (sym w.made)
    (net_is (ports_of system) 1 (port_at system connection.end role.Ready) j.joined.ready low j.joined.ready_is))

port_joined : (system : SystemTable) (number : ℕ) (connection : Connection) (netlist : Netlist) (low : NetValue) (w : IsWireIn system number connection netlist low) (p : RolePort)
    → Among p (stream_ports (declared w.joined.at.source_port)) → 0 < p.width → IsJoined netlist (name_at system connection.start) (name_at system connection.end) p.role
port_joined system number connection netlist low w =
    let j = w.joined in
    let d = declared j.at.source_port in
    let alike = w.wire.alike in
    let bits : (declared j.at.sink_port).symbols * (declared j.at.sink_port).symbol_bits ≡ d.symbols * d.symbol_bits = (let a = alike.symbols in let b = alike.symbol_bits in cc) in
    let forward = forward_joined system number connection netlist low in
    let packets = source_port_of system number connection netlist in
    each_port (λ p. 0 < p.width → IsJoined netlist (name_at system connection.start) (name_at system connection.end) p.role) d
    (λ some. ready_joined system number connection netlist low w)
    (forward 1 1 role.Valid (Some j.joined.from.valid) w refl refl (inr (inl refl)) refl (sym j.joined.from_are.valid) (ap (λ (m : PathNets). m.beat.valid) w.made))
    (forward 2 (d.symbols * d.symbol_bits) role.Data (Some j.joined.from.word) w refl refl (inr (inr (inl refl))) bits (sym j.joined.from_are.word) (ap (λ (m : PathNets). m.beat.word) w.made))
    (forward 3 d.channel_bits role.Channel j.joined.from.channel w refl refl (inr (inr (inr (inl refl)))) (sym alike.channel_bits) j.joined.from_are.channel (ap (λ (m : PathNets). m.beat.channel) w.made))
    (forward 4 d.error_bits role.Error j.joined.from.error w refl refl (inr (inr (inr (inr (inl refl))))) (sym alike.error_bits) j.joined.from_are.error (ap (λ (m : PathNets). m.beat.error) w.made))
    (forward 5 (bits_if d.packets 1) role.StartOfPacket j.joined.from.startofpacket w refl refl (inr (inr (inr (inr (inr (inl refl)))))) (ap (λ (b : Bool). bits_if b 1) (sym alike.packets))
    (packet_width system connection.start role.StartOfPacket d.packets j.joined.from.startofpacket
    (packets (port_of role.StartOfPacket (bits_if d.packets 1)) j (inr (inr (inr (inr (inr (inl refl)))))) refl) j.joined.from_are.startofpacket) (ap (λ (m : PathNets). m.beat.first) w.made))
    (forward 6 (bits_if d.packets 1) role.EndOfPacket j.joined.from.endofpacket w refl refl (inr (inr (inr (inr (inr (inr (inl refl))))))) (ap (λ (b : Bool). bits_if b 1) (sym alike.packets))
    (packet_width system connection.start role.EndOfPacket d.packets j.joined.from.endofpacket
    (packets (port_of role.EndOfPacket (bits_if d.packets 1)) j (inr (inr (inr (inr (inr (inr (inl refl))))))) refl) j.joined.from_are.endofpacket) (ap (λ (m : PathNets). m.beat.last) w.made))
    (forward 7 d.empty_bits role.Empty j.joined.from.empty w refl refl (inr (inr (inr (inr (inr (inr (inr (inl refl)))))))) (sym alike.empty_bits) j.joined.from_are.empty (ap (λ (m : PathNets). m.beat.empty) w.made))

-- `dropped` stands there and is driven
record IsDroppedBy (netlist : Netlist) (ports : List PortLine) (name : List ℕ) (net : NetValue) : Type 0 where
  port : ℕ
  is : port_named ports name ≡ Some port
  driver : driver_of netlist port ≡ Some net.number

dropped_there : (netlist : Netlist) (ports : List PortLine) (name : List ℕ) (net : NetValue) (o : Option ℕ) → port_named ports name ≡ o → IsPortIf ports true 1 o → IfSome o (λ k. driver_of netlist k ≡ Some net.number)
    → IsDroppedBy netlist ports name net
dropped_there netlist ports name net None e p driver = absurd (omega (arith, p))
dropped_there netlist ports name net (Some k) e p driver = record { port = k; is = e; driver = driver }

-- the low net of a stream that is a wire
low_of_wire : (system : SystemTable) (number place : ℕ) (connection : Connection) (source : StreamPort) (sink : StreamPort) → slice_get system.connections place ≡ Some connection
    → known_at system connection.start ≡ Source source → known_at system connection.end ≡ Sink sink → is_wire_stream (declared source) (declared sink) connection.fifo ≡ true
    → low_at system number place ≡ Some (net_of (input_count (ports_of system) + wires_before system number) 1)
low_of_wire system number place connection source sink is e f wire =
    let known : is_wire_as connection.fifo (known_at system connection.start) (known_at system connection.end) ≡ true =
    ap (λ (a : Finished). is_wire_as connection.fifo a (known_at system connection.end)) e ∙ ap (is_wire_as connection.fifo (Source source)) f ∙ wire in
    let test : is_wire_at system place ≡ true = rw is known in
    ap (λ (b : Bool). if b then Some (net_of (input_count (ports_of system) + wires_before system number) 1) else None) test

pub is_wired : (system : SystemTable) (number : ℕ) (connection : Connection) (netlist : Netlist) (j : IsJoinedIn system number connection netlist)
    → is_wire_stream (declared j.at.source_port) (declared j.at.sink_port) connection.fifo ≡ true
    → slice_get netlist.lines (input_count (ports_of system) + wires_before system number) ≡ Some low_line
    → IsWired netlist (name_at system connection.start) (name_at system connection.end) (declared j.at.source_port) (input_count netlist.ports + wires_before system number)
is_wired system number connection netlist j wire line =
    let low = net_of (input_count (ports_of system) + wires_before system number) 1 in
    let is = low_of_wire system number j.at.place connection j.at.source_port j.at.sink_port j.at.connection_is j.at.source_is j.at.sink_is wire in
    let made = subst (λ (o : Option NetValue). IfSome o (λ net. j.joined.made ≡ wire_nets j.joined.from j.joined.ready net)) is j.joined.wire in
    let w : IsWireIn system number connection netlist low = record { joined = j; wire = wire_is (declared j.at.source_port) (declared j.at.sink_port) connection.fifo wire; made = made } in
    let dropped = dropped_there netlist (ports_of system) (port_name (name_at system connection.end) (role_word role.Dropped)) (net_for j.joined.made role.Dropped) (output_at system connection role.Dropped) refl
    (outputs_are system number connection j.known j.at 8 role.Dropped refl) (driven_role system number connection netlist j 8 role.Dropped refl) in
    subst (λ (n : ℕ). IsWired netlist (name_at system connection.start) (name_at system connection.end) (declared j.at.source_port) (n + wires_before system number)) (ap input_count (sym j.ports))
    (record {
      joined = λ k port e. (let kept = among_filter has_bits (stream_ports (declared j.at.source_port)) port (among_at (filter has_bits (stream_ports (declared j.at.source_port))) k port e) in
          port_joined system number connection netlist low w port kept.0 (ltb-true 0 port.width kept.1));
      dropped_port = dropped.port;
      dropped_is = ap (λ (ps : List PortLine). port_named ps (port_name (name_at system connection.end) (codes "dropped"))) j.ports ∙ dropped.is;
      dropped = dropped.driver ∙ ap (λ (m : PathNets). Some m.dropped.number) made;
      is_low = line;
    })

-- ---- each output is driven

output_driven : (system : SystemTable) (number : ℕ) (connection : Connection) (netlist : Netlist) (k n : ℕ) (r : PortRole) → IsJoinedIn system number connection netlist → slice_get output_roles n ≡ Some r
    → output_at system connection r ≡ Some k → IsSome (driver_of netlist k)
output_driven system number connection netlist k n r j e is = driven_some netlist k (output_at system connection r) (net_for j.joined.made r) is (driven_role system number connection netlist j n r e)

pub source_driven : (system : SystemTable) (number : ℕ) (connection : Connection) (netlist : Netlist) (k : ℕ) (j : IsJoinedIn system number connection netlist) (p : RolePort)
    → Among p (stream_ports (declared j.at.source_port)) → is_output true p.role ≡ true → port_at system connection.start p.role ≡ Some k → IsSome (driver_of netlist k)
source_driven system number connection netlist k j =
    each_port (λ p. is_output true p.role ≡ true → port_at system connection.start p.role ≡ Some k → IsSome (driver_of netlist k)) (declared j.at.source_port)
    (λ way is. output_driven system number connection netlist k 0 role.Ready j refl is)
    (λ way is. no_input _ way refl)
    (λ way is. no_input _ way refl)
    (λ way is. no_input _ way refl)
    (λ way is. no_input _ way refl)
    (λ way is. no_input _ way refl)
    (λ way is. no_input _ way refl)
    (λ way is. no_input _ way refl)

pub sink_driven : (system : SystemTable) (number : ℕ) (connection : Connection) (netlist : Netlist) (k : ℕ) (j : IsJoinedIn system number connection netlist) (p : RolePort)
    → Among p (stream_ports (declared j.at.sink_port)) ⊎ (p ≡ port_of role.Dropped 1) → is_output false p.role ≡ true → port_at system connection.end p.role ≡ Some k → IsSome (driver_of netlist k)
sink_driven system number connection netlist k j p (inl among) way at =
    each_port (λ p. is_output false p.role ≡ true → port_at system connection.end p.role ≡ Some k → IsSome (driver_of netlist k)) (declared j.at.sink_port)
    (λ way is. no_input _ way refl)
    (λ way is. output_driven system number connection netlist k 1 role.Valid j refl is)
    (λ way is. output_driven system number connection netlist k 2 role.Data j refl is)
    (λ way is. output_driven system number connection netlist k 3 role.Channel j refl is)
    (λ way is. output_driven system number connection netlist k 4 role.Error j refl is)
    (λ way is. output_driven system number connection netlist k 5 role.StartOfPacket j refl is)
    (λ way is. output_driven system number connection netlist k 6 role.EndOfPacket j refl is)
    (λ way is. output_driven system number connection netlist k 7 role.Empty j refl is)
    p among way at
sink_driven system number connection netlist k j p (inr is) way at =
    output_driven system number connection netlist k 8 role.Dropped j refl (ap (λ (q : RolePort). port_at system connection.end q.role) (sym is) ∙ at)
