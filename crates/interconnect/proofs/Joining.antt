-- One more stream joined: what the steps of building ask for and leave.
use Rattle.std.proofs.Common.{◌≡◌, ◌⊎◌, inl, inr, ℕ, zero, suc, ◌+◌, ◌*◌, ◌<◌, ◌≤◌, Bool, true, false, List, [], ◌∷◌, length, slice_get, Option, Some, None, refl, sym, ap, subst, ◌∙◌, arith}
use Rattle.std.specs.Prelude.{IfSome, nat_lt, if◌then◌else◌}
use Rattle.std.proofs.lemmas.Bool.Decides.{Decides-ltb}
use Rattle.iface_roles.specs.declared.records.Finished.TheVariants.{Source, Sink}
use Rattle.iface_roles.specs.declared.records.StreamPort.{StreamPort}
use Rattle.system_tables.specs.declared.tables.Connection.{Connection}
use Rattle.system_tables.specs.declared.tables.EndId.{EndId}
use Rattle.system_tables.specs.Tables.{SystemTable}
use Rattle.address_map.specs.Footprints.{known_at}
use Rattle.address_map.specs.Maps.{hosts_of, agents_of}
use Rattle.link_rules.specs.declared.plan_connections.StreamConnection.{StreamConnection}
use Rattle.link_rules.specs.Links.{streams_of}
use Rattle.link_rules.specs.Plans.{PlanTable}
use Rattle.link_rules.specs.PlanConnections.{IsStreamConnection}
use Rattle.netlist.specs.declared.line.Line.{Line}
use Rattle.netlist.specs.declared.line.Memory.{Memory}
use Rattle.netlist.specs.Nets.{NetValue}
use Rattle.netlist.specs.Netlists.{Netlist, driver_of, input_count}
use Rattle.netlist.specs.Longer.{Extends}
use Rattle.stream_runs.specs.Ends.{Declared}
use Rattle.net_parts.specs.Laws.{extends_twice, net_lasts}
use Rattle.net_parts.specs.Nets.{IsNetOfWidth, IsBit}
use Rattle.st_timing.specs.Ends.{declared}
use Rattle.st_path.specs.Ends.{IsNetWhere, ArePathNets}
use Rattle.st_path.specs.Serving.{ServesInLonger}
use Rattle.st_path.specs.declared.ends.PathNets.{PathNets}
use Rattle.port_tables.specs.declared.roles.PortRole.{PortRole}
use Rattle.port_tables.specs.declared.roles.PortRole.TheVariants as role
use Rattle.port_tables.specs.Ports.{bits_if, port_of, is_forward, ports_of}
use Rattle.port_tables.specs.PortMaps.{IsPortIf, HasKnownPorts, port_at}
use Rattle.port_tables.specs.Ends.{IsStreamPlace}
use Rattle.port_tables.specs.EndFacts.{IsPlanned}
use Rattle.port_tables.specs.Numbering.{stream_number, distinct_streams}
use Rattle.port_tables.specs.Lists.{among_at, Distinct}
use Rattle.interconnect.specs.Streams.{IsStream}
use Rattle.interconnect.specs.declared.outputs.Output.{Output}
use Rattle.interconnect.specs.Outputs.{input_at, HaveOwnRoles, HasSameNets, MayDrive, MayDriveAt, AreDrivenAt, IsNoPortOf, AreUndriven}
use Rattle.interconnect.specs.Joins.{source_roles, sink_roles, net_for, source_outputs, sink_outputs, low_at, AreInputs, AddsStream, IsJoinedStream, IsJoinedUpTo}
use Rattle.interconnect.proofs.Driving.{nat_cases, can_drive, own_roles, each_at, may_by, KeepsOn, IsDrivenOver, undriven_where, other_port, same-trans, stay_driven, stays_undriven, same_drivers, low_stays, waiting_as, unwritten_as}
use Rattle.interconnect.proofs.StreamEnds.{start_among, finish_among, stream_ends_among, link_place}
use Rattle.interconnect.proofs.Apart.{sort, IsEndOf, host_end, agent_end, other_sort}
use Rattle.interconnect.proofs.FabricJoins.{fabric_stays}

-- ---- outputs

-- how wide the output of a role is, 0 where there is none
abbrev pub output_width : Declared → Declared → PortRole → ℕ
output_width source sink role.Ready = bits_if source.ready 1
output_width source sink role.Valid = 1
output_width source sink role.Data = sink.symbols * sink.symbol_bits
output_width source sink role.Channel = sink.channel_bits
output_width source sink role.Error = sink.error_bits
output_width source sink role.StartOfPacket = bits_if sink.packets 1
output_width source sink role.EndOfPacket = bits_if sink.packets 1
output_width source sink role.Empty = sink.empty_bits
output_width source sink _ = 1

-- the roles at both ends
abbrev pub output_roles : List PortRole
output_roles = role.Ready ∷ sink_roles

-- the end at which an output of a role stands
abbrev pub output_at : SystemTable → Connection → PortRole → Option ℕ
output_at system connection r = port_at system (if is_forward r then connection.end else connection.start) r

-- what holds of the role of each output
each_output : (P : PortRole → Type 0) → P role.Ready → P role.Valid → P role.Data → P role.Channel → P role.Error → P role.StartOfPacket → P role.EndOfPacket → P role.Empty → P role.Dropped
    → (n : ℕ) (r : PortRole) → slice_get output_roles n ≡ Some r → P r
each_output P a b c d e f g h i n r is = each_at P output_roles n r (a, (b, (c, (d, (e, (f, (g, (h, (i, tt))))))))) is

-- the outputs are ports of these widths
abbrev pub AreOutputs : SystemTable → Connection → Declared → Declared → Type 0
AreOutputs system connection source sink = (n : ℕ) (r : PortRole) → slice_get output_roles n ≡ Some r → IsPortIf (ports_of system) true (output_width source sink r) (output_at system connection r)

pub outputs_are : (system : SystemTable) (number : ℕ) (connection : Connection) → HasKnownPorts system → (at : IsStreamPlace system number connection)
    → AreOutputs system connection (declared at.source_port) (declared at.sink_port)
outputs_are system number connection h at =
    let start = start_among system number connection at in
    let end = finish_among system number connection at in
    let source = declared at.source_port in
    let sink = declared at.sink_port in
    let known = h.known connection.end (Sink at.sink_port) in
    each_output (λ r. IsPortIf (ports_of system) true (output_width source sink r) (output_at system connection r))
    (h.known connection.start (Source at.source_port) (port_of role.Ready (bits_if source.ready 1)) start at.source_is (inl refl))
    (known (port_of role.Valid 1) end at.sink_is (inr (inl refl)))
    (known (port_of role.Data (sink.symbols * sink.symbol_bits)) end at.sink_is (inr (inr (inl refl))))
    (known (port_of role.Channel sink.channel_bits) end at.sink_is (inr (inr (inr (inl refl)))))
    (known (port_of role.Error sink.error_bits) end at.sink_is (inr (inr (inr (inr (inl refl))))))
    (known (port_of role.StartOfPacket (bits_if sink.packets 1)) end at.sink_is (inr (inr (inr (inr (inr (inl refl)))))))
    (known (port_of role.EndOfPacket (bits_if sink.packets 1)) end at.sink_is (inr (inr (inr (inr (inr (inr (inl refl))))))))
    (known (port_of role.Empty sink.empty_bits) end at.sink_is (inr (inr (inr (inr (inr (inr (inr (inl refl)))))))))
    (known (port_of role.Dropped 1) end at.sink_is (inr (inr (inr (inr (inr (inr (inr (inr (inl refl))))))))))

bit_there : (netlist : Netlist) (net : NetValue) (present : Bool) → IsBit netlist net → 0 < bits_if present 1 → IsNetOfWidth netlist net (bits_if present 1)
bit_there netlist net true is some = is
bit_there netlist net false is some = absurd (omega arith)

net_there : (netlist : Netlist) (net : NetValue) (width : ℕ) → IsNetWhere (nat_lt 0 width) width netlist net → 0 < width → IsNetOfWidth netlist net width
net_there netlist net width is some = subst (λ (b : Bool). IsNetWhere b width netlist net) ((Decides-ltb 0 width).1 some) is

-- the nets of a path are as wide as the outputs that they drive
pub widths_are : (netlist : Netlist) (source sink : Declared) (made : PathNets) → ArePathNets netlist sink made → (n : ℕ) (r : PortRole) → slice_get output_roles n ≡ Some r
    → 0 < output_width source sink r → IsNetOfWidth netlist (net_for made r) (output_width source sink r)
widths_are netlist source sink made nets =
    each_output (λ r. 0 < output_width source sink r → IsNetOfWidth netlist (net_for made r) (output_width source sink r))
    (bit_there netlist made.ready source.ready nets.ready)
    (λ some. nets.valid)
    (λ some. nets.word)
    (net_there netlist made.beat.channel sink.channel_bits nets.channel)
    (net_there netlist made.beat.error sink.error_bits nets.error)
    (bit_there netlist made.beat.first sink.packets nets.startofpacket)
    (bit_there netlist made.beat.last sink.packets nets.endofpacket)
    (net_there netlist made.beat.empty sink.empty_bits nets.empty)
    (λ some. nets.dropped)

-- so they may drive these outputs, where nothing does
pub source_may : (system : SystemTable) (number : ℕ) (connection : Connection) (netlist : Netlist) (made : PathNets) → HasKnownPorts system → (at : IsStreamPlace system number connection) → netlist.ports ≡ ports_of system
    → ArePathNets netlist (declared at.sink_port) made → AreUndriven system connection.start netlist → MayDriveAt system connection.start (source_outputs made) netlist
source_may system number connection netlist made h at ports nets undriven =
    may_by system connection.start (net_for made) source_roles netlist
    (each_source (λ r. IfSome (port_at system connection.start r) (MayDrive netlist (net_for made r)))
    (can_drive netlist (ports_of system) (output_width source sink role.Ready) (net_for made role.Ready) (port_at system connection.start role.Ready) ports
    (outputs_are system number connection h at 0 role.Ready refl) (widths_are netlist source sink made nets 0 role.Ready refl) (undriven role.Ready)))
  where
    source : Declared
    source = declared at.source_port

    sink : Declared
    sink = declared at.sink_port

    each_source : (P : PortRole → Type 0) → P role.Ready → (n : ℕ) (r : PortRole) → slice_get source_roles n ≡ Some r → P r
    each_source P a n r is = each_at P source_roles n r (a, tt) is

pub sink_may : (system : SystemTable) (number : ℕ) (connection : Connection) (netlist : Netlist) (made : PathNets) → HasKnownPorts system → (at : IsStreamPlace system number connection) → netlist.ports ≡ ports_of system
    → ArePathNets netlist (declared at.sink_port) made → AreUndriven system connection.end netlist → MayDriveAt system connection.end (sink_outputs made) netlist
sink_may system number connection netlist made h at ports nets undriven =
    may_by system connection.end (net_for made) sink_roles netlist
    (λ n r is. each_at (λ (r : PortRole). IfSome (port_at system connection.end r) (MayDrive netlist (net_for made r))) sink_roles n r
    (can 0 role.Valid refl refl, (can 1 role.Data refl refl, (can 2 role.Channel refl refl, (can 3 role.Error refl refl, (can 4 role.StartOfPacket refl refl, (can 5 role.EndOfPacket refl refl, (can 6 role.Empty refl refl, (can 7 role.Dropped refl refl, tt)))))))) is)
  where
    can : (n : ℕ) (r : PortRole) → slice_get sink_roles n ≡ Some r → is_forward r ≡ true → IfSome (port_at system connection.end r) (MayDrive netlist (net_for made r))
    can n r is forward =
        let here : output_at system connection r ≡ port_at system connection.end r = ap (λ (b : Bool). port_at system (if b then connection.end else connection.start) r) forward in
        can_drive netlist (ports_of system) (output_width (declared at.source_port) (declared at.sink_port) r) (net_for made r) (port_at system connection.end r) ports
        (subst (IsPortIf (ports_of system) true (output_width (declared at.source_port) (declared at.sink_port) r)) here (outputs_are system number connection h at (suc n) r is))
        (widths_are netlist (declared at.source_port) (declared at.sink_port) made nets (suc n) r is) (undriven r)

-- the place of a role among the outputs of a sink
abbrev place_of : PortRole → ℕ
place_of role.Valid = 0
place_of role.Data = 1
place_of role.Channel = 2
place_of role.Error = 3
place_of role.StartOfPacket = 4
place_of role.EndOfPacket = 5
place_of role.Empty = 6
place_of _ = 7

pub source_own : (made : PathNets) → HaveOwnRoles (source_outputs made)
source_own made = own_roles (net_for made) (λ r. 0) source_roles (refl, tt)

pub sink_own : (made : PathNets) → HaveOwnRoles (sink_outputs made)
sink_own made = own_roles (net_for made) place_of sink_roles (refl, (refl, (refl, (refl, (refl, (refl, (refl, (refl, tt))))))))

-- ---- one stream more

-- a stream stays joined in a longer netlist
pub stays_joined : KeepsOn → (system : SystemTable) (old new : Netlist) (number place : ℕ) (connection : Connection) (source : StreamPort) (sink : StreamPort) → Extends old new
    → IsJoinedStream system old number place connection source sink → IsJoinedStream system new number place connection source sink
stays_joined law system old new number place connection source sink h j =
    record {
      from = j.from;
      ready = j.ready;
      made = j.made;
      from_are = j.from_are;
      ready_is = j.ready_is;
      serves = λ longer extends run cycles is legal. j.serves longer (extends_twice old new longer h extends) run cycles is legal;
      source_driven = stay_driven system connection.start (source_outputs j.made) old new h j.source_driven;
      sink_driven = stay_driven system connection.end (sink_outputs j.made) old new h j.sink_driven;
      wire = j.wire;
    }

-- of distinct elements one stands at one place
one_place : {X : Type 0} (xs : List X) (i j : ℕ) (x : X) → Distinct xs → slice_get xs i ≡ Some x → slice_get xs j ≡ Some x → i ≡ j
one_place [] i j x d e f = absurd (let none : None ≡ Some x = e in cc)
one_place (y ∷ xs) zero zero x d e f = refl
one_place (y ∷ xs) zero (suc j) x d e f = absurd (d.0 (among_at xs j y (let is : y ≡ x = cc in f ∙ ap Some (sym is))))
one_place (y ∷ xs) (suc i) zero x d e f = absurd (d.0 (among_at xs i y (let is : y ≡ x = cc in e ∙ ap Some (sym is))))
one_place (y ∷ xs) (suc i) (suc j) x d e f = ap suc (one_place xs i j x d.1 e f)

-- streams that share an end are one
one_stream_by : (system : SystemTable) (m n : ℕ) (a b : Connection) (source : StreamPort) (sink : StreamPort) → IsPlanned system → IsStreamPlace system m a → IsStream system n b source sink
    → (a.start ≡ b.start) ⊎ (a.end ≡ b.end) → m ≡ n
one_stream_by system m n a b source sink h at is ends =
    let known = stream_number system at.place (among_at (streams_of system) m at.place at.place_is) in
    let p = known.is in
    let q = at.connection_is in
    let same : known.connection ≡ a = cc in
    let kind = ap (λ (c : Connection). c.kind) (sym same) ∙ known.kind in
    let places : at.place ≡ is.place = elim ends [
      | inl start ↦ h.kept.sources at.place is.place a b at.connection_is is.connection_is kind start
      | inr end ↦ h.kept.sinks at.place is.place a b at.connection_is is.connection_is kind end
    ] in
    one_place (streams_of system) m n at.place (distinct_streams system) at.place_is (is.place_is ∙ ap Some (sym places))

source_end : (system : SystemTable) (n : ℕ) (connection : Connection) (source : StreamPort) (sink : StreamPort) → IsStream system n connection source sink → IsEndOf system connection.start 2
source_end system n connection source sink is = record { among = (stream_ends_among system n connection source sink is).0; sort_is = ap sort is.source_is }

sink_end : (system : SystemTable) (n : ℕ) (connection : Connection) (source : StreamPort) (sink : StreamPort) → IsStream system n connection source sink → IsEndOf system connection.end 3
sink_end system n connection source sink is = record { among = (stream_ends_among system n connection source sink is).1; sort_is = ap sort is.sink_is }

-- an end of a stream that isn't joined yet
pub record IsOfStream (system : SystemTable) (number : ℕ) (connection : Connection) (end : EndId) (n : ℕ) : Type 0 where
  pub place : IsStreamPlace system number connection
  pub is_end : IsEndOf system end n
  pub either : ((end ≡ connection.start) × (n ≡ 2)) ⊎ ((end ≡ connection.end) × (n ≡ 3))

pub of_source : (system : SystemTable) (number : ℕ) (connection : Connection) → IsStreamPlace system number connection → IsOfStream system number connection connection.start 2
of_source system number connection at = record {
  place = at;
  is_end = record { among = start_among system number connection at; sort_is = ap sort at.source_is };
  either = inl (refl, refl);
}

pub of_sink : (system : SystemTable) (number : ℕ) (connection : Connection) → IsStreamPlace system number connection → IsOfStream system number connection connection.end 3
of_sink system number connection at = record {
  place = at;
  is_end = record { among = finish_among system number connection at; sort_is = ap sort at.sink_is };
  either = inr (refl, refl);
}

-- no port of it is driven yet
pub stream_undriven : (plan : PlanTable) (number : ℕ) (connection : Connection) (end : EndId) (n : ℕ) (netlist : Netlist) → HasKnownPorts plan.system → IsJoinedUpTo plan number netlist
    → IsOfStream plan.system number connection end n → AreUndriven plan.system end netlist
stream_undriven plan number connection end n netlist h upto is r =
    undriven_where netlist (port_at plan.system end r) (λ k here. upto.rest k (record {
      of_hosts = λ x other e. other_sort plan.system other end 0 n k r h (host_end plan.system other h.planned (among_at (hosts_of plan.system) x other e)) is.is_end (λ same. (let big = at_least in omega (arith, same, big))) here;
      of_agents = λ x other e. other_sort plan.system other end 1 n k r h (agent_end plan.system other h.planned (among_at (agents_of plan.system) x other e)) is.is_end (λ same. (let big = at_least in omega (arith, same, big))) here;
      of_sources = λ m a source sink below at. elim is.either [
        | inl mine ↦ other_port plan.system a.start end r k h (stream_ends_among plan.system m a source sink at).0 is.is_end.among
            (λ same. (let one = one_stream_by plan.system number m connection a source sink h.planned is.place at (inl (sym mine.0 ∙ sym same)) in omega (arith, one, below))) here
        | inr mine ↦ other_sort plan.system a.start end 2 n k r h (source_end plan.system m a source sink at) is.is_end (λ same. (let big = mine.1 in omega (arith, same, big))) here
      ];
      of_sinks = λ m a source sink below at. elim is.either [
        | inl mine ↦ other_sort plan.system a.end end 3 n k r h (sink_end plan.system m a source sink at) is.is_end (λ same. (let big = mine.1 in omega (arith, same, big))) here
        | inr mine ↦ other_port plan.system a.end end r k h (stream_ends_among plan.system m a source sink at).1 is.is_end.among
            (λ same. (let one = one_stream_by plan.system number m connection a source sink h.planned is.place at (inr (sym mine.0 ∙ sym same)) in omega (arith, one, below))) here
      ];
    }))
  where
    at_least : 2 ≤ n
    at_least = elim is.either [ inl mine ↦ (let e = mine.1 in omega (arith, e)) | inr mine ↦ (let e = mine.1 in omega (arith, e)) ]

-- the ends of a stream are apart
pub ends_apart : (system : SystemTable) (number : ℕ) (connection : Connection) → IsStreamPlace system number connection → connection.start ≡ connection.end → ⊥
ends_apart system number connection at same =
    let both : 2 ≡ 3 = sym (ap sort at.source_is) ∙ ap (λ (e : EndId). sort (known_at system e)) same ∙ ap sort at.sink_is in
    omega (arith, both)

-- the stream of a number is one
record IsSameStream (system : SystemTable) (number place : ℕ) (a b : Connection) (source : StreamPort) (sink : StreamPort) (at : IsStreamPlace system number b) : Type 0 where
  place_is : at.place ≡ place
  connection_is : b ≡ a
  source_is : at.source_port ≡ source
  sink_is : at.sink_port ≡ sink

one_stream_of : (system : SystemTable) (number place : ℕ) (a b : Connection) (source : StreamPort) (sink : StreamPort) (at : IsStreamPlace system number b) → slice_get (streams_of system) number ≡ Some place
    → IsStream system number a source sink → IsSameStream system number place a b source sink at
one_stream_of system number place a b source sink at e is =
    let p = is.place_is in
    let q = at.place_is in
    let places : is.place ≡ at.place = cc in
    let r = is.connection_is in
    let s = at.connection_is in
    let here : Some b ≡ Some a = sym s ∙ ap (slice_get system.connections) (sym places) ∙ r in
    let same : b ≡ a = cc in
    let sources : Source at.source_port ≡ Source source = sym at.source_is ∙ ap (λ (c : Connection). known_at system c.start) same ∙ is.source_is in
    let sinks : Sink at.sink_port ≡ Sink sink = sym at.sink_is ∙ ap (λ (c : Connection). known_at system c.end) same ∙ is.sink_is in
    record { place_is = cc; connection_is = same; source_is = cc; sink_is = cc }

-- the steps: what stands between the ends, and its nets drive the outputs at the source and at the sink
pub record AreSteps (plan : PlanTable) (number : ℕ) (link : StreamConnection) (old middle half new : Netlist) (made : PathNets) : Type 0 where
  pub ports : HasKnownPorts plan.system
  pub is : IsStreamConnection plan.system number link
  pub adds : AddsStream plan.system link (low_at plan.system number link.connection) old middle made
  pub source : IsDrivenOver plan.system link.source_end (source_outputs made) middle half
  pub sink : IsDrivenOver plan.system link.sink_end (sink_outputs made) half new

-- the nets of a path stay its nets
where_lasts : (old new : Netlist) (b : Bool) (width : ℕ) (net : NetValue) → Extends old new → IsNetWhere b width old net → IsNetWhere b width new net
where_lasts old new true width net e is = net_lasts old new net width e is
where_lasts old new false width net e is = is

path_nets_last : (old new : Netlist) (sink : Declared) (made : PathNets) → Extends old new → ArePathNets old sink made → ArePathNets new sink made
path_nets_last old new sink made e nets =
    record {
      ready = net_lasts old new made.ready 1 e nets.ready;
      valid = net_lasts old new made.beat.valid 1 e nets.valid;
      word = net_lasts old new made.beat.word (sink.symbols * sink.symbol_bits) e nets.word;
      channel = where_lasts old new (nat_lt 0 sink.channel_bits) sink.channel_bits made.beat.channel e nets.channel;
      error = where_lasts old new (nat_lt 0 sink.error_bits) sink.error_bits made.beat.error e nets.error;
      startofpacket = net_lasts old new made.beat.first 1 e nets.startofpacket;
      endofpacket = net_lasts old new made.beat.last 1 e nets.endofpacket;
      empty = where_lasts old new (nat_lt 0 sink.empty_bits) sink.empty_bits made.beat.empty e nets.empty;
      dropped = net_lasts old new made.dropped 1 e nets.dropped;
    }

-- the new stream is joined
newly_joined : (plan : PlanTable) (number : ℕ) (link : StreamConnection) (old middle half new : Netlist) (made : PathNets) → (s : AreSteps plan number link old middle half new made)
    → IsJoinedStream plan.system new number link.connection s.is.connection link.source link.sink
newly_joined plan number link old middle half new made s =
    let system = plan.system in
    let all = extends_twice middle half new s.source.extends s.sink.extends in
    record {
      from = s.adds.from;
      ready = s.adds.ready;
      made = made;
      from_are = subst (λ (end : EndId). AreInputs system end (declared link.source) s.adds.from) (sym s.is.start) s.adds.from_are;
      ready_is = subst (λ (end : EndId). s.adds.ready ≡ input_at system end role.Ready 1) (sym s.is.end) s.adds.ready_is;
      serves = subst (λ (fifo : ℕ). ServesInLonger (declared link.source) (declared link.sink) fifo s.adds.from s.adds.ready made new) (sym s.is.fifo)
          (λ longer extends run cycles is legal. s.adds.serves longer (extends_twice middle new longer all extends) run cycles is legal);
      source_driven = subst (λ (end : EndId). AreDrivenAt system end (source_outputs made) new) (sym s.is.start) (stay_driven system link.source_end (source_outputs made) half new s.sink.extends s.source.driven);
      sink_driven = subst (λ (end : EndId). AreDrivenAt system end (sink_outputs made) new) (sym s.is.end) s.sink.driven;
      wire = s.adds.wire;
    }

joined_as : (system : SystemTable) (netlist : Netlist) (number place : ℕ) (a b : Connection) (source : StreamPort) (sink : StreamPort) (at : IsStreamPlace system number b)
    → IsSameStream system number place a b source sink at → IsJoinedStream system netlist number at.place b at.source_port at.sink_port → IsJoinedStream system netlist number place a source sink
joined_as system netlist number place a b source sink at e j =
    subst (λ (p : ℕ). IsJoinedStream system netlist number p a source sink) e.place_is
    (subst (λ (c : Connection). IsJoinedStream system netlist number at.place c source sink) e.connection_is
    (subst (λ (t : StreamPort). IsJoinedStream system netlist number at.place b source t) e.sink_is
    (subst (λ (s : StreamPort). IsJoinedStream system netlist number at.place b s at.sink_port) e.source_is j)))

-- the stream of a link
pub link_is_stream : (system : SystemTable) (number : ℕ) (link : StreamConnection) → IsPlanned system → (is : IsStreamConnection system number link) → IsStream system number is.connection link.source link.sink
unfolding link_place
link_is_stream system number link h is =
    let at = link_place system number link is.connection h is is.connection_is in
    record { place = link.connection; place_is = is.place_is; connection_is = is.connection_is; source_is = at.source_is; sink_is = at.sink_is }

pub one_more_joined : (plan : PlanTable) (number : ℕ) (link : StreamConnection) (old middle half new : Netlist) (made : PathNets) → KeepsOn → AreSteps plan number link old middle half new made
    → IsJoinedUpTo plan number old → IsJoinedUpTo plan (number + 1) new
unfolding link_place
one_more_joined plan number link old middle half new made law s upto =
    let system = plan.system in
    let connection = s.is.connection in
    let at = link_place system number link connection s.ports.planned s.is s.is.connection_is in
    let stream = link_is_stream system number link s.ports.planned s.is in
    let grows = s.adds.grows in
    let same = same-trans middle half new s.source.same s.sink.same in
    let whole = extends_twice old half new (extends_twice old middle half grows.extends s.source.extends) s.sink.extends in
    record {
      name = whole.keeps.name ∙ upto.name;
      ports = whole.keeps.ports ∙ upto.ports;
      memory = λ some. fabric_stays plan old new whole (upto.memory some);
      lows = λ n below. low_stays old new (input_count (ports_of system) + n) whole (upto.lows n below);
      joined = λ n place a source sink below e is. elim (nat_cases n number) [
        | inl earlier ↦ stays_joined law system old new n place a source sink whole (upto.joined n place a source sink earlier e is)
        | inr later ↦ (let same : n ≡ number = omega (arith, below, later) in
            let there = subst (λ (m : ℕ). slice_get (streams_of system) m ≡ Some place) same e in
            let here = subst (λ (m : ℕ). IsStream system m a source sink) same is in
            subst (λ (m : ℕ). IsJoinedStream system new m place a source sink) (sym same)
            (joined_as system new number place a connection source sink at (one_stream_of system number place a connection source sink at there here) (newly_joined plan number link old middle half new made s)))
      ];
      rest = λ k free.
          s.sink.others k (subst (λ (end : EndId). IsNoPortOf system end k) s.is.end (free.of_sinks number connection link.source link.sink (omega arith) stream))
          ∙ s.source.others k (subst (λ (end : EndId). IsNoPortOf system end k) s.is.start (free.of_sources number connection link.source link.sink (omega arith) stream))
          ∙ same_drivers old middle k grows.drivers
          ∙ upto.rest k (record {
            of_hosts = free.of_hosts;
            of_agents = free.of_agents;
            of_sources = λ n a source sink below is. free.of_sources n a source sink (omega (arith, below)) is;
            of_sinks = λ n a source sink below is. free.of_sinks n a source sink (omega (arith, below)) is;
          });
      clocked = λ n w. upto.clocked n (s.adds.no_more_wait n (waiting_as middle new n same.lines w));
      written = λ m w. upto.written m (s.adds.no_more_wait_for_write m (unwritten_as middle new m same.memories w));
      few = (let most = grows.most in let lines = ap (λ (ls : List Line). length ls) same.lines in let before = upto.few in omega (arith, most, lines, before));
      few_memories = (let most = grows.most_memories in let memories = ap (λ (ms : List Memory). length ms) same.memories in let before = upto.few_memories in omega (arith, most, memories, before));
    }

-- the ports of the stream whose turn it is may be driven
pub source_may_now : (plan : PlanTable) (number : ℕ) (link : StreamConnection) (old middle : Netlist) (low : Option NetValue) (made : PathNets) → HasKnownPorts plan.system
    → IsStreamConnection plan.system number link → IsJoinedUpTo plan number old → AddsStream plan.system link low old middle made → (outputs : List Output) → outputs ≡ source_outputs made
    → MayDriveAt plan.system link.source_end outputs middle
unfolding link_place
source_may_now plan number link old middle low made h is upto adds outputs same =
    let system = plan.system in
    let at = link_place system number link is.connection h.planned is is.connection_is in
    let undriven = stream_undriven plan number is.connection is.connection.start 2 old h upto (of_source system number is.connection at) in
    subst (λ (os : List Output). MayDriveAt system link.source_end os middle) (sym same)
    (subst (λ (end : EndId). MayDriveAt system end (source_outputs made) middle) is.start
    (source_may system number is.connection middle made h at (adds.grows.extends.keeps.ports ∙ upto.ports) adds.nets
    (λ r. stays_undriven old middle (port_at system is.connection.start r) (λ k here. same_drivers old middle k adds.grows.drivers) (undriven r))))

pub sink_may_now : (plan : PlanTable) (number : ℕ) (link : StreamConnection) (old middle half : Netlist) (low : Option NetValue) (made : PathNets) → HasKnownPorts plan.system
    → IsStreamConnection plan.system number link → IsJoinedUpTo plan number old → AddsStream plan.system link low old middle made → IsDrivenOver plan.system link.source_end (source_outputs made) middle half
    → (outputs : List Output) → outputs ≡ sink_outputs made → MayDriveAt plan.system link.sink_end outputs half
unfolding link_place
sink_may_now plan number link old middle half low made h is upto adds over outputs same =
    let system = plan.system in
    let connection = is.connection in
    let at = link_place system number link connection h.planned is is.connection_is in
    let undriven = stream_undriven plan number connection connection.end 3 old h upto (of_sink system number connection at) in
    subst (λ (os : List Output). MayDriveAt system link.sink_end os half) (sym same)
    (subst (λ (end : EndId). MayDriveAt system end (sink_outputs made) half) is.end
    (sink_may system number connection half made h at (over.extends.keeps.ports ∙ adds.grows.extends.keeps.ports ∙ upto.ports) (path_nets_last middle half (declared link.sink) made over.extends adds.nets)
    (λ r. stays_undriven old half (port_at system connection.end r)
    (λ k here. over.others k (subst (λ (end : EndId). IsNoPortOf system end k) is.start
    (other_port system connection.start connection.end r k h (start_among system number connection at) (finish_among system number connection at) (ends_apart system number connection at) here))
    ∙ same_drivers old middle k adds.grows.drivers) (undriven r))))

-- the outputs at the source are driven, and those at the sink
pub source_over : (system : SystemTable) (number : ℕ) (link : StreamConnection) (made : PathNets) (outputs : List Output) (old new : Netlist) → IsStreamConnection system number link → outputs ≡ source_outputs made → HasSameNets old new
    → Extends old new → AreDrivenAt system link.source_end outputs new → ((k : ℕ) → IsNoPortOf system link.source_end k → driver_of new k ≡ driver_of old k)
    → IsDrivenOver system link.source_end (source_outputs made) old new
source_over system number link made outputs old new l is same extends driven others =
    record { same = same; extends = extends; driven = subst (λ (os : List Output). AreDrivenAt system link.source_end os new) is driven; others = others }

pub sink_over : (system : SystemTable) (number : ℕ) (link : StreamConnection) (made : PathNets) (outputs : List Output) (old new : Netlist) → IsStreamConnection system number link → outputs ≡ sink_outputs made → HasSameNets old new
    → Extends old new → AreDrivenAt system link.sink_end outputs new → ((k : ℕ) → IsNoPortOf system link.sink_end k → driver_of new k ≡ driver_of old k)
    → IsDrivenOver system link.sink_end (sink_outputs made) old new
sink_over system number link made outputs old new l is same extends driven others =
    record { same = same; extends = extends; driven = subst (λ (os : List Output). AreDrivenAt system link.sink_end os new) is driven; others = others }

pub stream_joined : KeepsOn → (plan : PlanTable) (number : ℕ) (link : StreamConnection) (old middle half new : Netlist) (low : Option NetValue) (made : PathNets) → HasKnownPorts plan.system → IsStreamConnection plan.system number link
    → AddsStream plan.system link low old middle made → low ≡ low_at plan.system number link.connection → IsDrivenOver plan.system link.source_end (source_outputs made) middle half
    → IsDrivenOver plan.system link.sink_end (sink_outputs made) half new → IsJoinedUpTo plan number old → IsJoinedUpTo plan (number + 1) new
stream_joined law plan number link old middle half new low made h is adds lows source sink upto =
    one_more_joined plan number link old middle half new made law (record {
      ports = h;
      is = is;
      adds = subst (λ (net : Option NetValue). AddsStream plan.system link net old middle made) lows adds;
      source = source;
      sink = sink;
    }) upto
