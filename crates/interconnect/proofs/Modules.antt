-- A finished module: each output is driven, and each connection is served.
use Rattle.std.proofs.Common.{◌≡◌, inl, inr, ℕ, ◌+◌, ◌-◌, ◌<◌, ◌≤◌, true, List, [], ◌∷◌, ◌++◌, length, slice_get, Some, sym, ap, subst, ◌∙◌, arith}
use Rattle.std.specs.Prelude.{IsSome}
use Rattle.std.specs.List.{flat_map}
use Rattle.std.proofs.lemmas.Bool.{cases_lt}
use Rattle.std.proofs.lemmas.Option.{same_Some, slice_get_within}
use Rattle.iface_roles.specs.declared.records.Finished.{Finished}
use Rattle.iface_roles.specs.declared.records.Finished.TheVariants.{Source, Sink}
use Rattle.iface_roles.specs.declared.records.StreamPort.{StreamPort}
use Rattle.iface_roles.specs.Proper.{IsProper, IsBoundedStream}
use Rattle.system_tables.specs.declared.tables.EndId.{EndId}
use Rattle.system_tables.specs.declared.tables.Connection.{Connection}
use Rattle.system_tables.specs.Tables.{SystemTable, IsEnd}
use Rattle.address_map.specs.Footprints.{known_at}
use Rattle.address_map.specs.Maps.{hosts_of, agents_of}
use Rattle.link_rules.specs.Links.{streams_of, weight_of}
use Rattle.link_rules.specs.Plans.{PlanTable}
use Rattle.netlist.specs.declared.line.Line.{Line}
use Rattle.netlist.specs.declared.line.PortLine.{PortLine}
use Rattle.netlist.specs.Netlists.{Netlist, IsDriven, IsWellMade, driver_of, input_count}
use Rattle.netlist.specs.Runs.{Run, IsRun, GoesOn}
use Rattle.st_timing.specs.Ends.{declared}
use Rattle.port_tables.specs.declared.roles.PortRole.TheVariants as role
use Rattle.port_tables.specs.declared.roles.RolePort.{RolePort}
use Rattle.port_tables.specs.Lists.{Among, among_at, at_among, among_append, among_flat_map}
use Rattle.port_tables.specs.Ports.{name_at, is_output, port_of, stream_ports, may_have, connection_ends, starts}
use Rattle.port_tables.specs.PortMaps.{HasKnownPorts, port_at}
use Rattle.port_tables.specs.Ends.{IsStreamPlace}
use Rattle.port_tables.specs.EndFacts.{IsPlanned, known_is, known_proper}
use Rattle.port_tables.specs.Numbering.{stream_number, stream_at, ends_at}
use Rattle.port_tables.specs.Wires.{is_wire, is_wire_at, wires_before, is_wire_stream}
use Rattle.interconnect.specs.Streams.{IsStream, IsWired, low_line}
use Rattle.pruned_netlists.specs.Needed.{IsNeeded}
use Rattle.pruned_netlists.specs.Pruned.{IsPruned}
use Rattle.pruned_netlists.specs.Inputs.{inputs_needed}
use Rattle.settled_netlists.specs.Settled.{IsSettled}
use Rattle.narrowed_netlists.specs.Narrowed.{IsNarrowed, AreFixed, is_fixed}
use Rattle.interconnect.proofs.Unneeded.{Replaces, KeepsWires, pruned_replaces, settled_replaces, narrowed_replaces, pruned_keeps, settled_keeps, narrowed_keeps, first_fixed, memory_as, stream_as, wired_as, counted_at}
use Rattle.interconnect.specs.Going.{LegalRunsGoOn}
use Rattle.interconnect.specs.Joins.{IsJoinedUpTo}
use Rattle.interconnect.specs.Interconnect.{IsInterconnect}
use Rattle.interconnect.proofs.Weights.{HasFewLinks, memory_few}
use Rattle.interconnect.proofs.LowNets.{mul_some, wire_below}
use Rattle.interconnect.proofs.Served.{IsJoinedIn, is_served, is_wired, source_driven, sink_driven}
use Rattle.interconnect.proofs.Links.{LinkLaws}
use Rattle.interconnect.proofs.HostsServed.{IsMemoryIn, FabricLaws, RunLaws, served}
use Rattle.interconnect.proofs.HostsDriven.{host_driven, agent_driven}

-- ---- the ends of streams and of memory

-- the place of a stream
place_of_stream : (system : SystemTable) (number : ℕ) (connection : Connection) (source : StreamPort) (sink : StreamPort) → IsPlanned system → IsStream system number connection source sink
    → IsStreamPlace system number connection
place_of_stream system number connection source sink h is =
    let known = stream_number system is.place (among_at (streams_of system) number is.place is.place_is) in
    let one = known.is in
    let other = is.connection_is in
    let some : Some known.connection ≡ Some connection = sym one ∙ other in
    let same : known.connection ≡ connection = cc in
    let at = stream_at system is.place connection h is.connection_is (sym (ap (λ (c : Connection). c.kind) same) ∙ known.kind) in
    record {
      place = is.place;
      place_is = is.place_is;
      connection_is = is.connection_is;
      source = at.source;
      sink = at.sink;
      source_port = source;
      sink_port = sink;
      source_is = is.source_is;
      sink_is = is.sink_is;
    }

-- what the law of proper records says of sinks
abbrev pub SinksAreBounded : Type 0
SinksAreBounded = (sink : StreamPort) → IsProper (Sink sink) → IsBoundedStream sink

sink_end : (system : SystemTable) (number : ℕ) (connection : Connection) (at : IsStreamPlace system number connection) → IsEnd system connection.end (Sink at.sink_port)
sink_end system number connection at = subst (IsEnd system connection.end) (sym (known_is system connection.end at.sink.known at.sink.is) ∙ at.sink_is) at.sink.is

-- the whole module
pub record IsWhole (plan : PlanTable) (netlist : Netlist) : Type 0 where
  pub known : HasKnownPorts plan.system
  pub bounded : SinksAreBounded
  pub laws : LinkLaws plan
  pub upto : IsJoinedUpTo plan (length (streams_of plan.system)) netlist
  pub well_made : IsWellMade netlist
  pub few_links : HasFewLinks plan.system

joined_in : (plan : PlanTable) (number : ℕ) (connection : Connection) (source : StreamPort) (sink : StreamPort) (netlist : Netlist) → (w : IsWhole plan netlist) → IsStream plan.system number connection source sink
    → IsJoinedIn plan.system number connection netlist
unfolding place_of_stream
joined_in plan number connection source sink netlist w is =
    let system = plan.system in
    let at = place_of_stream system number connection source sink w.known.planned is in
    let bounded = w.bounded sink (known_proper system connection.end (Sink sink) at.sink (sink_end system number connection at)) in
    record {
      known = w.known;
      at = at;
      well_made = w.well_made;
      ports = w.upto.ports;
      some_bits = mul_some sink.symbols sink.symbol_bits bounded.some bounded.bit;
      joined = w.upto.joined number is.place connection source sink (slice_get_within (streams_of system) number is.place is.place_is) is.place_is is;
    }

wire_at : (system : SystemTable) (connection : Connection) (place : ℕ) (source : StreamPort) (sink : StreamPort) → slice_get system.connections place ≡ Some connection → known_at system connection.start ≡ Source source
    → known_at system connection.end ≡ Sink sink → is_wire_stream (declared source) (declared sink) connection.fifo ≡ true → is_wire_at system place ≡ true
wire_at system connection place source sink is e f wire =
    let known : is_wire system connection ≡ true = rw (e, f) wire in
    rw is known

-- the hosts and agents of the whole module
memory_in : (plan : PlanTable) (netlist : Netlist) → IsWhole plan netlist → IsMemoryIn plan netlist
memory_in plan netlist w = record { laws = w.laws; known = w.known; well_made = w.well_made; ports = w.upto.ports; joined = w.upto.memory }

-- ---- each output is driven

-- it is one of a host, an agent, a source or a sink
pub all_driven : (plan : PlanTable) (netlist : Netlist) → IsWhole plan netlist → IsDriven netlist
all_driven plan netlist w k width o =
    let owned = w.known.owner k o.port (subst (λ (ps : List PortLine). slice_get ps k ≡ Some o.port) w.upto.ports o.is) in
    let output : is_output (starts (known_at plan.system owned.end)) owned.role_port.role ≡ true = sym owned.output ∙ o.output in
    elim (among_append (hosts_of plan.system ++ agents_of plan.system) (flat_map (connection_ends plan.system) (streams_of plan.system)) owned.end owned.among) [
      | inl memory ↦ elim (among_append (hosts_of plan.system) (agents_of plan.system) owned.end memory) [
        | inl a ↦ by_host owned.end owned.role_port a owned.named output owned.may
        | inr a ↦ by_agent owned.end owned.role_port a owned.named output owned.may
      ]
      | inr more ↦ (let stream = among_flat_map (connection_ends plan.system) (streams_of plan.system) owned.end more in
          by_stream stream.from (at_among (streams_of plan.system) stream.from stream.among).place (at_among (streams_of plan.system) stream.from stream.among).is owned.end owned.role_port stream.makes owned.named output owned.may)
    ]
  where
    by_host : (end : EndId) (p : RolePort) → Among end (hosts_of plan.system) → port_at plan.system end p.role ≡ Some k → is_output (starts (known_at plan.system end)) p.role ≡ true
        → Among p (may_have (known_at plan.system end)) → IsSome (driver_of netlist k)
    by_host end p a named output may =
        (let at = at_among (hosts_of plan.system) end a in
        host_driven plan netlist (memory_in plan netlist w) at.place end at.is k p named output may)

    by_agent : (end : EndId) (p : RolePort) → Among end (agents_of plan.system) → port_at plan.system end p.role ≡ Some k → is_output (starts (known_at plan.system end)) p.role ≡ true
        → Among p (may_have (known_at plan.system end)) → IsSome (driver_of netlist k)
    by_agent end p a named output may =
        (let at = at_among (agents_of plan.system) end a in
        agent_driven plan netlist (memory_in plan netlist w) at.place end at.is k p named output may)

    at_source : (number : ℕ) (connection : Connection) (j : IsJoinedIn plan.system number connection netlist) (end : EndId) (p : RolePort) → connection.start ≡ end → port_at plan.system end p.role ≡ Some k
        → is_output (starts (known_at plan.system end)) p.role ≡ true → Among p (may_have (known_at plan.system end)) → IsSome (driver_of netlist k)
    at_source number connection j end p e named output may =
        (let known : known_at plan.system end ≡ Source j.at.source_port = ap (known_at plan.system) (sym e) ∙ j.at.source_is in
        source_driven plan.system number connection netlist k j p (subst (λ (f : Finished). Among p (may_have f)) known may)
        (subst (λ (f : Finished). is_output (starts f) p.role ≡ true) known output) (ap (λ (x : EndId). port_at plan.system x p.role) e ∙ named))

    at_sink : (number : ℕ) (connection : Connection) (j : IsJoinedIn plan.system number connection netlist) (end : EndId) (p : RolePort) → connection.end ≡ end → port_at plan.system end p.role ≡ Some k
        → is_output (starts (known_at plan.system end)) p.role ≡ true → Among p (may_have (known_at plan.system end)) → IsSome (driver_of netlist k)
    at_sink number connection j end p e named output may =
        (let known : known_at plan.system end ≡ Sink j.at.sink_port = ap (known_at plan.system) (sym e) ∙ j.at.sink_is in
        let split = among_append (stream_ports (declared j.at.sink_port)) (port_of role.Dropped 1 ∷ []) p (subst (λ (f : Finished). Among p (may_have f)) known may) in
        sink_driven plan.system number connection netlist k j p (elim split [ inl a ↦ inl a | inr b ↦ elim b [ inl is ↦ inr (sym is) | inr none ↦ absurd none ] ])
        (subst (λ (f : Finished). is_output (starts f) p.role ≡ true) known output) (ap (λ (x : EndId). port_at plan.system x p.role) e ∙ named))

    by_stream : (place number : ℕ) → slice_get (streams_of plan.system) number ≡ Some place → (end : EndId) (p : RolePort) → Among end (connection_ends plan.system place) → port_at plan.system end p.role ≡ Some k
        → is_output (starts (known_at plan.system end)) p.role ≡ true → Among p (may_have (known_at plan.system end)) → IsSome (driver_of netlist k)
    by_stream place number e end p among named output may =
        (let known = stream_number plan.system place (among_at (streams_of plan.system) number place e) in
        let at = stream_at plan.system place known.connection w.known.planned known.is known.kind in
        let is : IsStream plan.system number known.connection at.joins.source at.joins.sink = record {
          place = place;
          place_is = e;
          connection_is = known.is;
          source_is = known_is plan.system known.connection.start (Source at.joins.source) at.joins.start;
          sink_is = known_is plan.system known.connection.end (Sink at.joins.sink) at.joins.end;
        } in
        let j = joined_in plan number known.connection at.joins.source at.joins.sink netlist w is in
        elim (subst (λ (ends : List EndId). Among end ends) (ends_at plan.system place known.connection known.is) among) [
          | inl start ↦ at_source number known.connection j end p start named output may
          | inr rest ↦ elim rest [ inl finish ↦ at_sink number known.connection j end p finish named output may | inr none ↦ absurd none ]
        ])

-- the inputs are so few for the ends that there are
module_few : (plan : PlanTable) (netlist : Netlist) → IsWhole plan netlist → length netlist.lines ≤ weight_of plan.system
module_few plan netlist w = let most = w.upto.few in let inputs = w.known.inputs_by_ends in let memory = memory_few plan.system w.few_links in omega (arith, most, inputs, memory)

pub interconnect_is : (plan : PlanTable) (netlist : Netlist) → FabricLaws plan → RunLaws → ((run : Run) (cycles : ℕ) → IsRun netlist run cycles → GoesOn netlist run cycles)
    → LegalRunsGoOn plan netlist → IsWhole plan netlist → IsInterconnect plan netlist
unfolding place_of_stream joined_in
interconnect_is plan netlist fabrics runs goes_on going w =
    let system = plan.system in
    record {
      name = w.upto.name;
      ports = w.upto.ports;
      few = module_few plan netlist w;
      wired = λ number connection source sink is wire. is_wired system number connection netlist (joined_in plan number connection source sink netlist w is) wire
          (w.upto.lows (wires_before system number) (wire_below system number is.place is.place_is (wire_at system connection is.place source sink is.connection_is is.source_is is.sink_is wire)));
      streams = λ number connection source sink is. is_served system number connection netlist (joined_in plan number connection source sink netlist w is);
      memory = served plan netlist (memory_in plan netlist w) fabrics runs goes_on going;
    }

-- ---- with constants for settled nets, and without what no output depends on

wire_back : (system : SystemTable) (connection : Connection) (place : ℕ) (source : StreamPort) (sink : StreamPort) → slice_get system.connections place ≡ Some connection → known_at system connection.start ≡ Source source
    → known_at system connection.end ≡ Sink sink → is_wire_at system place ≡ true → is_wire_stream (declared source) (declared sink) connection.fifo ≡ true
wire_back system connection place source sink is e f test =
    let wire : is_wire system connection ≡ true = rw is at test in
    rw (e, f) at wire

-- a net behind those of inputs, below the low net of a stream, is that of a wire, which drives its `dropped`
record IsLowNet (plan : PlanTable) (netlist : Netlist) (m : ℕ) : Type 0 where
  pub port : ℕ
  pub drives : driver_of netlist port ≡ Some m
  pub is_low : slice_get netlist.lines m ≡ Some low_line

low_below : (plan : PlanTable) (netlist : Netlist) (number m : ℕ) → HasKnownPorts plan.system → IsInterconnect plan netlist → input_count netlist.ports ≤ m → m < input_count netlist.ports + wires_before plan.system number → IsLowNet plan netlist m
low_below plan netlist number m ports i behind lt =
    let its = counted_at (is_wire_at plan.system) (streams_of plan.system) number (m - input_count netlist.ports) (omega (arith, lt, behind)) in
    let known = stream_number plan.system its.item (among_at (streams_of plan.system) its.place its.item its.at) in
    let at = stream_at plan.system its.item known.connection ports.planned known.is known.kind in
    let source_is = known_is plan.system known.connection.start (Source at.joins.source) at.joins.start in
    let sink_is = known_is plan.system known.connection.end (Sink at.joins.sink) at.joins.end in
    let is : IsStream plan.system its.place known.connection at.joins.source at.joins.sink = record {
      place = its.item;
      place_is = its.at;
      connection_is = known.is;
      source_is = source_is;
      sink_is = sink_is;
    } in
    let wired = i.wired its.place known.connection at.joins.source at.joins.sink is (wire_back plan.system known.connection its.item at.joins.source at.joins.sink known.is source_is sink_is its.test_is) in
    let count = its.count in
    let number_is : input_count netlist.ports + wires_before plan.system its.place ≡ m = omega (arith, count, behind) in
    subst (IsLowNet plan netlist) number_is (record { port = wired.dropped_port; drives = wired.dropped; is_low = wired.is_low })

-- below the low net of a stream stand those of inputs, and of wires, each of which is needed
lows_needed : (plan : PlanTable) (netlist : Netlist) (number m : ℕ) → HasKnownPorts plan.system → IsWellMade netlist → IsInterconnect plan netlist → m < input_count netlist.ports + wires_before plan.system number → IsNeeded netlist m
lows_needed plan netlist number m ports made i lt = elim (cases_lt m (input_count netlist.ports)) [
  | inl inside ↦ inputs_needed netlist (input_count netlist.ports) made (omega arith) m inside
  | inr behind ↦ (let its = low_below plan netlist number m ports i behind lt in IsNeeded.drives its.port m its.drives)
]

low_fixed : (netlist : Netlist) (m : ℕ) (line : Line) → slice_get netlist.lines m ≡ Some low_line → slice_get netlist.lines m ≡ Some line → is_fixed line.equation ≡ true
low_fixed netlist m line low at = ap (λ (l : Line). is_fixed l.equation) (sym (same_Some _ _ (sym low ∙ at)))

-- each of them and the low net itself is an input or a constant
lows_fixed : (plan : PlanTable) (netlist : Netlist) (number : ℕ) → HasKnownPorts plan.system → IsWellMade netlist → IsInterconnect plan netlist
    → slice_get netlist.lines (input_count netlist.ports + wires_before plan.system number) ≡ Some low_line → AreFixed netlist (input_count netlist.ports + wires_before plan.system number + 1)
lows_fixed plan netlist number ports made i low m line lt at = elim (cases_lt m (input_count netlist.ports)) [
  | inl inside ↦ first_fixed netlist m line made inside at
  | inr behind ↦ elim (cases_lt m (input_count netlist.ports + wires_before plan.system number)) [
    | inl below ↦ low_fixed netlist m line (low_below plan netlist number m ports i behind below).is_low at
    | inr from ↦ (let same : input_count netlist.ports + wires_before plan.system number ≡ m = omega (arith, lt, from) in
        low_fixed netlist m line (subst (λ k. slice_get netlist.lines k ≡ Some low_line) same low) at)
  ]
]

-- all that is said of the whole module holds of one that shows the same and keeps its wires
interconnect_as : (plan : PlanTable) (whole other : Netlist) → other.name ≡ whole.name → length other.lines ≤ weight_of plan.system → other.ports ≡ whole.ports → Replaces whole other
    → ((number : ℕ) → slice_get whole.lines (input_count whole.ports + wires_before plan.system number) ≡ Some low_line → KeepsWires whole other (input_count whole.ports + wires_before plan.system number))
    → IsInterconnect plan whole → IsInterconnect plan other
interconnect_as plan whole other name few ports r wires i = record {
  name = name ∙ i.name;
  ports = ports ∙ i.ports;
  few = few;
  wired = λ number connection source sink is wire.
      subst (λ (ps : List PortLine). IsWired other (name_at plan.system connection.start) (name_at plan.system connection.end) (declared source) (input_count ps + wires_before plan.system number)) (sym ports)
      (wired_as whole other (name_at plan.system connection.start) (name_at plan.system connection.end) (declared source) (input_count whole.ports + wires_before plan.system number) (wires number (i.wired number connection source sink is wire).is_low)
      (i.wired number connection source sink is wire));
  streams = λ number connection source sink is. stream_as whole other (name_at plan.system connection.start) (name_at plan.system connection.end) (declared source) (declared sink) connection.fifo r
      (i.streams number connection source sink is);
  memory = memory_as plan whole other r i.memory;
}

pub interconnect_settled : (plan : PlanTable) (whole settled : Netlist) → IsSettled whole settled → IsInterconnect plan whole → IsInterconnect plan settled
interconnect_settled plan whole settled s i =
    interconnect_as plan whole settled s.name (let same = s.count in let few = i.few in omega (arith, same, few)) s.ports (settled_replaces whole settled s) (λ number at. settled_keeps whole settled (input_count whole.ports + wires_before plan.system number) s) i

pub interconnect_pruned : (plan : PlanTable) (whole pruned : Netlist) → HasKnownPorts plan.system → IsWellMade whole → IsPruned whole pruned → IsInterconnect plan whole → IsInterconnect plan pruned
interconnect_pruned plan whole pruned ports made p i =
    interconnect_as plan whole pruned p.name (let fewer = p.few in let few = i.few in omega (arith, fewer, few)) p.ports (pruned_replaces whole pruned p)
    (λ number at. pruned_keeps whole pruned (input_count whole.ports + wires_before plan.system number) made p (λ m lt. lows_needed plan whole number m ports made i lt)) i

pub interconnect_narrowed : (plan : PlanTable) (whole narrowed : Netlist) → HasKnownPorts plan.system → IsWellMade whole → length narrowed.lines ≤ weight_of plan.system → IsNarrowed whole narrowed → IsInterconnect plan whole
    → IsInterconnect plan narrowed
interconnect_narrowed plan whole narrowed ports made few n i =
    interconnect_as plan whole narrowed n.name few n.ports (narrowed_replaces whole narrowed n)
    (λ number at. narrowed_keeps whole narrowed (input_count whole.ports + wires_before plan.system number) (omega arith) (lows_fixed plan whole number ports made i at) n) i
