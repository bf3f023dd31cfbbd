-- The header of a system: its names are names of ports, each stands there once, and its widths are within bounds.
use Rattle.std.proofs.Common.{◌≡◌, ◌≢◌, inl, inr, ℕ, ◌+◌, ◌*◌, ◌<◌, ◌≤◌, Bool, true, false, List, [], ◌∷◌, ◌++◌, length, map, get_or, slice_get, Option, Some, None, refl, sym, ap, subst, ◌∙◌, arith, AllPairs, length-append}
use Rattle.std.specs.List.{flat_map}
use Rattle.std.proofs.lemmas.Bool.{ltb-true}
use Rattle.std.proofs.lemmas.List.{map-append, length-map, get_or-map}
use Rattle.std.proofs.lemmas.List.Sums.{count_by-le-length, length-filter}
use Rattle.std.proofs.lemmas.Option.{slice_get-get_or}
use Rattle.std.proofs.lemmas.Simd.{map-map}
use Rattle.std.proofs.Math.Nat.{le_trans}
use Rattle.iface_roles.specs.declared.records.Finished.{Finished}
use Rattle.iface_roles.specs.declared.records.Finished.TheVariants.{Host, Agent, Source, Sink, Other}
use Rattle.iface_roles.specs.declared.records.HostPort.{HostPort}
use Rattle.iface_roles.specs.declared.records.AgentPort.{AgentPort}
use Rattle.iface_roles.specs.declared.records.StreamPort.{StreamPort}
use Rattle.iface_roles.specs.Proper.{IsProper, IsBoundedHost, IsBoundedAgent, IsBoundedStream}
use Rattle.std.specs.Option.{option_map_or}
use Rattle.system_tables.specs.declared.tables.EndId.{EndId}
use Rattle.system_tables.specs.declared.tables.Connection.{Connection}
use Rattle.system_tables.specs.Tables.{SystemTable, InstanceTable, IsEnd, IsSystem}
use Rattle.address_map.specs.Footprints.{known_at}
use Rattle.address_map.specs.Maps.{hosts_of, agents_of}
use Rattle.link_rules.specs.Links.{streams_of}
use Rattle.netlist.specs.declared.line.PortLine.{PortLine}
use Rattle.netlist.specs.Names.{IsPortName}
use Rattle.netlist.specs.Netlists.{IsHeader, input_count}
use Rattle.stream_runs.specs.Ends.{Declared}
use Rattle.port_tables.specs.declared.roles.PortRole.TheVariants as role
use Rattle.port_tables.specs.declared.roles.RolePort.{RolePort}
use Rattle.port_tables.specs.Ports.{port_of, bits_if, host_ports, agent_ports, stream_ports, may_have, has_bits, role_ports, starts, name_at, port_name, port_line, end_ports, connection_ends, ends_of, ports_of, module_name}
use Rattle.st_timing.specs.Ends.{declared}
use Rattle.port_tables.specs.Ends.{IsNarrow, IsPlanEnd}
use Rattle.port_tables.specs.EndFacts.{IsPlanned, known_is, small_word}
use Rattle.port_tables.proofs.Names.{IsNamed, one_name}
use Rattle.port_tables.proofs.PortForms.{IsName, name_text, module_name_is, port_name_is}
use Rattle.port_tables.proofs.Words.{word_of, distinct_words}
use Rattle.port_tables.specs.Lists.{Among, among_at, among_map, among_flat_map, among_filter, Distinct, distinct_map, distinct_flat_map, distinct_pairs}
use Rattle.port_tables.specs.Numbering.{end_of, distinct_ends, plan_end}

-- what each proper record keeps
pub record AreBounded : Type 0 where
  pub host : (host : HostPort) → IsProper (Host host) → IsBoundedHost host
  pub agent : (agent : AgentPort) → IsProper (Agent agent) → IsBoundedAgent agent
  pub source : (source : StreamPort) → IsProper (Source source) → IsBoundedStream source
  pub sink : (sink : StreamPort) → IsProper (Sink sink) → IsBoundedStream sink

-- ---- the names of ends

pub end_instance : (system : SystemTable) (end : EndId) (known : Finished) → IsSystem system → IsEnd system end known → IsName (name_at system end).instance
end_instance system end known h e = rw e.instance_is (h.instances end.instance e.instance e.instance_is).name

pub end_interface : (system : SystemTable) (end : EndId) (known : Finished) → IsSystem system → IsEnd system end known → IsName (name_at system end).interface
end_interface system end known h e = rw (e.instance_is, e.interface_is) ((h.instances end.instance e.instance e.instance_is).interfaces end.interface e.interface e.interface_is)

pub end_named : (system : SystemTable) (end : EndId) (known : Finished) → IsSystem system → IsEnd system end known → IsNamed (name_at system end)
end_named system end known h e =
    record {
      instance = name_text (name_at system end).instance (end_instance system end known h e);
      interface = name_text (name_at system end).interface (end_interface system end known h e);
    }

-- two ends with the same names are one
pub one_end : (system : SystemTable) (a b : EndId) (x y : Finished) → IsSystem system → IsEnd system a x → IsEnd system b y
    → (name_at system a).instance ≡ (name_at system b).instance → (name_at system a).interface ≡ (name_at system b).interface → a ≡ b
one_end system a b x y h e f instance interface =
    let instances : e.instance.name ≡ f.instance.name = rw (e.instance_is, f.instance_is) at instance in
    let i : a.instance ≡ b.instance = h.distinct a.instance b.instance e.instance f.instance e.instance_is f.instance_is instances in
    let names = rw (e.instance_is, e.interface_is, f.instance_is, f.interface_is) at interface in
    let here : slice_get system.instances a.instance ≡ Some f.instance = ap (slice_get system.instances) i ∙ f.instance_is in
    let first = e.instance_is in
    let some : Some e.instance ≡ Some f.instance = sym first ∙ here in
    let same : e.instance ≡ f.instance = cc in
    let j : a.interface ≡ b.interface = (h.instances a.instance e.instance e.instance_is).distinct a.interface b.interface e.interface f.interface e.interface_is
    (subst (λ (t : InstanceTable). slice_get t.interfaces b.interface ≡ Some f.interface) (sym same) f.interface_is) names in
    let whole : end_of a.instance a.interface ≡ end_of b.instance b.interface = cc in
    whole

-- ---- each name stands there once

abbrev name_of : PortLine → List ℕ
name_of port = port.name

abbrev end_names : SystemTable → EndId → List (List ℕ)
end_names system end = map name_of (end_ports system end)

-- the names of an end's ports, by their words
end_names-words : (system : SystemTable) (end : EndId) → end_names system end ≡ map (port_name (name_at system end)) (map word_of (role_ports (known_at system end)))
end_names-words system end =
    map-map name_of (port_line (name_at system end) (starts (known_at system end))) (role_ports (known_at system end))
    ∙ sym (map-map (port_name (name_at system end)) word_of (role_ports (known_at system end)))

names-flat : (system : SystemTable) (ends : List EndId) → map name_of (flat_map (end_ports system) ends) ≡ flat_map (end_names system) ends
names-flat system [] = refl
names-flat system (end ∷ ends) =
    map-append name_of (end_ports system end) (flat_map (end_ports system) ends) ∙ ap (λ (names : List (List ℕ)). end_names system end ++ names) (names-flat system ends)

distinct_end : (system : SystemTable) (end : EndId) (known : Finished) → IsSystem system → IsEnd system end known → Distinct (end_names system end)
distinct_end system end known h e =
    let named = end_named system end known h e in
    subst Distinct (sym (end_names-words system end))
    (distinct_map (port_name (name_at system end)) (map word_of (role_ports (known_at system end))) (λ a b k l same. (one_name _ _ a b named named same).word)
    (distinct_words (known_at system end)))

apart_ends : (system : SystemTable) (a b : EndId) (x y : Finished) (name : List ℕ) → IsSystem system → IsEnd system a x → IsEnd system b y
    → Among name (end_names system a) → Among name (end_names system b) → a ≡ b
apart_ends system a b x y name h e f k l =
    let at_a = among_map (port_name (name_at system a)) _ name (subst (Among name) (end_names-words system a) k) in
    let at_b = among_map (port_name (name_at system b)) _ name (subst (Among name) (end_names-words system b) l) in
    let one = one_name (name_at system a) (name_at system b) at_a.from at_b.from (end_named system a x h e) (end_named system b y h f) (at_a.makes ∙ sym at_b.makes) in
    one_end system a b x y h e f one.instance one.interface

distinct_names : (system : SystemTable) → IsPlanned system → Distinct (map name_of (ports_of system))
distinct_names system h =
    subst Distinct (sym (names-flat system (ends_of system)))
    (distinct_flat_map (end_names system) (ends_of system)
    (λ a k. (let is = plan_end system a h k in distinct_end system a is.known h.kept is.is))
    (λ a b y k l m n. (let is = plan_end system a h k in
    let other = plan_end system b h l in
    apart_ends system a b is.known other.known y h.kept is.is other.is m n))
    (distinct_ends system h))

pairs_of : (ports : List PortLine) → AllPairs (λ (x y : List ℕ). x ≢ y) (map name_of ports) → AllPairs (λ (p q : PortLine). p.name ≢ q.name) ports
pairs_of ports h i j d below inside same =
    let long : j < length (map name_of ports) = rw length-map inside in
    let one = get_or-map name_of ports i d (name_of d) (omega arith) in
    let other = get_or-map name_of ports j d (name_of d) inside in
    h i j (name_of d) below long (one ∙ same ∙ sym other)

-- no two ports have one name
pub distinct_ports : (system : SystemTable) → IsPlanned system → AllPairs (λ (p q : PortLine). p.name ≢ q.name) (ports_of system)
distinct_ports system h = pairs_of (ports_of system) (distinct_pairs (map name_of (ports_of system)) (distinct_names system h))

-- ---- widths

abbrev Each : {X : Type 0} → (X → Type 0) → List X → Type 0
Each P [] = Unit {0}
Each P (x ∷ xs) = P x × Each P xs

each_among : {X : Type 0} (P : X → Type 0) (xs : List X) (x : X) → Each P xs → Among x xs → P x
each_among P [] x h a = absurd a
each_among P (y ∷ xs) x h (inl e) = subst P e h.0
each_among P (y ∷ xs) x h (inr a) = each_among P xs x h.1 a

each-append : {X : Type 0} (P : X → Type 0) (xs ys : List X) → Each P xs → Each P ys → Each P (xs ++ ys)
each-append P [] ys h k = k
each-append P (x ∷ xs) ys h k = (h.0, each-append P xs ys h.1 k)

abbrev IsSmall : RolePort → Type 0
IsSmall port = port.width ≤ 128

bits_if-le : (present : Bool) (bits : ℕ) → bits_if present bits ≤ bits
bits_if-le true bits = omega arith
bits_if-le false bits = omega arith

few_bits : (present : Bool) (bits : ℕ) → bits ≤ 128 → bits_if present bits ≤ 128
few_bits present bits h = le_trans (bits_if-le present bits) h

host_widths : (host : HostPort) → IsBoundedHost host → Each IsSmall (host_ports host)
host_widths host h =
    let word = small_word host.word_bytes h.ports.word in
    let address = h.ports.address in
    let burst = h.ports.burst in
    let bits : 8 * host.word_bytes ≤ 128 = omega arith in (
      omega arith,
      (
        few_bits host.reads 1 (omega arith),
        (
          few_bits host.writes 1 (omega arith),
          (
            few_bits host.writes (8 * host.word_bytes) bits,
            (
              few_bits host.enables host.word_bytes (omega arith),
              (omega arith, (few_bits host.waitrequest 1 (omega arith), (few_bits host.reads (8 * host.word_bytes) bits, (few_bits host.readdatavalid 1 (omega arith), (few_bits host.response 2 (omega arith), tt))))),
            ),
          ),
        ),
      ),
    )

agent_widths : (agent : AgentPort) → IsBoundedAgent agent → Each IsSmall (agent_ports agent)
agent_widths agent h =
    let word = small_word agent.word_bytes h.ports.word in
    let address = h.ports.address in
    let burst = h.ports.burst in
    let bits : 8 * agent.word_bytes ≤ 128 = omega arith in (
      omega arith,
      (
        few_bits agent.reads 1 (omega arith),
        (
          few_bits agent.writes 1 (omega arith),
          (
            few_bits agent.writes (8 * agent.word_bytes) bits,
            (
              few_bits agent.enables agent.word_bytes (omega arith),
              (omega arith, (few_bits agent.waitrequest 1 (omega arith), (few_bits agent.reads (8 * agent.word_bytes) bits, (few_bits agent.readdatavalid 1 (omega arith), (few_bits agent.response 2 (omega arith), (omega arith, tt)))))),
            ),
          ),
        ),
      ),
    )

-- the ports of a stream's end, with numbers within the tables
stream_widths : (d : Declared) → d.symbols * d.symbol_bits ≤ 128 → d.channel_bits ≤ 16 → d.error_bits ≤ 32 → d.empty_bits ≤ 8 → Each IsSmall (stream_ports d)
stream_widths d word channel error empty =
    (few_bits d.ready 1 (omega arith), (omega arith, (word, (omega arith, (omega arith, (few_bits d.packets 1 (omega arith), (few_bits d.packets 1 (omega arith), (omega arith, tt))))))))

known_widths : (known : Finished) → AreBounded → IsProper known → IsNarrow known → Each IsSmall (may_have known)
known_widths (Host host) laws proper narrow = host_widths host (laws.host host proper)
known_widths (Agent agent) laws proper narrow = agent_widths agent (laws.agent agent proper)
known_widths (Source source) laws proper narrow =
    let b = laws.source source proper in
    stream_widths (declared source) narrow b.channel b.error b.empty
known_widths (Sink sink) laws proper narrow =
    let b = laws.sink sink proper in
    each-append IsSmall (stream_ports (declared sink)) (port_of role.Dropped 1 ∷ []) (stream_widths (declared sink) narrow b.channel b.error b.empty) (omega arith, tt)
known_widths Other laws proper narrow = tt

-- a name and a width that a port may have
pub record IsPort (port : PortLine) : Type 0 where
  pub name : IsPortName port.name
  pub some : 1 ≤ port.width
  pub few : port.width ≤ 128

end_port : (system : SystemTable) (end : EndId) (port : PortLine) → AreBounded → IsSystem system → IsPlanEnd system end → Among port (end_ports system end) → IsPort port
end_port system end port laws h is a =
    let known = known_at system end in
    let from = among_map (port_line (name_at system end) (starts known)) (role_ports known) port a in
    let kept = among_filter has_bits (may_have known) from.from from.among in
    let same = known_is system end is.known is.is in
    let widths = known_widths known laws (subst IsProper (sym same) is.proper) (subst IsNarrow (sym same) is.narrow) in
    subst IsPort from.makes (record {
      name = port_name_is (name_at system end) from.from.role (end_instance system end is.known h is.is) (end_interface system end is.known h is.is);
      some = ltb-true 0 from.from.width kept.1;
      few = each_among IsSmall (may_have known) from.from widths kept.0;
    })

plan_port : (system : SystemTable) (port : PortLine) → AreBounded → IsPlanned system → Among port (ports_of system) → IsPort port
plan_port system port laws h a =
    let from = among_flat_map (end_ports system) (ends_of system) port a in
    end_port system from.from port laws h.kept (plan_end system from.from h from.among) from.makes

-- ---- how many there are

length-flat : {X Y : Type 0} (f : X → List Y) (n : ℕ) (xs : List X) → ((x : X) → length (f x) ≤ n) → length (flat_map f xs) ≤ n * length xs
length-flat f n [] h = omega arith
length-flat f n (x ∷ xs) h = let rest = length-flat f n xs h in let first = h x in let whole = length-append (f x) (flat_map f xs) in omega arith

may_have-few : (known : Finished) → length (may_have known) ≤ 11
may_have-few (Host host) = omega arith
may_have-few (Agent agent) = omega arith
may_have-few (Source source) = omega arith
may_have-few (Sink sink) = omega arith
may_have-few Other = omega arith

end_ports-few : (system : SystemTable) (end : EndId) → length (end_ports system end) ≤ 11
end_ports-few system end =
    let known = known_at system end in
    let mapped = length-map (role_ports known) (port_line (name_at system end) (starts known)) in
    let kept = length-filter has_bits (may_have known) in
    let counted = count_by-le-length has_bits (may_have known) in
    let all = may_have-few known in
    omega arith

connection_ends-few : (system : SystemTable) (number : ℕ) → length (connection_ends system number) ≤ 2
connection_ends-few system number = by_found (slice_get system.connections number)
  where
    by_found : (o : Option Connection) → length (option_map_or (λ (c : Connection). c.start ∷ c.end ∷ []) o []) ≤ 2
    by_found None = omega arith
    by_found (Some c) = omega arith

pub ports-few : (system : SystemTable) → IsPlanned system → length (ports_of system) ≤ 880
ports-few system h =
    let flat = length-flat (end_ports system) 11 (ends_of system) (end_ports-few system) in
    let streams = length-flat (connection_ends system) 2 (streams_of system) (connection_ends-few system) in
    let first = length-append (hosts_of system) (agents_of system) in
    let all = length-append (hosts_of system ++ agents_of system) (flat_map (connection_ends system) (streams_of system)) in
    let a = h.few_hosts in
    let b = h.few_agents in
    let c = h.few_streams in
    omega arith

pub inputs-few : (system : SystemTable) → IsPlanned system → input_count (ports_of system) ≤ 880
inputs-few system h = le_trans (count_by-le-length _ (ports_of system)) (ports-few system h)

pub inputs-ends : (system : SystemTable) → input_count (ports_of system) ≤ 11 * length (hosts_of system) + 11 * length (agents_of system) + 22 * length (streams_of system)
inputs-ends system =
    let flat : input_count (ports_of system) ≤ 11 * length (ends_of system) = le_trans (count_by-le-length _ (ports_of system)) (length-flat (end_ports system) 11 (ends_of system) (end_ports-few system)) in
    let streams = length-flat (connection_ends system) 2 (streams_of system) (connection_ends-few system) in
    let first = length-append (hosts_of system) (agents_of system) in
    let all = length-append (hosts_of system ++ agents_of system) (flat_map (connection_ends system) (streams_of system)) in
    omega (arith, flat, streams, first, all)

-- ---- the header

pub is_header : (system : SystemTable) → AreBounded → IsPlanned system → IsHeader (module_name system) (ports_of system)
is_header system laws h =
    let each = λ (k : ℕ) (d : PortLine) (inside : k < length (ports_of system)). plan_port system (get_or (ports_of system) k d) laws h (among_at (ports_of system) k _ (slice_get-get_or (ports_of system) k d inside)) in
    record {
      module_name = module_name_is system.name h.kept.name;
      port_names = λ k d inside. (each k d inside).name;
      distinct = distinct_ports system h;
      widths = λ k d inside. ((each k d inside).some, (each k d inside).few);
      few = (let few = ports-few system h in omega arith);
    }
