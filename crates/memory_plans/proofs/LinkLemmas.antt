-- The links of a system's hosts to its agents: their footprints and their numbers.
use Rattle.std.proofs.Common.{◌≡◌, ℕ, ◌+◌, zero, suc, Bool, true, false, ◌&&◌, nat_eq, List, [], ◌∷◌, Some, map, refl, sym, ap, subst, ◌∙◌, arith}
use Rattle.std.specs.Prelude.{slice_get}
use Rattle.std.specs.Option.{option_map_or}
use Rattle.std.proofs.lemmas.Bool.Decides.{Decides-eqb}
use Rattle.std.proofs.lemmas.Option.{same_Some, none-some}
use Rattle.iface_roles.specs.declared.records.AgentPort.{AgentPort}
use Rattle.iface_roles.specs.declared.records.HostPort.{HostPort}
use Rattle.iface_roles.specs.declared.records.Finished.{Finished}
use Rattle.iface_roles.specs.declared.records.Finished.TheVariants.{Host, Agent, Source, Sink, Other}
use Rattle.iface_roles.specs.Proper.{range_of}
use Rattle.system_tables.specs.declared.tables.Connection.{Connection}
use Rattle.system_tables.specs.declared.tables.EndId.{EndId}
use Rattle.system_tables.specs.Tables.{SystemTable, IsEnd, IsSystem}
use Rattle.address_map.specs.declared.footprint.Footprint.{Footprint}
use Rattle.address_map.specs.Footprints.{known_at, footprint_as, footprint_of, footprints, footprint_bytes}
use Rattle.address_map.specs.Maps.{hosts_of, agents_of}
use Rattle.link_rules.specs.declared.plan_connections.MemoryConnection.{MemoryConnection}
use Rattle.link_rules.specs.PlanConnections.{number_in, memory_connection_as, memory_connection, memory_connections, IsMemoryConnection}
use Rattle.memory_plans.specs.Systems.{links, link_between, agent_of}
use Rattle.memory_plans.proofs.ListLemmas.{At, made_from, made_there, one_place, found_at}

both : (a b : Bool) → (a && b) ≡ true → (a ≡ true) × (b ≡ true)
both true b h = (refl, h)
both false b h = absurd (let no : false ≡ true = h in cc)

pub known_is : (system : SystemTable) (end : EndId) (known : Finished) → IsEnd system end known → known_at system end ≡ known
known_is system end known e = rw (e.instance_is, e.interface_is) e.is

-- the footprint of a connection of this host to this agent
abbrev pub footprint_between : Connection → HostPort → AgentPort → Footprint
footprint_between connection host agent = record {
  host = connection.start;
  range = range_of host;
  base = connection.base;
  bytes = footprint_bytes host agent;
  reads = agent.reads;
  writes = agent.writes;
}

-- ---- a link says what its connection is

record Says (hosts agents : List EndId) (number : ℕ) (connection : Connection) (start end : Finished) (link : MemoryConnection) : Type 0 where
  pub number_is : link.connection ≡ number
  pub agent_is : link.agent_number ≡ number_in agents connection.end
  pub base_is : link.base ≡ connection.base
  pub start_is : start ≡ Host link.host
  pub end_is : end ≡ Agent link.agent

says : (hosts agents : List EndId) (number : ℕ) (connection : Connection) (start end : Finished) (link : MemoryConnection) → memory_connection_as hosts agents number connection start end ≡ Some link → Says hosts agents number connection start end link
says hosts agents number connection (Host host) (Agent agent) link makes =
    subst (Says hosts agents number connection (Host host) (Agent agent)) (same_Some _ link makes)
    (record { number_is = refl; agent_is = refl; base_is = refl; start_is = refl; end_is = refl })
says hosts agents number connection (Host host) (Host end) link makes = absurd (none-some link makes)
says hosts agents number connection (Host host) (Source end) link makes = absurd (none-some link makes)
says hosts agents number connection (Host host) (Sink end) link makes = absurd (none-some link makes)
says hosts agents number connection (Host host) Other link makes = absurd (none-some link makes)
says hosts agents number connection (Agent start) end link makes = absurd (none-some link makes)
says hosts agents number connection (Source start) end link makes = absurd (none-some link makes)
says hosts agents number connection (Sink start) end link makes = absurd (none-some link makes)
says hosts agents number connection Other end link makes = absurd (none-some link makes)

pub says_number : (system : SystemTable) (number : ℕ) (connection : Connection) (link : MemoryConnection) → memory_connection system (number, connection) ≡ Some link → link.connection ≡ number
says_number system number connection link makes = (says (hosts_of system) (agents_of system) number connection (known_at system connection.start) (known_at system connection.end) link makes).number_is

-- a link is that of its connection and of its footprint
pub record IsLinkOf (system : SystemTable) (link : MemoryConnection) : Type 0 where
  pub connection : Connection
  pub is : slice_get system.connections link.connection ≡ Some connection
  pub agent_is : link.agent_number ≡ number_in (agents_of system) connection.end
  pub base_is : link.base ≡ connection.base
  pub start_is : known_at system connection.start ≡ Host link.host
  pub end_is : known_at system connection.end ≡ Agent link.agent
  pub footprint_is : slice_get (footprints system) link.connection ≡ Some (Some (footprint_between connection link.host link.agent))

mapped : {X Y : Type 0} (f : X → Y) (xs : List X) (k : ℕ) (x : X) → slice_get xs k ≡ Some x → slice_get (map f xs) k ≡ Some (f x)
mapped f [] k x at = absurd (none-some x at)
mapped f (y ∷ xs) zero x at = ap (λ z. Some (f z)) (same_Some y x at)
mapped f (y ∷ xs) (suc k) x at = mapped f xs k x at

unmapped : {X Y : Type 0} (f : X → Y) (xs : List X) (k : ℕ) (y : Y) → slice_get (map f xs) k ≡ Some y → (x : X) × (slice_get xs k ≡ Some x) × (f x ≡ y)
unmapped f [] k y at = absurd (none-some y at)
unmapped f (x ∷ xs) zero y at = (x, refl, same_Some (f x) y at)
unmapped f (x ∷ xs) (suc k) y at = unmapped f xs k y at

link_of : (system : SystemTable) (number : ℕ) (connection : Connection) (link : MemoryConnection) → slice_get system.connections number ≡ Some connection → memory_connection system (number, connection) ≡ Some link → IsLinkOf system link
link_of system number connection link at makes =
    let s = says (hosts_of system) (agents_of system) number connection (known_at system connection.start) (known_at system connection.end) link makes in
    let there : slice_get system.connections link.connection ≡ Some connection = ap (slice_get system.connections) s.number_is ∙ at in
    let takes : footprint_of system connection ≡ Some (footprint_between connection link.host link.agent) =
    ap (λ a. footprint_as connection a (known_at system connection.end)) s.start_is ∙ ap (footprint_as connection (Host link.host)) s.end_is in
    record {
      connection = connection;
      is = there;
      agent_is = s.agent_is;
      base_is = s.base_is;
      start_is = s.start_is;
      end_is = s.end_is;
      footprint_is = mapped (footprint_of system) system.connections link.connection connection there ∙ ap Some takes;
    }

pub each_is : (system : SystemTable) (link : MemoryConnection) → At (memory_connections system) link → IsLinkOf system link
each_is system link at =
    let from = made_from (memory_connection system) 0 system.connections at.place link at.is in
    link_of system (0 + from.place) from.item link (let here : 0 + from.place ≡ from.place = omega arith in ap (slice_get system.connections) here ∙ from.is) from.makes

-- the agent of a link's connection is the link's
pub agent_of_link : (system : SystemTable) (link : MemoryConnection) → IsLinkOf system link → agent_of system link.connection ≡ link.agent_number
agent_of_link system link is = ap (λ o. option_map_or (λ (c : Connection). number_in (agents_of system) c.end) o 0) is.is ∙ sym is.agent_is

-- ---- a footprint is that of a link

-- the link of a connection that has a footprint
pub record HasFootprint (system : SystemTable) (number : ℕ) (f : Footprint) : Type 0 where
  pub link : MemoryConnection
  pub there : At (memory_connections system) link
  pub number_is : link.connection ≡ number
  pub link_is : IsLinkOf system link
  pub same : f ≡ footprint_between link_is.connection link.host link.agent

makes_link : (hosts agents : List EndId) (number : ℕ) (connection : Connection) (start end : Finished) (f : Footprint) → footprint_as connection start end ≡ Some f
    → (link : MemoryConnection) × (memory_connection_as hosts agents number connection start end ≡ Some link)
makes_link hosts agents number connection (Host host) (Agent agent) f is = (_, refl)
makes_link hosts agents number connection (Host host) (Host end) f is = absurd (none-some f is)
makes_link hosts agents number connection (Host host) (Source end) f is = absurd (none-some f is)
makes_link hosts agents number connection (Host host) (Sink end) f is = absurd (none-some f is)
makes_link hosts agents number connection (Host host) Other f is = absurd (none-some f is)
makes_link hosts agents number connection (Agent start) end f is = absurd (none-some f is)
makes_link hosts agents number connection (Source start) end f is = absurd (none-some f is)
makes_link hosts agents number connection (Sink start) end f is = absurd (none-some f is)
makes_link hosts agents number connection Other end f is = absurd (none-some f is)

pub footprint_has_link : (system : SystemTable) (number : ℕ) (f : Footprint) → slice_get (footprints system) number ≡ Some (Some f) → HasFootprint system number f
footprint_has_link system number f at =
    let from = unmapped (footprint_of system) system.connections number (Some f) at in
    let c = from.0 in
    let made = makes_link (hosts_of system) (agents_of system) number c (known_at system c.start) (known_at system c.end) f from.2 in
    let zero_more : number ≡ 0 + number = omega arith in
    let makes : memory_connection system (0 + number, c) ≡ Some made.0 = subst (λ n. memory_connection system (n, c) ≡ Some made.0) zero_more made.1 in
    let is = link_of system number c made.0 from.1 made.1 in
    let named = says_number system number c made.0 made.1 in
    record {
      link = made.0;
      there = made_there (memory_connection system) 0 system.connections number c made.0 from.1 makes;
      number_is = named;
      link_is = is;
      same = same_Some f (footprint_between is.connection made.0.host made.0.agent) (same_Some (Some f) (Some (footprint_between is.connection made.0.host made.0.agent)) (sym at ∙ ap (slice_get (footprints system)) (sym named) ∙ is.footprint_is));
    }

-- ---- one link for each pair of a host and an agent

pub one_link : (system : SystemTable) → IsSystem system → ((k : ℕ) (link : MemoryConnection) → slice_get (memory_connections system) k ≡ Some link → IsMemoryConnection system link)
    → (a b : MemoryConnection) (at_a : At (memory_connections system) a) (at_b : At (memory_connections system) b) → a.host_number ≡ b.host_number → a.agent_number ≡ b.agent_number → at_a.place ≡ at_b.place
one_link system is numbered a b at_a at_b same_host same_agent =
    let x = numbered at_a.place a at_a.is in
    let y = numbered at_b.place b at_b.is in
    let start : x.connection.start ≡ y.connection.start = same_Some x.connection.start y.connection.start (sym x.host_is ∙ ap (slice_get (hosts_of system)) same_host ∙ y.host_is) in
    let end : x.connection.end ≡ y.connection.end = same_Some x.connection.end y.connection.end (sym x.agent_is ∙ ap (slice_get (agents_of system)) same_agent ∙ y.agent_is) in
    one_place (memory_connection system) (λ (link : MemoryConnection). link.connection) (says_number system) system.connections at_a.place at_b.place a b at_a.is at_b.is
    (is.pairs a.connection b.connection x.connection y.connection x.connection_is y.connection_is start end)

links-own : (h a : ℕ) (link : MemoryConnection) → link.host_number ≡ h → link.agent_number ≡ a → links h a link ≡ true
links-own h a link host agent =
    let one : nat_eq link.host_number h ≡ true = (Decides-eqb link.host_number h).1 host in
    let two : nat_eq link.agent_number a ≡ true = (Decides-eqb link.agent_number a).1 agent in
    rw (one, two) refl

-- the link between a host and an agent
pub found_between : (system : SystemTable) → IsSystem system → ((k : ℕ) (link : MemoryConnection) → slice_get (memory_connections system) k ≡ Some link → IsMemoryConnection system link)
    → (h a : ℕ) (link : MemoryConnection) → At (memory_connections system) link → link.host_number ≡ h → link.agent_number ≡ a → link_between system h a ≡ Some link
found_between system is numbered h a link at host agent =
    let found = found_at (links h a) (memory_connections system) at.place link at.is (links-own h a link host agent) in
    let other = found.0 in
    let passes = both (nat_eq other.host_number h) (nat_eq other.agent_number a) found.2.passes in
    let place = one_link system is numbered other link found.2.there at ((Decides-eqb other.host_number h).0 passes.0 ∙ sym host) ((Decides-eqb other.agent_number a).0 passes.1 ∙ sym agent) in
    let same : other ≡ link = same_Some other link (sym found.2.there.is ∙ ap (slice_get (memory_connections system)) place ∙ at.is) in
    found.1 ∙ ap Some same
