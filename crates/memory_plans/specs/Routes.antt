-- The map of a host as routes to its agents.
pub use Rattle.memory_runs.specs.declared.sides.route.Route.{Route}
use Rattle.std.specs.Prelude.{◌≡◌, ◌+◌, ◌*◌, ◌^◌, ◌<◌, ◌≤◌, ◌⊎◌, ℕ, Bool, ◌&&◌, nat_eq, nat_le, nat_lt, max, List, Option, Some, map, filter, find, slice_get, IsTrue, if◌then◌else◌}
use Rattle.std.specs.Option.{option_map}
use Rattle.iface_roles.specs.declared.records.AgentPort.{AgentPort}
use Rattle.iface_roles.specs.declared.records.HostPort.{HostPort}
use Rattle.system_tables.specs.Tables.{SystemTable}
use Rattle.link_rules.specs.declared.plan_connections.MemoryConnection.{MemoryConnection}
use Rattle.link_rules.specs.PlanConnections.{memory_connections}
use Rattle.memory_runs.specs.Views.{System, Kind}
use Rattle.memory_runs.specs.Views.Kind.{Reads, Writes}
use Rattle.memory_runs.specs.Order.{is_joined}
use Rattle.memory_runs.specs.Plan.{footprint}

-- a word of 1, 2, 4, 8 or 16 bytes has 2 to this many
abbrev pub word_bits : ℕ → ℕ
word_bits bytes =
    if nat_lt bytes 2 then 0
    else (if nat_lt bytes 4 then 1 else (if nat_lt bytes 8 then 2 else (if nat_lt bytes 16 then 3 else 4)))

-- the span of an agent has 2 to this many bytes
abbrev pub span_bits : AgentPort → ℕ
span_bits agent =
    if agent.byte_units then max agent.address_bits (word_bits agent.word_bytes)
    else agent.address_bits + word_bits agent.word_bytes

-- the footprint of an agent in the map of a host has 2 to this many bytes
abbrev pub footprint_bits : HostPort → AgentPort → ℕ
footprint_bits host agent = max (span_bits agent) (word_bits host.word_bytes)

abbrev pub route_of : MemoryConnection → Route
route_of link = record {
  agent = link.agent_number;
  base = link.base;
  bits = footprint_bits link.host link.agent;
  reads = link.agent.reads;
  writes = link.agent.writes;
}

-- the routes of those links that are the host's
abbrev pub routes_among : ℕ → List MemoryConnection → List Route
routes_among host links = map route_of (filter (λ link. nat_eq link.host_number host) links)

-- the routes of a host, in the order of its connections
abbrev pub routes_of : SystemTable → ℕ → List Route
routes_of system host = routes_among host (memory_connections system)

-- the route holds a byte address
abbrev pub holds : ℕ → Route → Bool
holds address route = nat_le route.base address && nat_lt address (route.base + 2 ^ route.bits)

-- the agent of the route has this kind of transfer
abbrev pub takes : Kind → Route → Bool
takes Reads route = route.reads
takes Writes route = route.writes

-- the agent of the route that holds a byte address and takes this kind of transfer
abbrev pub routed : List Route → Kind → ℕ → Option ℕ
routed routes kind address = option_map (λ route. route.agent) (find (λ route. holds address route && takes kind route) routes)

-- no byte is held by both
abbrev pub AreApart : Route → Route → Type 0
AreApart a b = (a.base + 2 ^ a.bits ≤ b.base) ⊎ (b.base + 2 ^ b.bits ≤ a.base)

-- a route of a host leads to a joined agent, and holds its footprint
pub record IsRoute (system : System) (host : ℕ) (route : Route) : Type 0 where
  pub joined : IsTrue (is_joined system route.agent host)
  pub base : route.base ≡ system.base host route.agent
  pub bytes : 2 ^ route.bits ≡ footprint (system.agent route.agent).span (system.host host).word_bytes
  pub few_bits : route.bits ≤ 32
  pub whole : (times : ℕ) × (route.base ≡ times * 2 ^ route.bits)
  pub within : route.base + 2 ^ route.bits ≤ 2 ^ 32
  pub reads : route.reads ≡ (system.agent route.agent).has_read
  pub writes : route.writes ≡ (system.agent route.agent).has_write

-- one of the routes leads to the agent
pub record HasRoute (routes : List Route) (agent : ℕ) : Type 0 where
  pub number : ℕ
  pub route : Route
  pub is : slice_get routes number ≡ Some route
  pub leads : route.agent ≡ agent

-- the routes are the map of the host
pub record AreRoutes (system : System) (host : ℕ) (routes : List Route) : Type 0 where
  pub each : (k : ℕ) (route : Route) → slice_get routes k ≡ Some route → IsRoute system host route
  pub apart : (j k : ℕ) (a b : Route) → j < k → slice_get routes j ≡ Some a → slice_get routes k ≡ Some b → AreApart a b
  pub agents : (agent : ℕ) → IsTrue (is_joined system agent host) → HasRoute routes agent
  pub place : (kind : Kind) (address : ℕ) → system.place host kind address ≡ routed routes kind address
