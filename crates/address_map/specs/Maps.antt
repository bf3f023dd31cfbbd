-- The maps of a system's hosts, and where an address goes.
pub use Rattle.address_map.specs.declared.host_map.MapEntry.{MapEntry}
use Rattle.std.specs.Prelude.{◌≡◌, ◌+◌, ◌-◌, ◌^◌, ◌<◌, ◌≤◌, ℕ, Bool, true, false, ◌&&◌, nat_le, List, length, map, filter, find, All, AllPairs, Option, Some, None, option_and_then, slice_get, IsTrue, IsPermutation, if◌then◌else◌}
use Rattle.std.specs.List.{filter_map, enumerate_from}
use Rattle.std.specs.Option.{option_map}
use Rattle.iface_roles.specs.declared.kinds.Kind.{Kind}
use Rattle.iface_roles.specs.declared.kinds.Kind.TheVariants.{Mm}
use Rattle.iface_roles.specs.declared.kinds.Side.{Side}
use Rattle.iface_roles.specs.declared.kinds.Side.TheVariants.{Start, End}
use Rattle.system_tables.specs.declared.tables.Connection.{Connection}
use Rattle.system_tables.specs.declared.tables.EndId.{EndId}
use Rattle.system_tables.specs.Tables.{SystemTable}
use Rattle.address_map.specs.Ends.{is_same_end, each_once}
use Rattle.address_map.specs.Footprints.{Footprint, IsFit, footprint_of, footprints}
use Rattle.address_map.specs.MapRules.{KeepsMapRules}

abbrev pub is_mm : Kind → Bool
is_mm Mm = true
is_mm _ = false

-- the connections of hosts to agents
abbrev pub mm_connections : SystemTable → List Connection
mm_connections system = filter (λ connection. is_mm connection.kind) system.connections

abbrev pub end_at : Side → Connection → EndId
end_at Start connection = connection.start
end_at End connection = connection.end

-- the ends on one side of the connections of hosts to agents, each once, in the order in which they come first
abbrev pub mm_ends : Side → SystemTable → List EndId
mm_ends side system = each_once (map (end_at side) (mm_connections system))

-- the hosts and the agents, by their numbers
abbrev pub hosts_of : SystemTable → List EndId
hosts_of = mm_ends Start

abbrev pub agents_of : SystemTable → List EndId
agents_of = mm_ends End

-- the entry of a connection in the map of its host
abbrev pub entry_of : ℕ → Footprint → MapEntry
entry_of number f =
    record { connection = number; first = f.base; last = f.base + f.bytes - 1; reads = f.reads; writes = f.writes }

abbrev pub entry_at : EndId → ℕ → Option Footprint → Option MapEntry
entry_at host number None = None
entry_at host number (Some f) = if is_same_end f.host host then Some (entry_of number f) else None

-- the entries of a host's connections, in the order of their numbers
abbrev pub entries_of : EndId → List (Option Footprint) → List MapEntry
entries_of host footprints = filter_map (λ numbered. entry_at host numbered.0 numbered.1) (enumerate_from 0 footprints)

-- each entry has a byte, and ends before the next begins
pub record IsRising (entries : List MapEntry) : Type 0 where
  pub filled : All (λ e. e.first ≤ e.last) entries
  pub apart : AllPairs (λ a b. a.last < b.first) entries

-- the map of a host: the entries of its connections, by rising base
pub record IsMapOf (host : EndId) (footprints : List (Option Footprint)) (entries : List MapEntry) : Type 0 where
  pub same : IsPermutation (entries_of host footprints) entries
  pub rising : IsRising entries

-- the maps of these hosts, after these footprints
pub record AreMapsFor (hosts : List EndId) (footprints : List (Option Footprint)) (maps : List (List MapEntry)) : Type 0 where
  pub fit : (connection : ℕ) (f : Footprint) → slice_get footprints connection ≡ Some (Some f) → IsFit f
  pub count : length maps ≡ length hosts
  pub each : (number : ℕ) (host : EndId) (entries : List MapEntry) → slice_get hosts number ≡ Some host
      → slice_get maps number ≡ Some entries → IsMapOf host footprints entries

-- the maps of a system, whose connections break no rule, for each host by its number
pub record AreMapsOf (system : SystemTable) (maps : List (List MapEntry)) : Type 0 where
  pub kept : (connection : ℕ) → KeepsMapRules (footprints system) connection
  pub few : length system.connections ≤ 2 ^ 32
  pub placed : AreMapsFor (hosts_of system) (footprints system) maps

-- the entry has a byte among these
abbrev pub meets : ℕ → ℕ → MapEntry → Bool
meets first last e = nat_le e.first last && nat_le first e.last

-- the entry holds a byte address
abbrev pub holds : ℕ → MapEntry → Bool
holds address e = nat_le e.first address && nat_le address e.last

-- the connection whose footprint holds the address
abbrev pub connection_at : List MapEntry → ℕ → Option ℕ
connection_at entries address = option_map (λ e. e.connection) (find (holds address) entries)

-- kinds of transfer
pub data Access : Type 0 where
  Reads : Access
  Writes : Access

abbrev pub serves : Access → MapEntry → Bool
serves Access.Reads e = e.reads
serves Access.Writes e = e.writes

-- where an access goes: to the connection whose footprint holds the address, if its agent has this kind of transfer,
-- and else to the default agent, `None`
abbrev pub place_of : List MapEntry → Access → ℕ → Option ℕ
place_of entries access address =
    option_and_then (λ e. if serves access e then Some e.connection else None) (find (holds address) entries)

-- an access of the host goes to this connection: it is the host's, its footprint holds the address, and its agent has
-- this kind of transfer
pub record IsPlace (footprints : List (Option Footprint)) (host : EndId) (access : Access) (address connection : ℕ) : Type 0 where
  pub footprint : Footprint
  pub is : slice_get footprints connection ≡ Some (Some footprint)
  pub of_host : footprint.host ≡ host
  pub from_base : footprint.base ≤ address
  pub below_end : address < footprint.base + footprint.bytes
  pub serves_it : IsTrue (serves access (entry_of connection footprint))

-- this is the end on its side of a connection of a host to an agent
pub record IsJoined (system : SystemTable) (side : Side) (end : EndId) : Type 0 where
  pub number : ℕ
  pub connection : Connection
  pub is : slice_get system.connections number ≡ Some connection
  pub kind : is_mm connection.kind ≡ true
  pub there : end_at side connection ≡ end

-- the entry is that of a connection of the host
pub record IsEntryOf (system : SystemTable) (host : EndId) (entry : MapEntry) : Type 0 where
  pub connection : Connection
  pub footprint : Footprint
  pub is : slice_get system.connections entry.connection ≡ Some connection
  pub of_host : connection.start ≡ host
  pub takes : footprint_of system connection ≡ Some footprint
  pub same : entry ≡ entry_of entry.connection footprint
