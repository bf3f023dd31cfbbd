-- The ends that the steps of building go through, and what a plan promises of them.
use Rattle.std.specs.Prelude.{◌≡◌, ◌*◌, ◌≤◌, ℕ, List, Some, slice_get}
use Rattle.iface_roles.specs.declared.records.Finished.{Finished}
use Rattle.iface_roles.specs.declared.records.Finished.TheVariants.{Source, Sink}
use Rattle.iface_roles.specs.declared.records.StreamPort.{StreamPort}
use Rattle.iface_roles.specs.Proper.{IsProper}
use Rattle.system_tables.specs.declared.tables.EndId.{EndId}
use Rattle.system_tables.specs.declared.tables.Connection.{Connection}
use Rattle.system_tables.specs.Tables.{SystemTable, IsEnd}
use Rattle.address_map.specs.Footprints.{known_at}
use Rattle.link_rules.specs.Links.{streams_of}
use Rattle.port_tables.specs.Ports.{ends_of}

-- a beat has at most 128 bits
abbrev pub IsNarrow : Finished → Type 0
IsNarrow (Source source) = source.symbols * source.symbol_bits ≤ 128
IsNarrow (Sink sink) = sink.symbols * sink.symbol_bits ≤ 128
IsNarrow _ = Unit {0}

-- one of the ends of a system
abbrev pub IsAnEnd : SystemTable → EndId → Type 0
IsAnEnd system end = (n : ℕ) × (slice_get (ends_of system) n ≡ Some end)

-- an end of a connection of a plan
pub record IsPlanEnd (system : SystemTable) (end : EndId) : Type 0 where
  pub known : Finished
  pub is : IsEnd system end known
  pub proper : IsProper known
  pub narrow : IsNarrow known

-- each of these is one
abbrev pub ArePlanEnds : SystemTable → List EndId → Type 0
ArePlanEnds system ends = (k : ℕ) (end : EndId) → slice_get ends k ≡ Some end → IsPlanEnd system end

-- the connection of the stream of this number, and its ends
pub record IsStreamPlace (system : SystemTable) (number : ℕ) (connection : Connection) : Type 0 where
  pub place : ℕ
  pub place_is : slice_get (streams_of system) number ≡ Some place
  pub connection_is : slice_get system.connections place ≡ Some connection
  pub source : IsPlanEnd system connection.start
  pub sink : IsPlanEnd system connection.end
  pub source_port : StreamPort
  pub sink_port : StreamPort
  pub source_is : known_at system connection.start ≡ Source source_port
  pub sink_is : known_at system connection.end ≡ Sink sink_port
