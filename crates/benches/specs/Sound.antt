-- What is kept of the streams of a bench, and what holds of the links that they stand for.
use Rattle.std.specs.Prelude.{◌*◌, ◌^◌, ◌<◌, ◌≤◌, ℕ, List, [], ◌∷◌, All, Option, Some, None}
use Rattle.iface_roles.specs.declared.records.StreamPort.{StreamPort}
use Rattle.iface_roles.specs.Proper.{IsBoundedStream}
use Rattle.iface_roles.specs.Records.{ready_latency}
use Rattle.system_tables.specs.Tables.{SystemTable}
use Rattle.link_rules.specs.declared.plan_connections.StreamConnection.{StreamConnection}
use Rattle.link_rules.specs.PlanConnections.{IsStreamConnection}
use Rattle.port_tables.specs.Ends.{IsAnEnd}
use Rattle.scenario_tables.specs.declared.statements.Pattern.{Pattern}
use Rattle.scenario_tables.specs.Statements.{IsPattern}
use Rattle.stand_ins.specs.Step.{Step}
use Rattle.stand_ins.specs.Step.Step.{Quiet, Sends}
use Rattle.stand_ins.specs.Sources.{Keeping}
use Rattle.port_rows.specs.Sinks.{IsSinkEnd}

-- a beat that the step sends has at most so many bits of data
abbrev pub IsWithin : ℕ → Step → Type 0
IsWithin bits Quiet = Unit {0}
IsWithin bits (Sends beat) = beat.word < 2 ^ bits

-- an end within the tables whose beats have at most 128 bits of data
pub record IsSoundEnd (port : StreamPort) : Type 0 where
  pub bounded : IsBoundedStream port
  pub short : port.symbols * port.symbol_bits ≤ 128

-- what each stream of a bench keeps
pub record IsKept (source sink : StreamPort) (keeping : Keeping) (script : List Pattern) : Type 0 where
  pub source_sound : IsSoundEnd source
  pub sink_sound : IsSoundEnd sink
  pub left : All (IsWithin (source.symbols * source.symbol_bits)) keeping.left
  pub patterns : All IsPattern script

-- the link of a stream of a plan: its ends are ends of the module, and their records are sound
pub record IsSoundLink (system : SystemTable) (number : ℕ) (link : StreamConnection) : Type 0 where
  pub is : IsStreamConnection system number link
  pub source_end : IsAnEnd system link.source_end
  pub sink_end : IsAnEnd system link.sink_end
  pub sink_of : IsSinkEnd system number link.sink_end
  pub source : IsSoundEnd link.source
  pub sink : IsSoundEnd link.sink
  pub soon : ready_latency link.source ≤ 8

-- a line, where there is one
abbrev pub line_if : Option (List ℕ) → List (List ℕ)
line_if None = []
line_if (Some line) = line ∷ []
