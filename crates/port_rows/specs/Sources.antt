-- The signals of a source in a row of values.
use Rattle.std.specs.Prelude.{◌*◌, Bool, Option, is_some, unwrap_or, List, [], ◌∷◌}
use Rattle.iface_roles.specs.declared.records.StreamPort.{StreamPort}
use Rattle.system_tables.specs.declared.tables.EndId.{EndId}
use Rattle.system_tables.specs.Tables.{SystemTable}
use Rattle.histories.specs.History.{one_if}
use Rattle.stream_runs.specs.View.{Beat}
use Rattle.port_tables.specs.declared.roles.PortRole.TheVariants as role
use Rattle.port_tables.specs.Ports.{bits_if}
use Rattle.port_rows.specs.declared.driven.Driven.{Driven}
use Rattle.port_rows.specs.Levels.{Level, levels_for}
use Rattle.stand_ins.specs.Sources.{no_beat}
use Rattle.port_rows.specs.Inputs.{place_at, drives, FitsPort}
use Rattle.port_rows.specs.declared.stream_ends.places.SourcePlaces.{SourcePlaces}

-- where the signals of the source at an end stand
abbrev pub source_places : SystemTable → EndId → SourcePlaces
source_places system end = record {
  valid = place_at system end role.Valid;
  word = place_at system end role.Data;
  channel = place_at system end role.Channel;
  error = place_at system end role.Error;
  first = place_at system end role.StartOfPacket;
  last = place_at system end role.EndOfPacket;
  empty = place_at system end role.Empty;
}

-- valid and a beat, signal by signal
abbrev pub beat_driven : SourcePlaces → Bool → Beat → List Driven
beat_driven places valid beat =
    drives places.valid (one_if valid)
    ∷ drives places.word beat.word
    ∷ drives places.channel beat.channel
    ∷ drives places.error beat.error
    ∷ drives places.first beat.first
    ∷ drives places.last beat.last
    ∷ drives places.empty beat.empty
    ∷ []

-- what a source sets in a row: a beat, or nothing
abbrev pub source_levels : SourcePlaces → Option Beat → List Level
source_levels places beat = levels_for (beat_driven places (is_some beat) (unwrap_or beat no_beat))

-- a beat has room at the ports of a source; at absent ones it is 0
pub record FitsSource (port : StreamPort) (beat : Beat) : Type 0 where
  pub word : FitsPort (port.symbols * port.symbol_bits) 0 beat.word
  pub channel : FitsPort port.channel_bits 0 beat.channel
  pub error : FitsPort port.error_bits 0 beat.error
  pub first : FitsPort (bits_if port.packets 1) 0 beat.first
  pub last : FitsPort (bits_if port.packets 1) 0 beat.last
  pub empty : FitsPort port.empty_bits 0 beat.empty
