-- What a run shows at a source and at a sink.
use Rattle.std.proofs.Common.{◌≡◌, lit<, ℕ, Bool, true, false, List, slice_get, Option, Some, refl, arith}
use Rattle.std.specs.Prelude.{is_some, unwrap_or}
use Rattle.av_base.specs.Word.{Word}
use Rattle.iface_roles.specs.declared.records.StreamPort.{StreamPort}
use Rattle.iface_roles.specs.declared.records.Finished.TheVariants.{Source, Sink}
use Rattle.system_tables.specs.declared.tables.EndId.{EndId}
use Rattle.system_tables.specs.Tables.{SystemTable}
use Rattle.address_map.specs.Footprints.{known_at}
use Rattle.netlist.specs.Netlists.{Netlist}
use Rattle.netlist.specs.Runs.{Run}
use Rattle.cycle_sim.specs.Sims.{widths_of, input_widths}
use Rattle.histories.specs.History.{one_if}
use Rattle.stream_runs.specs.View.{Beat}
use Rattle.stream_runs.specs.Ends.{view_of}
use Rattle.port_tables.specs.declared.roles.PortRole.TheVariants as role
use Rattle.port_tables.specs.declared.roles.RolePort.{RolePort}
use Rattle.port_tables.specs.Lists.{Among, among_at}
use Rattle.port_tables.specs.Ports.{is_output, may_have, name_at, ends_of, port_of, bits_if, ports_of}
use Rattle.port_tables.specs.PortMaps.{HasKnownPorts}
use Rattle.interconnect.specs.Streams.{end_signals}
use Rattle.port_rows.specs.Levels.{AllFit, AllStand, level_if}
use Rattle.port_rows.specs.Rows.{IsGivenRow}
use Rattle.stand_ins.specs.Sources.{Shows, no_beat}
use Rattle.port_rows.specs.Inputs.{FitsPort, IsInputOf, InputsAreShown, InputsHaveRoom, EachStands, AllHaveRoom, place_at}
use Rattle.port_rows.specs.Sources.{FitsSource, beat_driven, source_levels, source_places}
use Rattle.port_rows.specs.Sinks.{FitsReady}

pub same_beat : (one other : Beat) → one.word ≡ other.word → one.channel ≡ other.channel → one.error ≡ other.error → one.first ≡ other.first → one.last ≡ other.last → one.empty ≡ other.empty → one ≡ other
same_beat one other word channel error first last empty =
    λ i. record { word = word i; channel = channel i; error = error i; first = first i; last = last i; empty = empty i }

valid_fits : (valid : Bool) → FitsPort 1 0 (one_if valid)
valid_fits true = record { room = λ _. lit< tt; default = λ none. absurd (omega arith) }
valid_fits false = record { room = λ _. lit< tt; default = λ none. absurd (omega arith) }

-- ---- sources

-- the port of this number among those of a source
source_input : (system : SystemTable) (end : EndId) (source : StreamPort) (k : ℕ) (port : RolePort) → Among end (ends_of system) → known_at system end ≡ Source source
    → slice_get (may_have (Source source)) k ≡ Some port → is_output true port.role ≡ false → IsInputOf system end (Source source) port
source_input system end source k port among known at input = record { among = among; known = known; may = among_at (may_have (Source source)) k port at; input = input }

pub source_shown : (system : SystemTable) (netlist : Netlist) (run : Run) (c : ℕ) (row : List Word) → InputsAreShown → EachStands → HasKnownPorts system → IsGivenRow system netlist run c row
    → (end : EndId) (source : StreamPort) (beat : Option Beat) → Among end (ends_of system) → known_at system end ≡ Source source → FitsSource source (unwrap_or beat no_beat)
    → AllStand row (source_levels (source_places system end) beat) → Shows (view_of (end_signals netlist run (name_at system end))) c beat
source_shown system netlist run c row law each known given end source beat among there fits stand =
    let sent = unwrap_or beat no_beat in
    let driven = beat_driven (source_places system end) (is_some beat) sent in
    let shown = λ (k : ℕ) (port : RolePort) (level : ℕ) (at : slice_get (may_have (Source source)) k ≡ Some port) (input : is_output true port.role ≡ false) (room : FitsPort port.width 0 level) (stands : AllStand row (level_if (place_at system end port.role) level)).
    law system netlist run c row known given end (Source source) port 0 level (source_input system end source k port among there at input) room stands in
    record {
      valid = shown 1 _ (one_if (is_some beat)) refl refl (valid_fits (is_some beat)) (each row driven 0 _ refl stand);
      signals = same_beat _ sent
          (shown 2 _ sent.word refl refl fits.word (each row driven 1 _ refl stand))
          (shown 3 _ sent.channel refl refl fits.channel (each row driven 2 _ refl stand))
          (shown 4 _ sent.error refl refl fits.error (each row driven 3 _ refl stand))
          (shown 5 _ sent.first refl refl fits.first (each row driven 4 _ refl stand))
          (shown 6 _ sent.last refl refl fits.last (each row driven 5 _ refl stand))
          (shown 7 _ sent.empty refl refl fits.empty (each row driven 6 _ refl stand));
    }

pub source_fits : (system : SystemTable) (row : List Word) → InputsHaveRoom → AllHaveRoom → HasKnownPorts system → widths_of row ≡ input_widths (ports_of system)
    → (end : EndId) (source : StreamPort) (beat : Option Beat) → Among end (ends_of system) → known_at system end ≡ Source source → FitsSource source (unwrap_or beat no_beat)
    → AllFit row (source_levels (source_places system end) beat)
source_fits system row law all known same end source beat among there fits =
    let sent = unwrap_or beat no_beat in
    let room = λ (k : ℕ) (port : RolePort) (level : ℕ) (at : slice_get (may_have (Source source)) k ≡ Some port) (input : is_output true port.role ≡ false) (h : FitsPort port.width 0 level).
    law system row known same end (Source source) port 0 level (source_input system end source k port among there at input) h in
    all row (beat_driven (source_places system end) (is_some beat) sent) (
      room 1 _ (one_if (is_some beat)) refl refl (valid_fits (is_some beat)),
      (
        room 2 _ sent.word refl refl fits.word,
        (
          room 3 _ sent.channel refl refl fits.channel,
          (room 4 _ sent.error refl refl fits.error, (room 5 _ sent.first refl refl fits.first, (room 6 _ sent.last refl refl fits.last, (room 7 _ sent.empty refl refl fits.empty, tt)))),
        ),
      ),
    )

-- ---- sinks

sink_input : (system : SystemTable) (end : EndId) (sink : StreamPort) → Among end (ends_of system) → known_at system end ≡ Sink sink
    → IsInputOf system end (Sink sink) (port_of role.Ready (bits_if sink.ready 1))
sink_input system end sink among known = record { among = among; known = known; may = among_at (may_have (Sink sink)) 0 _ refl; input = refl }

pub sink_shown : (system : SystemTable) (netlist : Netlist) (run : Run) (c : ℕ) (row : List Word) → InputsAreShown → HasKnownPorts system → IsGivenRow system netlist run c row
    → (end : EndId) (sink : StreamPort) (ready : Bool) → Among end (ends_of system) → known_at system end ≡ Sink sink → FitsReady sink ready
    → AllStand row (level_if (place_at system end role.Ready) (one_if ready)) → (view_of (end_signals netlist run (name_at system end))).ready c ≡ one_if ready
sink_shown system netlist run c row law known given end sink ready among there fits stand =
    law system netlist run c row known given end (Sink sink) _ 1 (one_if ready) (sink_input system end sink among there) fits stand

pub sink_fits : (system : SystemTable) (row : List Word) → InputsHaveRoom → HasKnownPorts system → widths_of row ≡ input_widths (ports_of system)
    → (end : EndId) (sink : StreamPort) (ready : Bool) → Among end (ends_of system) → known_at system end ≡ Sink sink → FitsReady sink ready
    → AllFit row (level_if (place_at system end role.Ready) (one_if ready))
sink_fits system row law known same end sink ready among there fits =
    law system row known same end (Sink sink) _ 1 (one_if ready) (sink_input system end sink among there) fits
