-- How streams take part in a simulation.
use Rattle.std.proofs.Common.{◌≡◌, ◌≤◌, ◌<◌, ◌*◌, ℕ, Bool, true, false, List, [], ◌∷◌, ◌++◌, Option, Some, None, slice_get, refl, sym, subst, ap, ◌∙◌, arith}
use Rattle.std.specs.Prelude.{unwrap_or}
use Rattle.av_base.specs.Word.{Word}
use Rattle.histories.specs.History.{one_if}
use Rattle.iface_roles.specs.declared.records.Finished.{Finished}
use Rattle.iface_roles.specs.declared.records.Finished.TheVariants.{Source, Sink}
use Rattle.iface_roles.specs.declared.records.StreamPort.{StreamPort}
use Rattle.system_tables.specs.declared.tables.EndId.{EndId}
use Rattle.system_tables.specs.Tables.{SystemTable}
use Rattle.address_map.specs.Footprints.{known_at}
use Rattle.link_rules.specs.PlanConnections.{IsStreamConnection}
use Rattle.netlist.specs.declared.line.PortLine.{PortLine}
use Rattle.netlist.specs.Netlists.{Netlist}
use Rattle.netlist.specs.Runs.{Run}
use Rattle.netlist.specs.Signals.{port_net}
use Rattle.cycle_sim.specs.Sims.{SimValue, present, widths_of, input_widths}
use Rattle.stream_runs.specs.View.{Beat, beat_at}
use Rattle.port_tables.specs.declared.roles.PortRole.TheVariants as role
use Rattle.port_tables.specs.declared.roles.RolePort.{RolePort}
use Rattle.port_tables.specs.EndFacts.{known_is}
use Rattle.port_tables.specs.Lists.{Among, among_at}
use Rattle.port_tables.specs.Ports.{bits_if, ends_of, is_output, may_have, name_at, ports_of, starts}
use Rattle.port_tables.specs.PortMaps.{HasKnownPorts, IsPortIf, port_at}
use Rattle.interconnect.specs.Streams.{dropped_signal}
use Rattle.simulated_runs.specs.Ends.{stream_view}
use Rattle.port_rows.specs.Levels.{AllFit, AllStand, Level, level_if}
use Rattle.port_rows.specs.Rows.{level_of}
use Rattle.scenario_tables.specs.declared.statements.Pattern.{Pattern}
use Rattle.stand_ins.specs.Sources.{Shows, no_beat}
use Rattle.port_rows.specs.Inputs.{place_at}
use Rattle.port_rows.specs.declared.stream_ends.places.SinkPorts.{SinkPorts}
use Rattle.port_rows.specs.declared.stream_ends.places.SourcePlaces.{SourcePlaces}
use Rattle.port_rows.specs.Sources.{FitsSource, source_levels, source_places}
use Rattle.port_rows.specs.Sinks.{FitsReady, beat_of, sink_outputs}
use Rattle.benches.specs.Outputs.{IsOutputIf, level_now}
use Rattle.benches.specs.Present.{IsPresent}
use Rattle.benches.specs.Sound.{IsSoundLink}
use Rattle.benches.specs.Streams.{BenchStreamValue, Fits, IsSeen, IsStreamOf, beat_now, is_ready, sets, shown_by}
use Rattle.benches.proofs.streams.Links.{source_among, sink_among}

-- ---- outputs

output_if : (netlist : Netlist) (ports : List PortLine) (output : Bool) (width most : ℕ) (port : Option ℕ) → netlist.ports ≡ ports → output ≡ true → width ≤ most → IsPortIf ports output width port
    → IsOutputIf netlist most port
output_if netlist ports output width most None same out few is = tt
output_if netlist ports output width most (Some k) same out few is = record {
  width = width;
  is = record { port = is.port; is = ap (λ (ps : List PortLine). slice_get ps k) same ∙ is.is; output = is.output_is ∙ out; width = is.width_is };
  few = few;
}

-- the port of this number among those that an end may have
output_at : (netlist : Netlist) (system : SystemTable) (end : EndId) (there : Finished) (k : ℕ) (port : RolePort) (most : ℕ) → HasKnownPorts system → netlist.ports ≡ ports_of system
    → Among end (ends_of system) → known_at system end ≡ there → slice_get (may_have there) k ≡ Some port → is_output (starts there) port.role ≡ true → port.width ≤ most
    → IsOutputIf netlist most (port_at system end port.role)
output_at netlist system end there k port most known same among is at out few =
    output_if netlist (ports_of system) (is_output (starts there) port.role) port.width most (port_at system end port.role) same out few (known.known end there port among is (among_at (may_have there) k port at))

one_bit : (there : Bool) → bits_if there 1 ≤ 1
one_bit true = omega arith
one_bit false = omega arith

pub fits : (system : SystemTable) (number : ℕ) (script : List Pattern) (stream : BenchStreamValue) (sim : SimValue) → (of : IsStreamOf system number script stream) → IsSoundLink system number of.link
    → HasKnownPorts system → sim.netlist.ports ≡ ports_of system → stream.cycle < 65536 → Fits stream sim
fits system number script stream sim of sound known same early =
    let link = of.link in
    let is = sound.is in
    let source_known = known_is system link.source_end (Source link.source) is.source in
    let sink_known = known_is system link.sink_end (Sink link.sink) is.sink in
    let at = λ (k : ℕ) (port : RolePort) (most : ℕ) (there : slice_get (may_have (Sink link.sink)) k ≡ Some port) (out : is_output false port.role ≡ true) (few : port.width ≤ most).
    output_at sim.netlist system link.sink_end (Sink link.sink) k port most known same (sink_among system number link is) sink_known there out few in
    let bounded = sound.sink.bounded in
    let P = λ (choose : SinkPorts → Option ℕ) (most : ℕ) (h : IsOutputIf sim.netlist most (choose (sink_outputs system link.sink_end))).
    subst (λ (ports : SinkPorts). IsOutputIf sim.netlist most (choose ports)) (sym of.ports) h in
    let wide : link.sink.symbols * link.sink.symbol_bits ≤ stream.sink.symbols * stream.sink.symbol_bits =
    subst (λ (port : StreamPort). link.sink.symbols * link.sink.symbol_bits ≤ port.symbols * port.symbol_bits) (sym of.sink) (omega arith) in
    record {
      ready = subst (IsOutputIf sim.netlist 1) (sym of.ready_port)
          (output_at sim.netlist system link.source_end (Source link.source) 0 _ 1 known same (source_among system number link is) source_known refl refl (one_bit link.source.ready));
      valid = P (λ p. p.valid) 1 (at 1 _ 1 refl refl (omega arith));
      word = P (λ p. p.word) _ (at 2 _ _ refl refl wide);
      channel = P (λ p. p.channel) 16 (at 3 _ 16 refl refl bounded.channel);
      error = P (λ p. p.error) 32 (at 4 _ 32 refl refl bounded.error);
      first = P (λ p. p.first) 1 (at 5 _ 1 refl refl (one_bit link.sink.packets));
      last = P (λ p. p.last) 1 (at 6 _ 1 refl refl (one_bit link.sink.packets));
      empty = P (λ p. p.empty) 8 (at 7 _ 8 refl refl bounded.empty);
      dropped = P (λ p. p.dropped) 1 (at 8 _ 1 refl refl (omega arith));
      room = early;
    }

-- ---- what is set in a row

all_fit : (row : List Word) (one other : List Level) → AllFit row one → AllFit row other → AllFit row (one ++ other)
all_fit row [] other h k = k
all_fit row (level ∷ one) other h k = (h.0, all_fit row one other h.1 k)

-- a beat of a source has room in a row, and so has a level of a sink's ready
abbrev pub SourcesHaveRoom : Type 0
SourcesHaveRoom = (system : SystemTable) (row : List Word) → HasKnownPorts system → widths_of row ≡ input_widths (ports_of system)
    → (end : EndId) (port : StreamPort) (beat : Option Beat) → Among end (ends_of system) → known_at system end ≡ Source port → FitsSource port (unwrap_or beat no_beat)
    → AllFit row (source_levels (source_places system end) beat)

abbrev pub SinksHaveRoom : Type 0
SinksHaveRoom = (system : SystemTable) (row : List Word) → HasKnownPorts system → widths_of row ≡ input_widths (ports_of system)
    → (end : EndId) (port : StreamPort) (ready : Bool) → Among end (ends_of system) → known_at system end ≡ Sink port → FitsReady port ready
    → AllFit row (level_if (place_at system end role.Ready) (one_if ready))

pub room : (system : SystemTable) (row : List Word) (number : ℕ) (script : List Pattern) (stream : BenchStreamValue) → SourcesHaveRoom → SinksHaveRoom → (of : IsStreamOf system number script stream)
    → IsStreamConnection system number of.link → HasKnownPorts system → widths_of row ≡ input_widths (ports_of system) → FitsSource stream.source (unwrap_or (shown_by stream) no_beat)
    → FitsReady stream.sink (is_ready stream) → AllFit row (sets stream)
room system row number script stream sources sinks of is known same beat_fits ready_fits =
    let link = of.link in
    let beat : AllFit row (source_levels stream.places (shown_by stream)) =
    subst (λ (places : SourcePlaces). AllFit row (source_levels places (shown_by stream))) (sym of.places)
    (sources system row known same link.source_end link.source (shown_by stream) (source_among system number link is) (known_is system link.source_end (Source link.source) is.source)
    (subst (λ (port : StreamPort). FitsSource port (unwrap_or (shown_by stream) no_beat)) of.source beat_fits)) in
    let ready : AllFit row (level_if stream.ready_place (one_if (is_ready stream))) =
    subst (λ (place : Option ℕ). AllFit row (level_if place (one_if (is_ready stream)))) (sym of.ready_place)
    (sinks system row known same link.sink_end link.sink (is_ready stream) (sink_among system number link is) (known_is system link.sink_end (Sink link.sink) is.sink)
    (subst (λ (port : StreamPort). FitsReady port (is_ready stream)) of.sink ready_fits)) in
    all_fit row (source_levels stream.places (shown_by stream)) (level_if stream.ready_place (one_if (is_ready stream))) beat ready

-- ---- what a run shows

pub level_same : (netlist : Netlist) (run : Run) (c : ℕ) (sim : SimValue) (absent : ℕ) (port : Option ℕ) → sim.netlist ≡ netlist → IsPresent run c sim → level_of netlist run c absent port ≡ level_now sim absent port
level_same netlist run c sim absent None same is = refl
level_same netlist run c sim absent (Some port) same is = is (port_net netlist port) ∙ ap (λ (n : Netlist). (present sim).net (port_net n port)) (sym same)

same_beat : (one other : Beat) → one.word ≡ other.word → one.channel ≡ other.channel → one.error ≡ other.error → one.first ≡ other.first → one.last ≡ other.last → one.empty ≡ other.empty → one ≡ other
same_beat one other word channel error first last empty =
    λ i. record { word = word i; channel = channel i; error = error i; first = first i; last = last i; empty = empty i }

-- what the laws on the ends of streams say
pub record EndsAreShown (system : SystemTable) (netlist : Netlist) (run : Run) (c : ℕ) (row : List Word) : Type 0 where
  pub source : (end : EndId) (port : StreamPort) (beat : Option Beat) → Among end (ends_of system) → known_at system end ≡ Source port → FitsSource port (unwrap_or beat no_beat)
      → AllStand row (source_levels (source_places system end) beat) → Shows (stream_view system netlist run end) c beat
  pub answered : (end : EndId) → (stream_view system netlist run end).ready c ≡ level_of netlist run c 1 (port_at system end role.Ready)
  pub ready : (end : EndId) (port : StreamPort) (ready : Bool) → Among end (ends_of system) → known_at system end ≡ Sink port → FitsReady port ready
      → AllStand row (level_if (place_at system end role.Ready) (one_if ready)) → (stream_view system netlist run end).ready c ≡ one_if ready
  pub valid : (end : EndId) → (stream_view system netlist run end).valid c ≡ level_of netlist run c 0 (sink_outputs system end).valid
  pub beat : (end : EndId) → beat_at (stream_view system netlist run end) c ≡ beat_of netlist run c (sink_outputs system end)
  pub dropped : (end : EndId) → dropped_signal netlist run (name_at system end) c ≡ level_of netlist run c 0 (sink_outputs system end).dropped

beat_same : (netlist : Netlist) (run : Run) (c : ℕ) (sim : SimValue) (ports : SinkPorts) (stream : BenchStreamValue) → sim.netlist ≡ netlist → IsPresent run c sim → stream.ports ≡ ports
    → beat_of netlist run c ports ≡ beat_now stream sim
beat_same netlist run c sim ports stream same is are =
    let level = λ (choose : SinkPorts → Option ℕ). level_same netlist run c sim 0 (choose ports) same is ∙ ap (λ (p : SinkPorts). level_now sim 0 (choose p)) (sym are) in
    same_beat _ _ (level (λ p. p.word)) (level (λ p. p.channel)) (level (λ p. p.error)) (level (λ p. p.first)) (level (λ p. p.last)) (level (λ p. p.empty))

pub seen : (system : SystemTable) (netlist : Netlist) (run : Run) (row : List Word) (sim : SimValue) (number : ℕ) (script : List Pattern) (stream : BenchStreamValue)
    (of : IsStreamOf system number script stream) → EndsAreShown system netlist run stream.cycle row → IsStreamConnection system number of.link → sim.netlist ≡ netlist
    → IsPresent run stream.cycle sim → FitsSource stream.source (unwrap_or (shown_by stream) no_beat) → FitsReady stream.sink (is_ready stream)
    → AllStand row (source_levels stream.places (shown_by stream)) → AllStand row (level_if stream.ready_place (one_if (is_ready stream)))
    → IsSeen (stream_view system netlist run of.link.source_end) (stream_view system netlist run of.link.sink_end) (dropped_signal netlist run (name_at system of.link.sink_end)) sim stream
seen system netlist run row sim number script stream of shown is same present beat_fits ready_fits beat_stands ready_stands =
    let link = of.link in
    let c = stream.cycle in
    record {
      shows = shown.source link.source_end link.source (shown_by stream) (source_among system number link is) (known_is system link.source_end (Source link.source) is.source)
          (subst (λ (port : StreamPort). FitsSource port (unwrap_or (shown_by stream) no_beat)) of.source beat_fits)
          (subst (λ (places : SourcePlaces). AllStand row (source_levels places (shown_by stream))) of.places beat_stands);
      answered = shown.answered link.source_end ∙ level_same netlist run c sim 1 (port_at system link.source_end role.Ready) same present ∙ ap (level_now sim 1) (sym of.ready_port);
      valid = shown.valid link.sink_end ∙ level_same netlist run c sim 0 (sink_outputs system link.sink_end).valid same present ∙ ap (λ (p : SinkPorts). level_now sim 0 p.valid) (sym of.ports);
      beat = shown.beat link.sink_end ∙ beat_same netlist run c sim (sink_outputs system link.sink_end) stream same present of.ports;
      ready = shown.ready link.sink_end link.sink (is_ready stream) (sink_among system number link is) (known_is system link.sink_end (Sink link.sink) is.sink)
          (subst (λ (port : StreamPort). FitsReady port (is_ready stream)) of.sink ready_fits)
          (subst (λ (place : Option ℕ). AllStand row (level_if place (one_if (is_ready stream)))) of.ready_place ready_stands);
      dropped_is = shown.dropped link.sink_end ∙ level_same netlist run c sim 0 (sink_outputs system link.sink_end).dropped same present ∙ ap (λ (p : SinkPorts). level_now sim 0 p.dropped) (sym of.ports);
    }
