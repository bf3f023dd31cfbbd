-- The streams of a test bench: a source and a sink each.
use Rattle.std.specs.Prelude.{◌≡◌, ◌+◌, ◌*◌, ◌<◌, ◌==◌, ◌&&◌, ◌||◌, nat_lt, ℕ, Bool, List, ◌++◌, length, slice_get, Option, Some, is_some, unwrap_or, if◌then◌else◌}
use Rattle.av_base.specs.Word.{word}
use Rattle.histories.specs.History.{one_if, only_if}
use Rattle.iface_roles.specs.declared.records.StreamPort.{StreamPort}
use Rattle.system_tables.specs.Tables.{SystemTable}
use Rattle.link_rules.specs.declared.plan_connections.StreamConnection.{StreamConnection}
use Rattle.link_rules.specs.PlanConnections.{stream_connections}
use Rattle.map_text.specs.Text.{end_name}
use Rattle.cycle_sim.specs.Sims.{SimValue}
use Rattle.stream_runs.specs.View.{EndView, Beat, beat_at}
use Rattle.stream_runs.specs.Symbols.{symbol_count}
use Rattle.stream_runs.specs.Ends.{side_of}
use Rattle.st_timing.specs.Ends.{declared}
use Rattle.port_tables.specs.declared.roles.PortRole.TheVariants.{Ready}
use Rattle.port_tables.specs.PortMaps.{port_at}
use Rattle.port_rows.specs.Levels.{Level, level_if}
use Rattle.scenario_tables.specs.declared.statements.SourceStatement.{SourceStatement}
use Rattle.scenario_tables.specs.declared.statements.Pattern.{Pattern}
use Rattle.stand_ins.specs.Sources.{Keeping, Shows, beat_kept, keeping_at, keeping_behind, no_beat, port_pace}
use Rattle.stand_ins.specs.Sinks.{ready_in}
use Rattle.port_rows.specs.Inputs.{place_at}
use Rattle.port_rows.specs.declared.stream_ends.places.SourcePlaces.{SourcePlaces}
use Rattle.port_rows.specs.declared.stream_ends.places.SinkPorts.{SinkPorts}
use Rattle.port_rows.specs.Sources.{source_places, source_levels}
use Rattle.port_rows.specs.Sinks.{sink_outputs}
use Rattle.trace_lines.specs.declared.counts.Counts.{Counts}
use Rattle.trace_lines.specs.declared.events.ShownBeat.{ShownBeat}
use Rattle.trace_lines.specs.Lines.{sent_line, got_line, dropped_line}
use Rattle.trace_lines.specs.Told.{StreamEnds}
use Rattle.benches.specs.Outputs.{level_now, IsOutputIf}

-- a stream of a bench as contracts see it: the names that a trace tells, the records of its ends, where the signals of its source
-- and the `ready` of its sink stand, which outputs answer the source and which are given to the sink, what stands in for the
-- source, the sink's pattern, and the cycle
pub record BenchStreamValue : Type 0 where
  pub source_name : List ℕ
  pub sink_name : List ℕ
  pub source : StreamPort
  pub sink : StreamPort
  pub places : SourcePlaces
  pub ready_place : Option ℕ
  pub ready_port : Option ℕ
  pub ports : SinkPorts
  pub keeping : Keeping
  pub script : List Pattern
  pub cycle : ℕ

-- ---- what it is

-- it is the stream of this number in a system, with this pattern of its sink
pub record IsStreamOf (system : SystemTable) (number : ℕ) (script : List Pattern) (stream : BenchStreamValue) : Type 0 where
  pub link : StreamConnection
  pub link_is : slice_get (stream_connections system) number ≡ Some link
  pub source : stream.source ≡ link.source
  pub sink : stream.sink ≡ link.sink
  pub source_name : stream.source_name ≡ end_name system link.source_end
  pub sink_name : stream.sink_name ≡ end_name system link.sink_end
  pub places : stream.places ≡ source_places system link.source_end
  pub ready_place : stream.ready_place ≡ place_at system link.sink_end Ready
  pub ready_port : stream.ready_port ≡ port_at system link.source_end Ready
  pub ports : stream.ports ≡ sink_outputs system link.sink_end
  pub script_is : stream.script ≡ script

-- it is, and stands before the first cycle and the first statement of its source
pub record IsFirstStream (system : SystemTable) (number : ℕ) (statements : List SourceStatement) (script : List Pattern)
    (stream : BenchStreamValue) : Type 0 where
  pub of : IsStreamOf system number script stream
  pub cycle : stream.cycle ≡ 0
  pub keeping : (view : EndView) → stream.keeping ≡ keeping_at stream.source statements view 0

-- these are the streams of a system, each before its first cycle
pub record AreFirstStreams (system : SystemTable) (sources : List (List SourceStatement)) (sinks : List (List Pattern))
    (streams : List BenchStreamValue) : Type 0 where
  pub count : length streams ≡ length (stream_connections system)
  pub each : (s : ℕ) (stream : BenchStreamValue) (statements : List SourceStatement) (script : List Pattern)
      → slice_get streams s ≡ Some stream
      → slice_get sources s ≡ Some statements → slice_get sinks s ≡ Some script → IsFirstStream system s statements script stream

-- ---- one cycle

-- the beat that its source shows, if any
abbrev pub shown_by : BenchStreamValue → Option Beat
shown_by stream = beat_kept stream.keeping

-- its sink is ready
abbrev pub is_ready : BenchStreamValue → Bool
is_ready stream = ready_in stream.script stream.cycle

-- what both set in a row
abbrev pub sets : BenchStreamValue → List Level
sets stream = source_levels stream.places (shown_by stream) ++ level_if stream.ready_place (one_if (is_ready stream))

-- the outputs are there, as wide as the ports, and a further cycle has a number
pub record Fits (stream : BenchStreamValue) (sim : SimValue) : Type 0 where
  pub ready : IsOutputIf sim.netlist 1 stream.ready_port
  pub valid : IsOutputIf sim.netlist 1 stream.ports.valid
  pub word : IsOutputIf sim.netlist (stream.sink.symbols * stream.sink.symbol_bits) stream.ports.word
  pub channel : IsOutputIf sim.netlist 16 stream.ports.channel
  pub error : IsOutputIf sim.netlist 32 stream.ports.error
  pub first : IsOutputIf sim.netlist 1 stream.ports.first
  pub last : IsOutputIf sim.netlist 1 stream.ports.last
  pub empty : IsOutputIf sim.netlist 8 stream.ports.empty
  pub dropped : IsOutputIf sim.netlist 1 stream.ports.dropped
  pub room : stream.cycle < 65536

-- the module is ready for the source's beat
abbrev pub is_answered : BenchStreamValue → SimValue → Bool
is_answered stream sim = level_now sim 1 stream.ready_port == 1

-- the beat on the sink's ports
abbrev pub beat_now : BenchStreamValue → SimValue → Beat
beat_now stream sim = record {
  word = level_now sim 0 stream.ports.word;
  channel = level_now sim 0 stream.ports.channel;
  error = level_now sim 0 stream.ports.error;
  first = level_now sim 0 stream.ports.first;
  last = level_now sim 0 stream.ports.last;
  empty = level_now sim 0 stream.ports.empty;
}

-- a beat of the source transfers
abbrev pub is_sent : BenchStreamValue → SimValue → Bool
is_sent stream sim = is_some (shown_by stream) && (nat_lt 0 (port_pace stream.source).latency || is_answered stream sim)

-- a beat at the sink transfers
abbrev pub is_got : BenchStreamValue → SimValue → Bool
is_got stream sim = (level_now sim 0 stream.ports.valid == 1) && (nat_lt 0 (port_pace stream.sink).latency || is_ready stream)

-- a beat is dropped
abbrev pub is_dropped : BenchStreamValue → SimValue → Bool
is_dropped stream sim = level_now sim 0 stream.ports.dropped == 1

-- a beat as a trace tells it, at an end with this record
abbrev pub told_beat : StreamPort → Beat → ShownBeat
told_beat port beat = record {
  word = word (port.symbols * port.symbol_bits) beat.word;
  channel = beat.channel;
  error = beat.error;
  first = beat.first == 1;
  last = beat.last == 1;
  empty = beat.empty;
}

-- the lines that tell of it: what is sent, what is got, and that a beat is dropped
abbrev pub tells : BenchStreamValue → SimValue → ℕ → List (List ℕ)
tells stream sim c =
    only_if (is_sent stream sim) (sent_line c stream.source_name (told_beat stream.source (unwrap_or (shown_by stream) no_beat)))
    ++ only_if (is_got stream sim) (got_line c stream.sink_name (told_beat stream.sink (beat_now stream sim)))
    ++ only_if (is_dropped stream sim) (dropped_line c stream.sink_name)

-- what it adds to the counts
abbrev pub counts : BenchStreamValue → SimValue → Counts
counts stream sim = record {
  taken = 0;
  answered = 0;
  delivered = if is_got stream sim then symbol_count (side_of (declared stream.sink)) (beat_now stream sim) else 0;
  dropped = one_if (is_dropped stream sim);
}

-- how it stands behind the cycle
abbrev pub behind : BenchStreamValue → SimValue → BenchStreamValue
behind stream sim = record stream { keeping = keeping_behind stream.keeping (is_answered stream sim); cycle = stream.cycle + 1 }

-- views of both ends show in the present cycle what the bench shows and what the outputs say
pub record IsSeen (source sink : EndView) (dropped : ℕ → ℕ) (sim : SimValue) (stream : BenchStreamValue) : Type 0 where
  pub shows : Shows source stream.cycle (shown_by stream)
  pub answered : source.ready stream.cycle ≡ level_now sim 1 stream.ready_port
  pub valid : sink.valid stream.cycle ≡ level_now sim 0 stream.ports.valid
  pub beat : beat_at sink stream.cycle ≡ beat_now stream sim
  pub ready : sink.ready stream.cycle ≡ one_if (is_ready stream)
  pub dropped_is : dropped stream.cycle ≡ level_now sim 0 stream.ports.dropped

-- both ends in a run that shows these views, by their names
abbrev pub ends_of_bench : BenchStreamValue → EndView → EndView → (ℕ → ℕ) → StreamEnds
ends_of_bench stream source sink dropped = record {
  source = record { name = stream.source_name; side = side_of (declared stream.source); view = source };
  sink = record { name = stream.sink_name; side = side_of (declared stream.sink); view = sink };
  dropped = dropped;
}
