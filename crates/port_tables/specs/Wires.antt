-- Which streams of a plan are wires.
use Rattle.std.specs.Prelude.{ℕ, Bool, true, false, not, ◌&&◌, ◌==◌, nat_le, take, count_by, slice_get}
use Rattle.std.specs.Option.{option_map_or}
use Rattle.iface_roles.specs.declared.records.Finished.{Finished}
use Rattle.iface_roles.specs.declared.records.Finished.TheVariants.{Source, Sink}
use Rattle.system_tables.specs.declared.tables.Connection.{Connection}
use Rattle.system_tables.specs.Tables.{SystemTable}
use Rattle.address_map.specs.Footprints.{known_at}
use Rattle.link_rules.specs.Links.{streams_of}
use Rattle.link_rules.specs.declared.plan_connections.StreamConnection.{StreamConnection}
use Rattle.stream_runs.specs.Ends.{Declared}
use Rattle.st_timing.specs.Ends.{declared}

abbrev pub both_or_neither : Bool → Bool → Bool
both_or_neither true b = b
both_or_neither false b = not b

-- beats of the same form
abbrev pub has_same_beats : Declared → Declared → Bool
has_same_beats source sink =
    (source.symbols == sink.symbols) && (source.symbol_bits == sink.symbol_bits)
    && both_or_neither source.first_high sink.first_high
    && (source.channel_bits == sink.channel_bits) && (source.error_bits == sink.error_bits)
    && both_or_neither source.packets sink.packets && (source.empty_bits == sink.empty_bits)

-- `ready` at both ends, with ready latency 0
abbrev pub has_plain_ready : Declared → Declared → Bool
has_plain_ready source sink = source.ready && sink.ready && (source.latency == 0) && (sink.latency == 0)

-- a stream that is a wire: nothing has to be cut, changed, delayed or kept between its ends
abbrev pub is_wire_stream : Declared → Declared → ℕ → Bool
is_wire_stream source sink fifo =
    has_same_beats source sink && nat_le source.max_channel sink.max_channel && has_plain_ready source sink && (fifo == 0)

abbrev pub is_wire_as : ℕ → Finished → Finished → Bool
is_wire_as fifo (Source source) (Sink sink) = is_wire_stream (declared source) (declared sink) fifo
is_wire_as fifo _ _ = false

-- the connection is a stream that is a wire
abbrev pub is_wire : SystemTable → Connection → Bool
is_wire system connection = is_wire_as connection.fifo (known_at system connection.start) (known_at system connection.end)

-- the link is a wire
abbrev pub is_wire_link : StreamConnection → Bool
is_wire_link link = is_wire_stream (declared link.source) (declared link.sink) link.fifo

-- the connection of this number is a stream that is a wire
abbrev pub is_wire_at : SystemTable → ℕ → Bool
is_wire_at system number = option_map_or (is_wire system) (slice_get system.connections number) false

-- how many of the streams before this one are wires
abbrev pub wires_before : SystemTable → ℕ → ℕ
wires_before system number = count_by (is_wire_at system) (take number (streams_of system))
