-- Runs that were worked out by hand, cycle by cycle, and runs with a fault.
use Rattle.std.specs.Prelude.{ℕ, zero, suc, List, [], ◌∷◌, slice_index, is_some, Option, Some, None, Bool, true, false, unwrap_or, if◌then◌else◌}
use Rattle.stream_runs.specs.View.{EndView, Beat, Pace, Side}
use Rattle.stream_runs.specs.Ends.{Signals, stream_of, byte_packets, packet_signals}
use Rattle.stream_runs.specs.Delivery.{DeliversPrefix, Stream, StreamRun, reaches}

-- what a stream's sink is given, alone
abbrev pub IsDelivered : Stream → StreamRun → ℕ → Type 0
IsDelivered stream run count = DeliversPrefix (reaches stream.sink) stream.source stream.sink run.source run.sink count

-- ---- views from what is shown in each cycle

-- a signal that shows these numbers in the first cycles, and 0 after them
abbrev pub signal_of : List ℕ → ℕ → ℕ
signal_of values c = slice_index values c

abbrev pub always : ℕ → ℕ
always c = 1

abbrev pub never : ℕ → ℕ
never c = 0

-- the beat that is shown in a cycle, if one is
abbrev pub beat_in : List (Option Beat) → ℕ → Option Beat
beat_in [] c = None
beat_in (beat ∷ beats) zero = beat
beat_in (beat ∷ beats) (suc c) = beat_in beats c

-- a beat with this data alone
abbrev pub word : ℕ → Beat
word value = record { word = value; channel = 0; error = 0; first = 0; last = 0; empty = 0 }

abbrev pub on_channel : ℕ → Beat → Beat
on_channel channel beat = record beat { channel = channel }

abbrev pub with_error : ℕ → Beat → Beat
with_error error beat = record beat { error = error }

-- it begins a packet
abbrev pub opens : Beat → Beat
opens beat = record beat { first = 1 }

-- it ends a packet, with so many empty symbols
abbrev pub closes : ℕ → Beat → Beat
closes empty beat = record beat { last = 1; empty = empty }

-- an end that shows these beats in the first cycles, and none after them
abbrev pub showing : (ℕ → ℕ) → List (Option Beat) → EndView
showing ready beats =
    record {
      valid = λ c. if is_some (beat_in beats c) then 1 else 0;
      word = λ c. (unwrap_or (beat_in beats c) (word 0)).word;
      channel = λ c. (unwrap_or (beat_in beats c) (word 0)).channel;
      error = λ c. (unwrap_or (beat_in beats c) (word 0)).error;
      first = λ c. (unwrap_or (beat_in beats c) (word 0)).first;
      last = λ c. (unwrap_or (beat_in beats c) (word 0)).last;
      empty = λ c. (unwrap_or (beat_in beats c) (word 0)).empty;
      ready = ready;
    }

-- ---- sides

-- ready so many cycles before a beat
abbrev pub later : ℕ → Pace
later cycles = record { latency = cycles; allowance = cycles }

-- packets of bytes, the first symbol in the high-order bits, on channel 0, with an error of one bit
abbrev pub packet_side : ℕ → Side
packet_side symbols =
    record
    { pace = later 0; symbols = symbols; symbol_bits = 8; first_high = true; packets = true; max_channel = 0; error_bits = 1 }

-- a byte a beat, without packets and errors
abbrev pub byte_side : Pace → ℕ → Side
byte_side pace max_channel =
    record {
      pace =
          pace;
      symbols = 1;
      symbol_bits = 8;
      first_high = true;
      packets = false;
      max_channel = max_channel;
      error_bits = 0;
    }

-- two bytes a beat, the first in the high-order or in the low-order bits
abbrev pub pair_side : Bool → Side
pair_side first_high =
    record {
      pace =
          later 0;
      symbols = 2;
      symbol_bits = 8;
      first_high = first_high;
      packets = false;
      max_channel = 0;
      error_bits = 0;
    }

-- ---- three symbols a beat to four: 01 02 03, then 04 05 06 with an error, then 07 and two empty symbols

abbrev pub three_source : EndView
three_source =
    showing always (Some (opens (word 0x010203)) ∷ Some (with_error 1 (word 0x040506)) ∷ Some (closes 2 (word 0x070000)) ∷ [])

-- the sink's two beats, with these errors, and this empty count at the end
abbrev pub four_sink : ℕ → ℕ → ℕ → EndView
four_sink error_one error_two empty =
    showing always
    (None ∷ None ∷ Some (with_error error_one (opens (word 0x01020304))) ∷ None
    ∷ Some (with_error error_two (closes empty (word 0x05060700))) ∷ [])

abbrev pub three_to_four : Stream
three_to_four = record { source = packet_side 3; sink = packet_side 4; fifo_depth = 0 }

abbrev pub three_to_four_run : EndView → StreamRun
three_to_four_run sink = record { source = three_source; sink = sink; dropped = never }

-- the fourth symbol and the fifth change places
abbrev pub swapped_sink : EndView
swapped_sink =
    showing always
    (None ∷ None ∷ Some (with_error 1 (opens (word 0x01020305))) ∷ None ∷ Some (with_error 1 (closes 1 (word 0x04060700))) ∷ [])

-- the packet begins with the second beat
abbrev pub late_mark_sink : EndView
late_mark_sink =
    showing always
    (None ∷ None ∷ Some (with_error 1 (word 0x01020304)) ∷ None ∷ Some (with_error 1 (opens (closes 1 (word 0x05060700)))) ∷ [])

-- the second beat comes alone
abbrev pub lost_beat_sink : EndView
lost_beat_sink = showing always (None ∷ None ∷ None ∷ None ∷ Some (with_error 1 (closes 1 (word 0x05060700))) ∷ [])

-- a beat comes before its symbols
abbrev pub hasty_sink : EndView
hasty_sink = showing always (Some (opens (word 0x01020304)) ∷ [])

-- ---- four symbols a beat to one: 01 02 03 and one that is empty, which is a whole packet

abbrev pub short_source : EndView
short_source = showing always (Some (opens (closes 1 (word 0x01020300))) ∷ [])

abbrev pub four_to_one : Stream
four_to_one = record { source = packet_side 4; sink = packet_side 1; fifo_depth = 0 }

abbrev pub four_to_one_run : EndView → StreamRun
four_to_one_run sink = record { source = short_source; sink = sink; dropped = never }

abbrev pub single_sink : EndView
single_sink = showing always (None ∷ Some (opens (word 1)) ∷ Some (word 2) ∷ Some (closes 0 (word 3)) ∷ [])

-- a fourth beat for the empty symbol, which then ends the packet
abbrev pub padded_sink : EndView
padded_sink = showing always (None ∷ Some (opens (word 1)) ∷ Some (word 2) ∷ Some (word 3) ∷ Some (closes 0 (word 0)) ∷ [])

-- a fourth beat that holds no symbol
abbrev pub hollow_sink : EndView
hollow_sink =
    showing always (None ∷ Some (opens (word 1)) ∷ Some (word 2) ∷ Some (closes 0 (word 3)) ∷ Some (closes 1 (word 0)) ∷ [])

-- ---- the order of symbols

abbrev pub one_word : ℕ → EndView
one_word value = showing always (Some (word value) ∷ [])

abbrev pub high_to_low : Stream
high_to_low = record { source = pair_side true; sink = pair_side false; fifo_depth = 0 }

-- 0102 at the source, and this word at the sink
abbrev pub high_to_low_run : ℕ → StreamRun
high_to_low_run value = record { source = one_word 0x0102; sink = one_word value; dropped = never }

-- ---- channels: a1, a2 and a3 on channels 3, 4 and 3, to a sink of channels 0 to 3

abbrev pub channel_source : EndView
channel_source =
    showing always (Some (on_channel 3 (word 0xa1)) ∷ Some (on_channel 4 (word 0xa2)) ∷ Some (on_channel 3 (word 0xa3)) ∷ [])

abbrev pub fewer_channels : Stream
fewer_channels = record { source = byte_side (later 0) 7; sink = byte_side (later 0) 3; fifo_depth = 0 }

abbrev pub channel_run : EndView → (ℕ → ℕ) → StreamRun
channel_run sink dropped = record { source = channel_source; sink = sink; dropped = dropped }

abbrev pub filtered_sink : EndView
filtered_sink = showing always (Some (on_channel 3 (word 0xa1)) ∷ None ∷ Some (on_channel 3 (word 0xa3)) ∷ [])

-- all three beats, with the channel cut to two bits
abbrev pub cut_sink : EndView
cut_sink =
    showing always (Some (on_channel 3 (word 0xa1)) ∷ Some (on_channel 0 (word 0xa2)) ∷ Some (on_channel 3 (word 0xa3)) ∷ [])

-- a1 and a2 alone
abbrev pub cut_sink_so_far : EndView
cut_sink_so_far = showing always (Some (on_channel 3 (word 0xa1)) ∷ Some (on_channel 0 (word 0xa2)) ∷ [])

-- ---- ready latency 2 to 0: the sink's ready is low in cycles 2 to 7

-- the ready of the sink
abbrev pub stalled : ℕ → ℕ
stalled = signal_of (1 ∷ 1 ∷ 0 ∷ 0 ∷ 0 ∷ 0 ∷ 0 ∷ 0 ∷ 1 ∷ 1 ∷ 1 ∷ 1 ∷ 1 ∷ 1 ∷ 1 ∷ 1 ∷ [])

-- 11, 22, 33 and 44, each two cycles after ready
abbrev pub late_source : EndView
late_source =
    showing (signal_of (1 ∷ 1 ∷ 1 ∷ 0 ∷ 0 ∷ 0 ∷ 0 ∷ 0 ∷ 0 ∷ 1 ∷ 1 ∷ 1 ∷ 1 ∷ []))
    (None ∷ None ∷ Some (word 0x11) ∷ Some (word 0x22) ∷ Some (word 0x33) ∷ None ∷ None ∷ None ∷ None ∷ None ∷ None
    ∷ Some (word 0x44) ∷ [])

abbrev pub late_to_direct : Stream
late_to_direct = record { source = byte_side (later 2) 0; sink = byte_side (later 0) 0; fifo_depth = 0 }

abbrev pub late_run : EndView → StreamRun
late_run sink = record { source = late_source; sink = sink; dropped = never }

-- 11 waits for ready, and the others follow
abbrev pub stalled_sink : EndView
stalled_sink =
    showing stalled
    (None ∷ None ∷ Some (word 0x11) ∷ Some (word 0x11) ∷ Some (word 0x11) ∷ Some (word 0x11) ∷ Some (word 0x11) ∷ Some (word 0x11)
    ∷ Some (word 0x11)
    ∷ Some (word 0x22) ∷ Some (word 0x33) ∷ Some (word 0x44) ∷ [])

-- a buffer with a place too few loses 33
abbrev pub losing_sink : EndView
losing_sink =
    showing stalled
    (None ∷ None ∷ Some (word 0x11) ∷ Some (word 0x11) ∷ Some (word 0x11) ∷ Some (word 0x11) ∷ Some (word 0x11) ∷ Some (word 0x11)
    ∷ Some (word 0x11)
    ∷ Some (word 0x22) ∷ None ∷ Some (word 0x44) ∷ [])

-- 22 comes twice
abbrev pub doubling_sink : EndView
doubling_sink =
    showing stalled
    (None ∷ None ∷ Some (word 0x11) ∷ Some (word 0x11) ∷ Some (word 0x11) ∷ Some (word 0x11) ∷ Some (word 0x11) ∷ Some (word 0x11)
    ∷ Some (word 0x11)
    ∷ Some (word 0x22) ∷ Some (word 0x22) ∷ Some (word 0x33) ∷ Some (word 0x44) ∷ [])

-- the beat that waits changes from 11 to 22
abbrev pub changing_sink : EndView
changing_sink = showing stalled (None ∷ None ∷ Some (word 0x11) ∷ Some (word 0x22) ∷ [])

-- the beat that waits is taken back
abbrev pub withdrawing_sink : EndView
withdrawing_sink = showing stalled (None ∷ None ∷ Some (word 0x11) ∷ None ∷ [])

-- ---- allowances: after ready in cycle 1 alone, at latency 1

abbrev pub bold_side : ℕ → Side
bold_side allowance = byte_side (record { latency = 1; allowance = allowance }) 0

-- a beat in each of so many cycles from this one on
abbrev pub beats_from : ℕ → ℕ → List (Option Beat)
beats_from zero zero = []
beats_from zero (suc count) = Some (word 0x11) ∷ beats_from zero count
beats_from (suc start) count = None ∷ beats_from start count

abbrev pub bold_source : ℕ → ℕ → EndView
bold_source start count = showing (signal_of (0 ∷ 1 ∷ [])) (beats_from start count)

-- from there to latency 0: the source's ready is low from cycle 3 to cycle 7, and the sink's from cycle 1 to cycle 3

-- 33, 44 and 55 come after the last ready
abbrev pub going_on : EndView
going_on =
    showing (signal_of (1 ∷ 1 ∷ 1 ∷ 0 ∷ 0 ∷ 0 ∷ 0 ∷ 0 ∷ 1 ∷ 1 ∷ []))
    (None ∷ Some (word 0x11) ∷ Some (word 0x22) ∷ Some (word 0x33) ∷ Some (word 0x44) ∷ Some (word 0x55) ∷ None ∷ None ∷ None
    ∷ Some (word 0x66) ∷ [])

abbrev pub bold_to_direct : Stream
bold_to_direct = record { source = bold_side 3; sink = byte_side (later 0) 0; fifo_depth = 0 }

abbrev pub bold_run : EndView → StreamRun
bold_run sink = record { source = going_on; sink = sink; dropped = never }

-- what the sink shows, and the beats from cycle 5 on behind 11, which waits
abbrev pub waiting_sink : List (Option Beat) → EndView
waiting_sink beats =
    showing (signal_of (1 ∷ 0 ∷ 0 ∷ 0 ∷ 1 ∷ 1 ∷ 1 ∷ 1 ∷ 1 ∷ 1 ∷ []))
    (None ∷ Some (word 0x11) ∷ Some (word 0x11) ∷ Some (word 0x11) ∷ Some (word 0x11) ∷ beats)

abbrev pub filled_sink : EndView
filled_sink = waiting_sink (Some (word 0x22) ∷ Some (word 0x33) ∷ Some (word 0x44) ∷ Some (word 0x55) ∷ Some (word 0x66) ∷ [])

-- a buffer that counts the beats of the latency alone loses 55
abbrev pub overfull_sink : EndView
overfull_sink = waiting_sink (Some (word 0x22) ∷ Some (word 0x33) ∷ Some (word 0x44) ∷ None ∷ Some (word 0x66) ∷ [])

-- ---- what a source may do

-- a byte a beat in packets, channels 0 and 1, no error
abbrev pub channel_packets : Side
channel_packets =
    record { pace = later 0; symbols = 1; symbol_bits = 8; first_high = true; packets = true; max_channel = 1; error_bits = 0 }

-- ready is this level in the first cycle, and high in the second
abbrev pub two_beats : ℕ → Beat → Beat → EndView
two_beats ready one two = showing (signal_of (ready ∷ 1 ∷ [])) (Some one ∷ Some two ∷ [])

-- ---- standing still

-- two packets of three bytes and of two, so far
abbrev pub two_packets : EndView
two_packets =
    showing always (Some (opens (word 1)) ∷ Some (word 2) ∷ Some (closes 0 (word 3)) ∷ Some (opens (word 4)) ∷ Some (word 5) ∷ [])

abbrev pub plain_stream : ℕ → Stream
plain_stream fifo_depth = record { source = byte_side (later 0) 0; sink = byte_side (later 0) 0; fifo_depth = fifo_depth }

-- a source whose beat is never taken, and a sink that is always ready and is given nothing
abbrev pub shut_out : StreamRun
shut_out = record { source = showing never (Some (word 0) ∷ []); sink = showing always []; dropped = never }

-- a source that is accepted, and a sink that is always ready and is given nothing
abbrev pub swallowed : StreamRun
swallowed = record { source = showing always (Some (word 0x11) ∷ []); sink = showing always []; dropped = never }

-- a source that never sees ready, before a sink that is never ready
abbrev pub both_shut : StreamRun
both_shut = record { source = showing never []; sink = showing never []; dropped = never }

-- a module that shows its beat only where ready is high, before a sink that shows ready only where a beat is shown
abbrev pub both_wait : StreamRun
both_wait = record { source = showing always (Some (word 0x11) ∷ []); sink = showing never []; dropped = never }

-- a source that shows a beat in each cycle, none of which is taken or shown to the sink
abbrev pub kept_out : StreamRun
kept_out = record { source = record (showing never []) { valid = always }; sink = showing never []; dropped = never }

-- ---- a wire of byte packets: 11, 22 and 33, the sink's ready low in cycle 1

abbrev pub byte_wire : Stream
byte_wire = stream_of byte_packets byte_packets 0

abbrev pub packet : Signals
packet =
    packet_signals (signal_of (1 ∷ 0 ∷ 1 ∷ 1 ∷ 1 ∷ [])) (signal_of (1 ∷ 1 ∷ 1 ∷ 1 ∷ []))
    (signal_of (0x11 ∷ 0x22 ∷ 0x22 ∷ 0x33 ∷ [])) (signal_of (1 ∷ [])) (signal_of (0 ∷ 0 ∷ 0 ∷ 1 ∷ []))

-- both marks change places
abbrev pub swapped_packet : Signals
swapped_packet = record packet { startofpacket = packet.endofpacket; endofpacket = packet.startofpacket }

-- the source sees ready throughout, and sends a beat a cycle
abbrev pub hurried_packet : Signals
hurried_packet =
    packet_signals always (signal_of (1 ∷ 1 ∷ 1 ∷ [])) (signal_of (0x11 ∷ 0x22 ∷ 0x33 ∷ [])) (signal_of (1 ∷ []))
    (signal_of (0 ∷ 0 ∷ 1 ∷ []))

-- the same at a sink that isn't ready in cycle 1
abbrev pub overrun_packet : Signals
overrun_packet = record hurried_packet { ready = packet.ready }
