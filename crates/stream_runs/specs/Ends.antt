-- From what is declared of the ends of a stream, and the signals on their ports, to sides and views.
use Rattle.std.specs.Prelude.{ℕ, ◌<◌, ◌≤◌, ◌≡◌, Bool, true, if◌then◌else◌, nat_lt, IsTrue, Option, Some, None}
use Rattle.stream_runs.specs.View.{EndView, Pace, Side}
use Rattle.stream_runs.specs.Delivery.{Stream, StreamRun}

-- the declared properties of an end; a port of 0 bits isn't there
pub record Declared : Type 0 where
  pub symbols : ℕ
  pub symbol_bits : ℕ
  pub first_high : Bool
  pub ready : Bool
  pub latency : ℕ
  pub allowance : ℕ
  pub channel_bits : ℕ
  pub max_channel : ℕ
  pub error_bits : ℕ
  pub packets : Bool
  pub empty_bits : ℕ

-- the signal on the port of each role, at an end that has such a port
pub record Signals : Type 0 where
  pub ready : Option (ℕ → ℕ)
  pub valid : Option (ℕ → ℕ)
  pub word : Option (ℕ → ℕ)
  pub channel : Option (ℕ → ℕ)
  pub error : Option (ℕ → ℕ)
  pub startofpacket : Option (ℕ → ℕ)
  pub endofpacket : Option (ℕ → ℕ)
  pub empty : Option (ℕ → ℕ)

-- the pace of an end: what is declared of it where it has ready, and no latency where it is always ready
abbrev pub pace_of : Declared → Pace
pace_of declared =
    if declared.ready
    then record { latency = declared.latency; allowance = declared.allowance }
    else record { latency = 0; allowance = 0 }

-- the side of an end; one without channel has largest channel 0
abbrev pub side_of : Declared → Side
side_of declared =
    record {
      pace = pace_of declared;
      symbols = declared.symbols;
      symbol_bits = declared.symbol_bits;
      first_high = declared.first_high;
      packets = declared.packets;
      max_channel = if nat_lt 0 declared.channel_bits then declared.max_channel else 0;
      error_bits = declared.error_bits;
    }

-- what is on the port, or this level where there is none
abbrev pub signal_or : ℕ → Option (ℕ → ℕ) → ℕ → ℕ
signal_or level None c = level
signal_or level (Some signal) c = signal c

-- the view of an end: 0 on each port that it doesn't have, but always ready where it has no ready
abbrev pub view_of : Signals → EndView
view_of signals =
    record {
      valid = signal_or 0 signals.valid;
      word = signal_or 0 signals.word;
      channel = signal_or 0 signals.channel;
      error = signal_or 0 signals.error;
      first = signal_or 0 signals.startofpacket;
      last = signal_or 0 signals.endofpacket;
      empty = signal_or 0 signals.empty;
      ready = signal_or 1 signals.ready;
    }

-- the stream of two ends with a queue of so many beats
abbrev pub stream_of : Declared → Declared → ℕ → Stream
stream_of source sink fifo_depth = record { source = side_of source; sink = side_of sink; fifo_depth = fifo_depth }

-- its run
abbrev pub run_of : Signals → Signals → (ℕ → ℕ) → StreamRun
run_of source sink dropped = record { source = view_of source; sink = view_of sink; dropped = dropped }

-- two ends that agree so far that a wire joins them
pub record AreAlike (source sink : Declared) : Type 0 where
  pub symbols : source.symbols ≡ sink.symbols
  pub symbol_bits : source.symbol_bits ≡ sink.symbol_bits
  pub first_high : source.first_high ≡ sink.first_high
  pub source_ready : IsTrue source.ready
  pub sink_ready : IsTrue sink.ready
  pub source_latency : source.latency ≡ 0
  pub sink_latency : sink.latency ≡ 0
  pub channel_bits : source.channel_bits ≡ sink.channel_bits
  pub max_channel : source.max_channel ≤ sink.max_channel
  pub error_bits : source.error_bits ≡ sink.error_bits
  pub packets : source.packets ≡ sink.packets
  pub empty_bits : source.empty_bits ≡ sink.empty_bits

-- a wire: each output is driven by the input of the same role at the other end, so both ends show the same, and dropped
-- is 0 in the cycles before count
pub record IsWire (source sink : Signals) (dropped : ℕ → ℕ) (count : ℕ) : Type 0 where
  pub joined : sink ≡ source
  pub drops_none : (c : ℕ) → c < count → dropped c ≡ 0

-- an end of packets of bytes, a byte a beat: no channel, no error, no empty, ready latency 0
abbrev pub byte_packets : Declared
byte_packets =
    record {
      symbols = 1;
      symbol_bits = 8;
      first_high = true;
      ready = true;
      latency = 0;
      allowance = 0;
      channel_bits = 0;
      max_channel = 0;
      error_bits = 0;
      packets = true;
      empty_bits = 0;
    }

-- the signals of such an end
abbrev pub packet_signals : (ℕ → ℕ) → (ℕ → ℕ) → (ℕ → ℕ) → (ℕ → ℕ) → (ℕ → ℕ) → Signals
packet_signals ready valid word startofpacket endofpacket =
    record {
      ready = Some ready;
      valid = Some valid;
      word = Some word;
      channel = None;
      error = None;
      startofpacket = Some startofpacket;
      endofpacket = Some endofpacket;
      empty = None;
    }
