-- Small runs: a wire of byte packets whose sink stalls in each third cycle, and a host that writes to an agent and reads it.
use Rattle.std.specs.Prelude.{ℕ, true, false, List, [], ◌∷◌, Some, codes}
use Rattle.memory_runs.specs.Views.{Signals, Shape, HostSide, HostView, AgentSide, AgentView}
use Rattle.stream_runs.specs.View.{EndView}
use Rattle.stream_runs.specs.Ends.{byte_packets, side_of}
use Rattle.stream_runs.specs.Rows.{signal_of, never, showing, word, opens, closes}
use Rattle.av_base.specs.Word.{word as bits}
use Rattle.trace_lines.specs.declared.events.ShownBeat.{ShownBeat}
use Rattle.trace_lines.specs.Told.{StreamEnd, RunEnds}

-- three beats, of which the second waits for a cycle
abbrev pub wire_view : EndView
wire_view =
    showing (signal_of (1 ∷ 0 ∷ 1 ∷ 1 ∷ 0 ∷ 1 ∷ []))
    (Some (opens (word 0x11)) ∷ Some (word 0x22) ∷ Some (word 0x22) ∷ Some (closes 0 (word 0x33)) ∷ [])

abbrev pub wire_end : List ℕ → StreamEnd
wire_end name = record { name = name; side = side_of byte_packets; view = wire_view }

abbrev pub packet_wire : RunEnds
packet_wire = record {
  hosts = [];
  agents = [];
  streams = record { source = wire_end (codes "gen.out"); sink = wire_end (codes "chk.st"); dropped = never } ∷ [];
}

-- a beat of three symbols of four bits, of which one holds data, on channel 31
abbrev pub whole_packet : ShownBeat
whole_packet = record { word = bits 12 0x00a; channel = 31; error = 0; first = true; last = true; empty = 2 }

-- words of four bytes, counted by the address, and bursts of up to four; a span of 256 bytes
abbrev pub word_shape : Shape
word_shape = record { word_bytes = 4; unit_bytes = 4; burst_bits = 3; has_enables = true }

abbrev pub late_host : HostSide
late_host = record { shape = word_shape; has_burst = true; has_readdatavalid = true; has_response = false }

abbrev pub small_agent : AgentSide
small_agent = record {
  shape = word_shape;
  has_read = true;
  has_write = true;
  has_burst = true;
  has_waitrequest = true;
  has_readdatavalid = true;
  has_response = false;
  read_latency = 0;
  read_wait = 0;
  write_wait = 0;
  pending = 1;
  span = 256;
}

-- a burst of two beats from the last word on, of which the second waits for a cycle, and then a read of three words
abbrev pub burst_and_read : Signals
burst_and_read = record {
  read = signal_of (0 ∷ 0 ∷ 0 ∷ 1 ∷ []);
  write = signal_of (1 ∷ 1 ∷ 1 ∷ 0 ∷ []);
  address = signal_of (63 ∷ 63 ∷ 63 ∷ 1 ∷ []);
  word = signal_of (0x11 ∷ 0x22 ∷ 0x22 ∷ 0 ∷ []);
  enables = signal_of (15 ∷ 3 ∷ 3 ∷ 15 ∷ []);
  count = signal_of (2 ∷ 2 ∷ 2 ∷ 3 ∷ []);
}

abbrev pub agent_view : AgentView
agent_view = record {
  signals = burst_and_read;
  waitrequest = signal_of (0 ∷ 1 ∷ 0 ∷ 0 ∷ []);
  readdata = never;
  readdatavalid = never;
  response = never;
  grant = signal_of (1 ∷ 1 ∷ 1 ∷ 1 ∷ []);
}

abbrev pub host_view : HostView
host_view = record {
  signals = burst_and_read;
  waitrequest = signal_of (0 ∷ 1 ∷ 0 ∷ 0 ∷ []);
  readdata = signal_of (7 ∷ 0 ∷ 0 ∷ 0 ∷ 0x2a ∷ []);
  readdatavalid = signal_of (0 ∷ 0 ∷ 0 ∷ 0 ∷ 1 ∷ []);
  response = never;
}

abbrev pub one_host : RunEnds
one_host = record {
  hosts = record { name = codes "h.m"; side = late_host; view = host_view } ∷ [];
  agents = record { name = codes "m.s1"; side = small_agent; view = agent_view } ∷ [];
  streams = [];
}

-- two hosts that are given the same word with other codes, and one of the first kind without `response`
abbrev pub answering : ℕ → HostView
answering code = record host_view { response = signal_of (0 ∷ 0 ∷ 0 ∷ 0 ∷ code ∷ []) }

abbrev pub coded_host : HostSide
coded_host = record late_host { has_response = true }

abbrev pub three_hosts : RunEnds
three_hosts = record {
  hosts =
      record { name = codes "h.m"; side = coded_host; view = answering 2 }
      ∷ record { name = codes "g.m"; side = coded_host; view = answering 0 }
      ∷ record { name = codes "f.m"; side = late_host; view = answering 2 }
      ∷ [];
  agents = [];
  streams = [];
}
