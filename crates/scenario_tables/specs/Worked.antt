-- A host of 32-bit words with 8 address bits that count bytes and bursts of up to 4 beats, an agent of 8-bit words with 4 bytes
-- and response, and a source of 2 symbols of 8 bits with packets and 4 channels.
use Rattle.std.specs.Prelude.{true, false}
use Rattle.iface_roles.specs.declared.records.HostPort.{HostPort}
use Rattle.iface_roles.specs.declared.records.AgentPort.{AgentPort}
use Rattle.iface_roles.specs.declared.records.StreamPort.{StreamPort}
use Rattle.scenario_tables.specs.declared.statements.SourceBeat.{SourceBeat}

abbrev pub small_host : HostPort
small_host = record {
  address_bits = 8;
  byte_units = true;
  word_bytes = 4;
  reads = true;
  writes = true;
  enables = true;
  burst_bits = 3;
  readdatavalid = true;
  waitrequest = true;
  response = false;
  lock = false;
  write_response = false;
  allowance = 0;
  wraps = false;
}

abbrev pub small_agent : AgentPort
small_agent = record {
  address_bits = 2;
  byte_units = true;
  word_bytes = 1;
  reads = true;
  writes = true;
  enables = false;
  burst_bits = 0;
  readdatavalid = true;
  waitrequest = true;
  response = true;
  unsupported = false;
  write_response = false;
  allowance = 0;
  wraps = false;
  boundaries = false;
  read_latency = 0;
  read_wait = 0;
  write_wait = 0;
  pending = 1;
  setup_hold = false;
}

abbrev pub small_source : StreamPort
small_source = record {
  symbols = 2;
  symbol_bits = 8;
  first_high = true;
  ready = true;
  latency = 0;
  allowance = 0;
  channel_bits = 2;
  max_channel = 3;
  error_bits = 1;
  packets = true;
  empty_bits = 1;
}

-- a packet of one symbol, and the beats of a longer one
abbrev pub whole_packet : SourceBeat
whole_packet = record { word = 0x1100; channel = 3; error = 1; first = true; last = true; empty = 1 }

abbrev pub first_beat : SourceBeat
first_beat = record { word = 0x1122; channel = 2; error = 0; first = true; last = false; empty = 0 }

abbrev pub last_beat : SourceBeat
last_beat = record { word = 0x3300; channel = 2; error = 0; first = false; last = true; empty = 1 }
