-- The side of a run that the record of a host or of an agent stands for.
use Rattle.std.specs.Prelude.{ℕ, Bool, not, nat_eq, if◌then◌else◌}
use Rattle.iface_roles.specs.declared.records.HostPort.{HostPort}
use Rattle.iface_roles.specs.declared.records.AgentPort.{AgentPort}
use Rattle.iface_roles.specs.Proper.{span_of}
use Rattle.memory_runs.specs.Views.{Shape, HostSide, AgentSide}

-- the bytes that one step of an address counts
abbrev pub unit_of : Bool → ℕ → ℕ
unit_of byte_units word_bytes = if byte_units then 1 else word_bytes

-- the width of burstcount, 1 where there is none
abbrev pub burst_width : ℕ → ℕ
burst_width bits = if nat_eq bits 0 then 1 else bits

abbrev pub host_side : HostPort → HostSide
host_side port = record {
  shape =
      record {
        word_bytes =
            port.word_bytes;
        unit_bytes =
            unit_of port.byte_units port.word_bytes;
        burst_bits = burst_width port.burst_bits;
        has_enables = port.enables;
      };
  has_burst = not (nat_eq port.burst_bits 0);
  has_readdatavalid = port.readdatavalid;
  has_response = port.response;
}

-- a bound of 0 on unanswered reads counts as 1, as an absent one does
abbrev pub bound_of : AgentPort → ℕ
bound_of port = if nat_eq port.pending 0 then 1 else port.pending

abbrev pub agent_side : AgentPort → AgentSide
agent_side port = record {
  shape =
      record {
        word_bytes =
            port.word_bytes;
        unit_bytes =
            unit_of port.byte_units port.word_bytes;
        burst_bits = burst_width port.burst_bits;
        has_enables = port.enables;
      };
  has_read = port.reads;
  has_write = port.writes;
  has_burst = not (nat_eq port.burst_bits 0);
  has_waitrequest = port.waitrequest;
  has_readdatavalid = port.readdatavalid;
  has_response = port.response;
  read_latency = port.read_latency;
  read_wait = port.read_wait;
  write_wait = port.write_wait;
  pending = bound_of port;
  span = span_of port;
}
