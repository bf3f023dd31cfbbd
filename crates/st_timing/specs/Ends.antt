-- What the records of interfaces declare of the end of a stream.
use Rattle.std.specs.Prelude.{◌≡◌, ◌≤◌}
use Rattle.iface_roles.specs.declared.records.StreamPort.{StreamPort}
use Rattle.stream_runs.specs.View.{Pace}
use Rattle.stream_runs.specs.Ends.{Declared}

-- what is declared of an end
abbrev pub declared : StreamPort → Declared
declared end =
    record {
      symbols = end.symbols;
      symbol_bits = end.symbol_bits;
      first_high = end.first_high;
      ready = end.ready;
      latency = end.latency;
      allowance = end.allowance;
      channel_bits = end.channel_bits;
      max_channel = end.max_channel;
      error_bits = end.error_bits;
      packets = end.packets;
      empty_bits = end.empty_bits;
    }

-- a ready latency of at most 8 cycles, and an allowance of at most 16 beats, no less than that, and none at ready latency 0
pub record IsPaced (pace : Pace) : Type 0 where
  pub short : pace.latency ≤ 8
  pub ordered : pace.latency ≤ pace.allowance
  pub few : pace.allowance ≤ 16
  pub direct : pace.latency ≡ 0 → pace.allowance ≡ 0
