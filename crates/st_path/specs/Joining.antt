-- Which ends of a stream a path joins.
use Rattle.std.specs.Prelude.{◌≡◌, ◌*◌, ◌%◌, ◌^◌, ◌<◌, ◌≤◌, IsTrue, IsFalse}
use Rattle.stream_runs.specs.Ends.{Declared, pace_of}
use Rattle.st_timing.specs.Ends.{IsPaced}

-- beats of the same form, and no channel that the sink doesn't take
pub record HaveOneForm (source sink : Declared) : Type 0 where
  pub symbols : source.symbols ≡ sink.symbols
  pub symbol_bits : source.symbol_bits ≡ sink.symbol_bits
  pub first_high : source.first_high ≡ sink.first_high
  pub channel_bits : source.channel_bits ≡ sink.channel_bits
  pub max_channel : source.max_channel ≤ sink.max_channel
  pub error_bits : source.error_bits ≡ sink.error_bits
  pub packets : source.packets ≡ sink.packets
  pub empty_bits : source.empty_bits ≡ sink.empty_bits

-- what is declared of an end fits its ports: its largest channel, and in packets the empty symbols
pub record FitsPorts (end : Declared) : Type 0 where
  pub some : 1 ≤ end.symbols
  pub few : end.symbols ≤ 32
  pub some_bits : 1 ≤ end.symbol_bits
  pub small : end.symbols * end.symbol_bits ≤ 128
  pub pace : IsPaced (pace_of end)
  pub channel : end.channel_bits ≤ 16
  pub channels : end.max_channel < 2 ^ end.channel_bits
  pub error : end.error_bits ≤ 32
  pub empty : end.empty_bits ≤ 8
  pub empties : IsTrue end.packets → end.symbols ≤ 2 ^ end.empty_bits

-- the sink is always ready, and has room for whole beats of the source
pub record TakesWhole (source sink : Declared) : Type 0 where
  pub no_ready : IsFalse sink.ready
  pub whole : sink.symbols % source.symbols ≡ 0

-- the ends keep the rules on a connection
pub record CanJoin (source sink : Declared) : Type 0 where
  pub source_fits : FitsPorts source
  pub sink_fits : FitsPorts sink
  pub symbol_bits : source.symbol_bits ≡ sink.symbol_bits
  pub packets : source.packets ≡ sink.packets
  -- a source that can't wait needs a sink that never lets it
  pub waits : IsFalse source.ready → TakesWhole source sink
  -- beats on several channels aren't joined to wider ones
  pub channels : 0 < source.channel_bits → source.symbols % sink.symbols ≡ 0
  pub errors : 0 < source.error_bits → source.error_bits ≡ sink.error_bits
