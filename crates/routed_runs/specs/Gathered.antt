-- A gatherer: the beats of each channel come out as wider ones, so many together, whatever channels come between them.
use Rattle.std.specs.Prelude.{ℕ, ◌+◌, ◌-◌, ◌*◌, ◌<◌, ◌≤◌, ◌≡◌, false, IsTrue, length}
use Rattle.stream_runs.specs.View.{EndView, Side, is_high, is_transfer}
use Rattle.stream_runs.specs.Source.{IsLegalSource}
use Rattle.stream_runs.specs.Symbols.{accepted_symbols, delivered_symbols, shown_count}
use Rattle.stream_runs.specs.Awake.{Throughout, Sometime}
use Rattle.routed_runs.specs.Routes.{direct, direct_end, symbols_on, FollowWithin, routing_window}

-- so many channels, so many symbols of so many bits in a beat that comes, and so many of those in one that goes
pub record Gatherer : Type 0 where
  pub channels : ℕ
  pub symbols : ℕ
  pub parts : ℕ
  pub bits : ℕ

-- the symbols of a beat that goes
abbrev pub gathered_symbols : Gatherer → ℕ
gathered_symbols gatherer = gatherer.symbols * gatherer.parts

abbrev pub input_side : Gatherer → Side
input_side gatherer = direct_end false gatherer.symbols gatherer.bits (gatherer.channels - 1)

abbrev pub output_side : Gatherer → Side
output_side gatherer = direct_end false (gathered_symbols gatherer) gatherer.bits (gatherer.channels - 1)

-- what its two ends show
pub record GathererRun : Type 0 where
  pub input : EndView
  pub output : EndView

-- the output is ready, and the symbols of some channel that aren't delivered yet make a beat
pub record IsOwed (gatherer : Gatherer) (run : GathererRun) (c : ℕ) : Type 0 where
  pub ready : IsTrue (is_high run.output.ready c)
  pub channel : ℕ
  pub is_channel : channel < gatherer.channels
  pub undelivered : length (symbols_on channel (delivered_symbols (output_side gatherer) run.output c))
      + gathered_symbols gatherer
      ≤ length (symbols_on channel (accepted_symbols (input_side gatherer) run.input c))

-- what a gatherer does in the cycles before count
pub record IsGathered (gatherer : Gatherer) (run : GathererRun) (count : ℕ) : Type 0 where
  -- it is a legal source
  pub legal : IsLegalSource (output_side gatherer) run.output count
  -- what comes on a channel is what was accepted on it
  pub follows : (k : ℕ) → k < gatherer.channels → (c : ℕ) → c ≤ count
      → FollowWithin (3 * gathered_symbols gatherer) (symbols_on k (accepted_symbols (input_side gatherer) run.input c))
      (symbols_on k (delivered_symbols (output_side gatherer) run.output c))
  -- each beat is full, of symbols of one channel
  pub full : (c : ℕ) → c < count → IsTrue (is_transfer direct run.output c)
      → shown_count (output_side gatherer) run.output c ≡ gathered_symbols gatherer
  -- before a sink that is ready the source sees ready
  pub accepts : (start : ℕ) → start + routing_window ≤ count
      → Throughout start routing_window (λ c. IsTrue (is_high run.output.ready c))
      → Sometime start routing_window (λ c. IsTrue (is_high run.input.ready c))
  -- and a beat is delivered where one waits
  pub delivers : (start : ℕ) → start + routing_window ≤ count
      → Throughout start routing_window (IsOwed gatherer run)
      → Sometime start routing_window (λ c. IsTrue (is_transfer direct run.output c))
