-- A demultiplexer: each beat of an input comes out of the output that has the number of its channel.
use Rattle.std.specs.Prelude.{ℕ, ◌+◌, ◌-◌, ◌*◌, ◌<◌, ◌≤◌, true, IsTrue, length}
use Rattle.stream_runs.specs.View.{EndView, Side, is_high, is_transfer}
use Rattle.stream_runs.specs.Source.{IsLegalSource}
use Rattle.stream_runs.specs.Symbols.{accepted_symbols, delivered_symbols}
use Rattle.stream_runs.specs.Awake.{Throughout, Sometime}
use Rattle.routed_runs.specs.Routes.{direct, direct_end, symbols_on, FollowWithin, routing_window}

-- so many outputs, and so many symbols of so many bits a beat
pub record Demultiplexer : Type 0 where
  pub outputs : ℕ
  pub symbols : ℕ
  pub bits : ℕ

abbrev pub input_side : Demultiplexer → Side
input_side demux = direct_end true demux.symbols demux.bits (demux.outputs - 1)

abbrev pub output_side : Demultiplexer → Side
output_side demux = direct_end true demux.symbols demux.bits 0

-- what the input shows, and the outputs, by their numbers
pub record DemultiplexerRun : Type 0 where
  pub input : EndView
  pub outputs : ℕ → EndView

-- each output is ready in the cycle
abbrev pub AreAllReady : Demultiplexer → DemultiplexerRun → ℕ → Type 0
AreAllReady demux run c = (k : ℕ) → k < demux.outputs → IsTrue (is_high (run.outputs k).ready c)

-- each output is ready, and the input shows a beat
pub record IsWaiting (demux : Demultiplexer) (run : DemultiplexerRun) (c : ℕ) : Type 0 where
  pub ready : AreAllReady demux run c
  pub shown : IsTrue (is_high run.input.valid c)

-- each output is ready, and an accepted symbol isn't delivered yet
pub record IsOwed (demux : Demultiplexer) (run : DemultiplexerRun) (c : ℕ) : Type 0 where
  pub ready : AreAllReady demux run c
  pub output : ℕ
  pub is_output : output < demux.outputs
  pub undelivered : length (delivered_symbols (output_side demux) (run.outputs output) c)
      < length (symbols_on output (accepted_symbols (input_side demux) run.input c))

-- a beat is delivered at some output
abbrev pub IsDelivered : Demultiplexer → DemultiplexerRun → ℕ → Type 0
IsDelivered demux run c = (k : ℕ) × (k < demux.outputs) × IsTrue (is_transfer direct (run.outputs k) c)

-- what a demultiplexer does in the cycles before count
pub record IsDemultiplexed (demux : Demultiplexer) (run : DemultiplexerRun) (count : ℕ) : Type 0 where
  -- it is a legal source at each output
  pub legal : (k : ℕ) → k < demux.outputs → IsLegalSource (output_side demux) (run.outputs k) count
  -- what an output is given is what was accepted on its channel
  pub follows : (k : ℕ) → k < demux.outputs → (c : ℕ) → c ≤ count
      → FollowWithin (2 * demux.symbols) (symbols_on k (accepted_symbols (input_side demux) run.input c))
      (delivered_symbols (output_side demux) (run.outputs k) c)
  -- a beat is accepted where one waits
  pub accepts : (start : ℕ) → start + routing_window ≤ count
      → Throughout start routing_window (IsWaiting demux run)
      → Sometime start routing_window (λ c. IsTrue (is_transfer direct run.input c))
  -- and one is delivered where a symbol does
  pub delivers : (start : ℕ) → start + routing_window ≤ count
      → Throughout start routing_window (IsOwed demux run)
      → Sometime start routing_window (IsDelivered demux run)
