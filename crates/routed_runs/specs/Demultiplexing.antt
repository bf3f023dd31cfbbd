-- A machine that is a demultiplexer: it leads the input straight to the output that has the number of its channel. It keeps
-- nothing.
use Rattle.std.specs.Prelude.{ℕ, ◌<◌, ◌≡◌, ◌==◌, ◌&&◌, IsTrue}
use Rattle.stream_runs.specs.View.{beat_at, is_high}
use Rattle.routed_runs.specs.Demultiplexed.{Demultiplexer, DemultiplexerRun}
use Rattle.routed_runs.specs.Beats.{with_channel}

pub record IsDemultiplexerRun (demux : Demultiplexer) (run : DemultiplexerRun) : Type 0 where
  pub valid : (c k : ℕ) → k < demux.outputs
      → is_high (run.outputs k).valid c ≡ (is_high run.input.valid c && (run.input.channel c == k))
  pub beat : (c k : ℕ) → k < demux.outputs → IsTrue (is_high (run.outputs k).valid c)
      → beat_at (run.outputs k) c ≡ with_channel 0 (beat_at run.input c)
  pub ready : (c : ℕ) → run.input.channel c < demux.outputs
      → is_high run.input.ready c ≡ is_high (run.outputs (run.input.channel c)).ready c
