-- A beat on another channel.
use Rattle.std.specs.Prelude.{ℕ}
use Rattle.stream_runs.specs.View.{Beat}

abbrev pub with_channel : ℕ → Beat → Beat
with_channel channel beat = record beat { channel = channel }
