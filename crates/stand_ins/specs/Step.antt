-- What a source does in a cycle.
use Rattle.stream_runs.specs.View.{Beat}

-- nothing, or it sends a beat
pub data Step : Type 0 where
  Quiet : Step
  Sends : Beat → Step
