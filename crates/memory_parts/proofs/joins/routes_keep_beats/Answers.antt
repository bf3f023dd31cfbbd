use Rattle.memory_parts.proofs.JoinedBeats.{keeps}
use Rattle.memory_parts.proofs.joins.routes_keep_beats.Goals as goal

pub returns : goal.returns
returns c = keeps
