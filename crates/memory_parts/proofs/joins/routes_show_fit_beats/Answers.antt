use Rattle.memory_parts.proofs.JoinedBeats.{fits}
use Rattle.memory_parts.proofs.joins.routes_show_fit_beats.Goals as goal

pub returns : goal.returns
returns c = fits
