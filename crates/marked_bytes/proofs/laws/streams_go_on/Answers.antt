use Rattle.marked_bytes.proofs.Going.{goes_on, ends}
use Rattle.marked_bytes.proofs.laws.streams_go_on.Goals as goal

pub returns : goal.returns
returns c = record { next = goes_on; end = ends }
