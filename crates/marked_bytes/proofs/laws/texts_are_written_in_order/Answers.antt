use Rattle.marked_bytes.proofs.Writing.{written_then, written_cut, written_none}
use Rattle.marked_bytes.proofs.laws.texts_are_written_in_order.Goals as goal

pub returns : goal.returns
returns c = record { both = written_then; first = written_cut; none = written_none }
