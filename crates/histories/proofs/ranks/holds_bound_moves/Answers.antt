use Rattle.histories.proofs.ranks.Sums.{passage_grows, holds_bound}
use Rattle.histories.proofs.ranks.holds_bound_moves.Goals as goal

pub returns-clause-passage : goal.returns-clause-passage
returns-clause-passage c = passage_grows

pub returns-clause-path : goal.returns-clause-path
returns-clause-path c = holds_bound
