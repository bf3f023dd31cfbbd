use Rattle.histories.proofs.ranks.Seats.{turn_keeps, turn_asks}
use Rattle.histories.proofs.ranks.turns_keep_seats.Goals as goal

pub returns-clause-seats : goal.returns-clause-seats
returns-clause-seats c = turn_keeps

pub returns-clause-asked : goal.returns-clause-asked
returns-clause-asked c = turn_asks
