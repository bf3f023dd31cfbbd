use Rattle.runs_tests.proofs.memory.LineRuns.{asker_refused, route_refused, kind_refused, more_refused, debt_refused, codes_refused, zero_kept}
use Rattle.runs_tests.proofs.memory.lines_refuse.Goals as goal

pub returns-clause-asker : goal.returns-clause-asker
returns-clause-asker c = asker_refused

pub returns-clause-route : goal.returns-clause-route
returns-clause-route c = route_refused

pub returns-clause-kind : goal.returns-clause-kind
returns-clause-kind c = kind_refused

pub returns-clause-more : goal.returns-clause-more
returns-clause-more c = more_refused

pub returns-clause-debt : goal.returns-clause-debt
returns-clause-debt c = debt_refused

pub returns-clause-codes : goal.returns-clause-codes
returns-clause-codes c = codes_refused

pub returns-clause-zero : goal.returns-clause-zero
returns-clause-zero c = zero_kept
