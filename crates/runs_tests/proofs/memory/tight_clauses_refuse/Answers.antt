use Rattle.runs_tests.proofs.memory.Refused.{hung_falls_not, owing_falls_not, debt_falls_not, starving_answers_not}
use Rattle.runs_tests.proofs.memory.tight_clauses_refuse.Goals as goal

pub returns-clause-hung : goal.returns-clause-hung
returns-clause-hung c = hung_falls_not

pub returns-clause-owing : goal.returns-clause-owing
returns-clause-owing c = owing_falls_not

pub returns-clause-blocked : goal.returns-clause-blocked
returns-clause-blocked c = debt_falls_not

pub returns-clause-starved : goal.returns-clause-starved
returns-clause-starved c = starving_answers_not
