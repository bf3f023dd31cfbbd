use Rattle.std.proofs.Common.{refl}
use Rattle.runs_tests.proofs.memory.rows.width_system_serves.Goals as goal

pub returns-clause-first_agent : goal.returns-clause-first_agent
returns-clause-first_agent c = refl

pub returns-clause-second_agent : goal.returns-clause-second_agent
returns-clause-second_agent c = refl

pub returns-clause-first_host : goal.returns-clause-first_host
returns-clause-first_host c = refl

pub returns-clause-second_host : goal.returns-clause-second_host
returns-clause-second_host c = refl
