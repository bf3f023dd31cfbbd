use Rattle.runs_tests.proofs.memory.LineRuns.{writer_is_plan, odd_refused}
use Rattle.runs_tests.proofs.memory.plans.Goals as goal

pub returns-clause-writer : goal.returns-clause-writer
returns-clause-writer c = writer_is_plan

pub returns-clause-odd : goal.returns-clause-odd
returns-clause-odd c = odd_refused
