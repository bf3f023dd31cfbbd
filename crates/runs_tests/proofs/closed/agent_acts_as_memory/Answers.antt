use Rattle.runs_tests.proofs.ClosedRun.{memory, safe}
use Rattle.runs_tests.proofs.closed.agent_acts_as_memory.Goals as goal

pub returns-clause-acts : goal.returns-clause-acts
returns-clause-acts c = memory

pub returns-clause-safe : goal.returns-clause-safe
returns-clause-safe c = safe
