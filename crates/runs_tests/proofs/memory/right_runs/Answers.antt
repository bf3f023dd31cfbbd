use Rattle.runs_tests.proofs.memory.Traces.{narrow_is_ordered, narrow_is_legal, read_is_returned}
use Rattle.runs_tests.proofs.memory.right_runs.Goals as goal

pub returns-clause-ordered : goal.returns-clause-ordered
returns-clause-ordered c = narrow_is_ordered

pub returns-clause-legal : goal.returns-clause-legal
returns-clause-legal c = narrow_is_legal

pub returns-clause-returned : goal.returns-clause-returned
returns-clause-returned c = read_is_returned
