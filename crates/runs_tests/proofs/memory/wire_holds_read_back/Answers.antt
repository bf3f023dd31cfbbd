use Rattle.runs_tests.proofs.memory.WireTraces.{held_back_is_legal, let_through_is_not}
use Rattle.runs_tests.proofs.memory.wire_holds_read_back.Goals as goal

pub returns-clause-legal : goal.returns-clause-legal
returns-clause-legal c = held_back_is_legal

pub returns-clause-past_bound : goal.returns-clause-past_bound
returns-clause-past_bound c = let_through_is_not
