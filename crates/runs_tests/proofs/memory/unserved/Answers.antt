use Rattle.runs_tests.proofs.memory.Traces.{unfair_is_not, stuck_is_not, one_by_one_is_not, held_read_is_not, passed_is_not}
use Rattle.runs_tests.proofs.memory.unserved.Goals as goal

pub returns-clause-unfair : goal.returns-clause-unfair
returns-clause-unfair c = unfair_is_not

pub returns-clause-stuck : goal.returns-clause-stuck
returns-clause-stuck c = stuck_is_not

pub returns-clause-one_by_one : goal.returns-clause-one_by_one
returns-clause-one_by_one c = one_by_one_is_not

pub returns-clause-passed : goal.returns-clause-passed
returns-clause-passed c = passed_is_not

pub returns-clause-held_read : goal.returns-clause-held_read
returns-clause-held_read c = held_read_is_not
