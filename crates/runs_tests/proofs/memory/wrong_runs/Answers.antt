use Rattle.runs_tests.proofs.memory.Traces.{all_lanes_is_not, stray_is_not, busy_is_not, mixed_is_not}
use Rattle.runs_tests.proofs.memory.wrong_runs.Goals as goal

pub returns-clause-all_lanes : goal.returns-clause-all_lanes
returns-clause-all_lanes c = all_lanes_is_not

pub returns-clause-stray : goal.returns-clause-stray
returns-clause-stray c = stray_is_not

pub returns-clause-busy : goal.returns-clause-busy
returns-clause-busy c = busy_is_not

pub returns-clause-mixed : goal.returns-clause-mixed
returns-clause-mixed c = mixed_is_not
