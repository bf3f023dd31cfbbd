use Rattle.runs_tests.proofs.memory.HostRuns.{hanging_served, forgetful_served, crowded_served, crowded_passed, hanging_stuck, forgetful_stuck, crowded_stuck, silent_served, silent_stuck, hanging_prompt, hanging_stands}
use Rattle.runs_tests.proofs.memory.hosts.hanging_hosts.Goals as goal

pub returns-clause-awake : goal.returns-clause-awake
returns-clause-awake c = (hanging_served, forgetful_served, crowded_served)

pub returns-clause-fair : goal.returns-clause-fair
returns-clause-fair c = crowded_passed

pub returns-clause-hanging : goal.returns-clause-hanging
returns-clause-hanging c = hanging_stuck

pub returns-clause-forgetful : goal.returns-clause-forgetful
returns-clause-forgetful c = forgetful_stuck

pub returns-clause-crowded : goal.returns-clause-crowded
returns-clause-crowded c = crowded_stuck

pub returns-clause-default : goal.returns-clause-default
returns-clause-default c = silent_served

pub returns-clause-silent : goal.returns-clause-silent
returns-clause-silent c = silent_stuck

pub returns-clause-standing : goal.returns-clause-standing
returns-clause-standing c = (hanging_prompt, hanging_stands)
