use Rattle.memory_runs.specs.Shorter.{legal_run_before, safe_before, awake_before, onward_before, fair_before}
use Rattle.memory_runs.proofs.shorter_runs.Goals as goal

pub returns-clause-legal : goal.returns-clause-legal
returns-clause-legal c = legal_run_before

pub returns-clause-safe : goal.returns-clause-safe
returns-clause-safe c = safe_before

pub returns-clause-awake : goal.returns-clause-awake
returns-clause-awake c = awake_before

pub returns-clause-fair : goal.returns-clause-fair
returns-clause-fair c = fair_before

pub returns-clause-onward : goal.returns-clause-onward
returns-clause-onward c = λ shorter end h window. onward_before shorter end h window
