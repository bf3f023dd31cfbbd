use Rattle.memory_runs.proofs.SameSides.{agree_turned}
use Rattle.memory_runs.proofs.SameSafe.{same_legal_run, same_safe}
use Rattle.memory_runs.proofs.SameAwake.{same_awake, same_onward, same_accepts, same_fair}
use Rattle.memory_runs.proofs.same_beginnings.Goals as goal

pub returns-clause-legal : goal.returns-clause-legal
returns-clause-legal c = same_legal_run

pub returns-clause-safe : goal.returns-clause-safe
returns-clause-safe c = λ responses system one two end same. same_safe system one two end same responses

pub returns-clause-awake : goal.returns-clause-awake
returns-clause-awake c = same_awake

pub returns-clause-fair : goal.returns-clause-fair
returns-clause-fair c = same_fair

pub returns-clause-turned : goal.returns-clause-turned
returns-clause-turned c = agree_turned

pub returns-clause-onward : goal.returns-clause-onward
returns-clause-onward c = λ window system one two end same. same_onward system one two end same window

pub returns-clause-accepts : goal.returns-clause-accepts
returns-clause-accepts c = same_accepts
