use Rattle.simulated_runs.proofs.AgentBeginnings.{same_accepts, same_transfer}
use Rattle.simulated_runs.proofs.beginnings.taken_by_beginnings.Goals as goal

pub returns-clause-accepted : goal.returns-clause-accepted
returns-clause-accepted c = λ side one two end k agree low. same_accepts side one two end agree k low

pub returns-clause-transfer : goal.returns-clause-transfer
returns-clause-transfer c = λ side one two end k agree low. same_transfer side one two end agree k low
