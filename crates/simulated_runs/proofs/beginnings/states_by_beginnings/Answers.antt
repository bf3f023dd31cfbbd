use Rattle.simulated_runs.proofs.AgentBeginnings.{same_state}
use Rattle.simulated_runs.proofs.HostBeginnings.{same_steps}
use Rattle.simulated_runs.proofs.StreamBeginnings.{same_keeping}
use Rattle.simulated_runs.proofs.beginnings.states_by_beginnings.Goals as goal

pub returns-clause-hosts : goal.returns-clause-hosts
returns-clause-hosts c = same_steps

pub returns-clause-agents : goal.returns-clause-agents
returns-clause-agents c = same_state

pub returns-clause-sources : goal.returns-clause-sources
returns-clause-sources c = same_keeping
