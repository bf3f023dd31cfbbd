use Rattle.simulated_runs.proofs.AgentBeginnings.{same_agent}
use Rattle.simulated_runs.proofs.HostBeginnings.{same_host}
use Rattle.simulated_runs.proofs.StreamBeginnings.{same_source, same_sink}
use Rattle.simulated_runs.proofs.beginnings.stand_ins_by_beginnings.Goals as goal

pub returns-clause-hosts : goal.returns-clause-hosts
returns-clause-hosts c = same_host

pub returns-clause-agents : goal.returns-clause-agents
returns-clause-agents c = same_agent

pub returns-clause-sources : goal.returns-clause-sources
returns-clause-sources c = same_source

pub returns-clause-sinks : goal.returns-clause-sinks
returns-clause-sinks c = same_sink
