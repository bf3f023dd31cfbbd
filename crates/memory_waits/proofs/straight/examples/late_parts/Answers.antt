use Rattle.memory_waits.proofs.straight.SmallRuns.{idle_agent, late_host, late_host_waits, late_route, late_route_waits}
use Rattle.memory_waits.proofs.straight.examples.late_parts.Goals as goal

pub returns-clause-host : goal.returns-clause-host
returns-clause-host c = late_host

pub returns-clause-prompt_host : goal.returns-clause-prompt_host
returns-clause-prompt_host c = late_host_waits

pub returns-clause-route : goal.returns-clause-route
returns-clause-route c = late_route

pub returns-clause-prompt_route : goal.returns-clause-prompt_route
returns-clause-prompt_route c = late_route_waits

pub returns-clause-agent : goal.returns-clause-agent
returns-clause-agent c = idle_agent
