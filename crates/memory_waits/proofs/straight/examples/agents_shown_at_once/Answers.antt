use Rattle.std.proofs.Common.{refl}
use Rattle.memory_runs.specs.Views.Responses.{AreCodes}
use Rattle.memory_parts.specs.AgentRun.{agent_registers, agent_state}
use Rattle.memory_waits.specs.Examples.{above_agent, agent_of, agent_run, asked_twice, at_agent, even_pair}
use Rattle.memory_waits.proofs.straight.SmallRuns.{asked_fits, asked_legal, small_plan, small_suits}
use Rattle.memory_waits.proofs.straight.examples.agents_shown_at_once.Goals as goal

pub returns-clause-shows : goal.returns-clause-shows
returns-clause-shows c =
    c.agent_shows_what_it_is_asked.ensures AreCodes even_pair (agent_run (at_agent asked_twice)) 0 (above_agent asked_twice) (agent_state (agent_registers AreCodes (agent_of 4) asked_twice)) 3
    small_plan asked_fits asked_legal (c.agent_machine_runs.ensures AreCodes (agent_of 4) asked_twice 3 small_suits)

pub returns-clause-read : goal.returns-clause-read
returns-clause-read c = refl

pub returns-clause-write : goal.returns-clause-write
returns-clause-write c = refl
