use Rattle.runs_tests.proofs.memory.PartTwins.{past_bound_is_not, newest_tag_is_not}
use Rattle.runs_tests.proofs.memory.parts.wrong_agents.Goals as goal

pub returns-clause-past_bound : goal.returns-clause-past_bound
returns-clause-past_bound c = past_bound_is_not

pub returns-clause-newest_tag : goal.returns-clause-newest_tag
returns-clause-newest_tag c = newest_tag_is_not
