use Rattle.memory_plans.proofs.Words.{are_fit}
use Rattle.memory_plans.proofs.given.fit_commands_suit_agents.Goals as goal

pub returns : goal.returns
returns c = are_fit
