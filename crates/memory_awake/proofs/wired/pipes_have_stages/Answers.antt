use Rattle.memory_awake.proofs.PipeStages.{stage_between, highest, lowest}
use Rattle.memory_awake.proofs.wired.pipes_have_stages.Goals as goal

pub returns-clause-stages : goal.returns-clause-stages
returns-clause-stages c = stage_between

pub returns-clause-highest : goal.returns-clause-highest
returns-clause-highest c = highest

pub returns-clause-lowest : goal.returns-clause-lowest
returns-clause-lowest c = lowest
