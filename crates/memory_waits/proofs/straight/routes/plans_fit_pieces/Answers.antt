use Rattle.memory_waits.proofs.straight.Lanes.{powers_fit}
use Rattle.memory_waits.proofs.straight.routes.plans_fit_pieces.Goals as goal

pub returns : goal.returns
returns c = λ system plan host agent there here. powers_fit (system.host host).shape (system.agent agent).shape (plan.hosts host there).word (plan.agents agent here).word
