use Rattle.routed_runs.proofs.machines.gatherer_gathers.Goals as goal
use Rattle.routed_runs.proofs.machines.GathererLaw

pub returns : goal.returns
returns c = λ gatherer run started count is some some_symbols some_parts legal. GathererLaw.gathered gatherer run started is some some_symbols some_parts count legal
