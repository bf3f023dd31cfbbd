use Rattle.memory_awake.proofs.AheadFront.{nothing_back, nothing_open, shows_joined}
use Rattle.memory_awake.proofs.host_and_route_keep_nothing_back.Goals as goal

pub returns-clause-back : goal.returns-clause-back
returns-clause-back c = nothing_back

pub returns-clause-left_open : goal.returns-clause-left_open
returns-clause-left_open c = nothing_open

pub returns-clause-joined : goal.returns-clause-joined
returns-clause-joined c = shows_joined
