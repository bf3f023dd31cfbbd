use Rattle.std.proofs.Common.{refl}
use Rattle.std.proofs.Common.{rules}
use Rattle.routed_runs.proofs.rows.multiplexers.Goals as goal
use Rattle.routed_runs.proofs.RightRuns.{right_multiplexer}
use Rattle.routed_runs.proofs.Swallowed.{multiplexer_swallows}
use Rattle.routed_runs.proofs.Waiting.{waiting_is_legal}

pub returns-clause-right : goal.returns-clause-right
returns-clause-right c = right_multiplexer (search rules) (((((((tt, ((tt, refl), refl)), ((tt, refl), refl)), ((tt, refl), refl)), ((tt, refl), refl)), ((tt, refl), refl)), ((tt, refl), refl)), ((tt, refl), refl)) (((((((tt, ((tt, refl), refl)), ((tt, refl), refl)), ((tt, refl), refl)), ((tt, refl), refl)), ((tt, refl), refl)), ((tt, refl), refl)), ((tt, refl), refl))

pub returns-clause-swallowed : goal.returns-clause-swallowed
returns-clause-swallowed c = multiplexer_swallows

pub returns-clause-idle_inputs : goal.returns-clause-idle_inputs
returns-clause-idle_inputs c i is n before = waiting_is_legal n
