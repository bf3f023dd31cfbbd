use Rattle.std.proofs.Common.{refl, arith}
use Rattle.std.proofs.lemmas.Grind.{common_steps}
use Rattle.routed_runs.proofs.rows.gatherers.Goals as goal
use Rattle.routed_runs.proofs.RightRuns.{right_gatherer}
use Rattle.routed_runs.proofs.Swallowed.{gatherer_swallows}

pub returns-clause-right : goal.returns-clause-right
returns-clause-right c = right_gatherer (grind (arith, common_steps)) (((((((tt, ((tt, refl), refl)), ((tt, refl), refl)), ((tt, refl), refl)), ((tt, refl), refl)), ((tt, refl), refl)), ((tt, refl), refl)), ((tt, refl), refl))

pub returns-clause-swallowed : goal.returns-clause-swallowed
returns-clause-swallowed c = gatherer_swallows
