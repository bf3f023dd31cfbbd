use Rattle.std.proofs.Common.{refl}
use Rattle.std.proofs.Common.{rules}
use Rattle.routed_runs.proofs.rows.demultiplexers.Goals as goal
use Rattle.routed_runs.proofs.RightRuns.{right_demultiplexer}
use Rattle.routed_runs.proofs.Swallowed.{demultiplexer_swallows}

pub returns-clause-right : goal.returns-clause-right
returns-clause-right c = right_demultiplexer (search rules) (((((tt, ((tt, refl), refl)), ((tt, refl), refl)), ((tt, refl), refl)), ((tt, refl), refl)), ((tt, refl), refl))

pub returns-clause-swallowed : goal.returns-clause-swallowed
returns-clause-swallowed c = demultiplexer_swallows
