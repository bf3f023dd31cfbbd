use Rattle.cycle_sim.proofs.Runs.{first_agree, next_agree}
use Rattle.cycle_sim.proofs.laws.follow.Goals as goal

pub returns-clause-first : goal.returns-clause-first
returns-clause-first c = first_agree

pub returns-clause-next : goal.returns-clause-next
returns-clause-next c = next_agree
