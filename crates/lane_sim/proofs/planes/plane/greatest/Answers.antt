use Rattle.lane_sim.proofs.planes.PlaneLemmas.{greatest_lem}
use Rattle.lane_sim.proofs.planes.plane.greatest.Goals as goal

pub returns : goal.returns
returns c = greatest_lem _ c.requires.some c.requires.small
