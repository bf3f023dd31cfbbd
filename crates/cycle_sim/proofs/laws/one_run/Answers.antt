use Rattle.cycle_sim.proofs.Runs.{one_run}
use Rattle.cycle_sim.proofs.laws.one_run.Goals as goal

pub returns : goal.returns
returns c netlist h = one_run netlist h (c.agree.ensures netlist h.well_made)
