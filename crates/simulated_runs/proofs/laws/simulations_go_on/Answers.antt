use Rattle.simulated_runs.proofs.GoingOn.{goes_on}
use Rattle.simulated_runs.proofs.laws.simulations_go_on.Goals as goal

pub returns : goal.returns
returns c plan scenario netlist run at cycle = goes_on plan scenario netlist run at cycle
    c.stand_ins_by_beginnings.ensures.hosts c.stand_ins_by_beginnings.ensures.agents c.stand_ins_by_beginnings.ensures.sources c.stand_ins_by_beginnings.ensures.sinks
