use Rattle.memory_machines.proofs.Lag.{shown_lag}
use Rattle.memory_machines.proofs.links.shown_lag.Goals as goal

pub returns : goal.returns
returns c = shown_lag
