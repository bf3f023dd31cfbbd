use Rattle.netlist.proofs.fed.Fitting.{fits}
use Rattle.netlist.proofs.fed.inputs_fit.Goals as goal

pub returns : goal.returns
returns c = fits c.signals.ensures.input_net
