use Rattle.port_rows.proofs.agent_ends.Fitting.{rest_fits, stand_in_fits}
use Rattle.port_rows.proofs.agent_ends.laws.shown_agents_fit.Goals as goal

pub returns-clause-shown : goal.returns-clause-shown
returns-clause-shown c port script view cycle bounded kept bytes = stand_in_fits c.codes_fit_their_port.ensures.few c.codes_fit_their_port.ensures.none port script view cycle bytes bounded kept

pub returns-clause-wordless : goal.returns-clause-wordless
returns-clause-wordless c = rest_fits
