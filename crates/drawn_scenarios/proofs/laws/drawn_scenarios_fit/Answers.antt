use Rattle.drawn_scenarios.proofs.FitLemmas.{drawn_fits}
use Rattle.drawn_scenarios.proofs.laws.drawn_scenarios_fit.Goals as goal

pub returns : goal.returns
returns c = λ plan is number lane cycles some few.
    drawn_fits plan is (c.memory_connections_are_numbered.ensures.links plan.system is.system) (c.links_are_reached.ensures plan is) (c.sources_are_drawable.ensures plan is) number lane cycles some few
