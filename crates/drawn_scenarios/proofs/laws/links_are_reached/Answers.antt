use Rattle.drawn_scenarios.proofs.LinkLemmas.{link_reached}
use Rattle.drawn_scenarios.proofs.laws.links_are_reached.Goals as goal

pub returns : goal.returns
returns c = λ plan is host k link at.
    link_reached plan is (c.memory_connections_are_numbered.ensures.links plan.system is.system) c.proper_records_are_bounded.ensures.host c.proper_records_are_bounded.ensures.agent host k link at
