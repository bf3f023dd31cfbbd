use Rattle.simulations.proofs.OneRun.{all_agree}
use Rattle.simulations.proofs.agreeing.simulations_agree.Goals as goal

pub returns : goal.returns
returns c = λ plan scenario netlist one two end set first second.
    let system = plan.system in
    let is_system = set.is_plan.system in
    let well_made = set.is_module.well_made in
    all_agree plan scenario netlist one two end set first second c.states_by_beginnings.ensures.hosts c.states_by_beginnings.ensures.sources
    (c.ends_are_known.ensures.hosts system is_system) (c.ends_are_known.ensures.agents system is_system) (c.streams_are_numbered.ensures.numbers system is_system)
    (c.streams_are_numbered.ensures.links system is_system) (c.signals.ensures.input netlist well_made) (c.agree.ensures netlist well_made)
    (λ x y a b. c.follow.ensures.first netlist x y set.is_module a b) (λ x y x_next y_next. c.follow.ensures.next netlist x y x_next y_next set.is_module)
