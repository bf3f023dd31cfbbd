use Rattle.std.proofs.Common.{subst, sym}
use Rattle.port_rows.specs.declared.agent_ends.places.AgentPlaces.{AgentPlaces}
use Rattle.port_rows.specs.Agents.{agent_levels}
use Rattle.port_rows.specs.Levels.{AllFit, AllStand}
use Rattle.benches.specs.Agents.{levels_with}
use Rattle.benches.proofs.agents.Outputs.{agent_among, agent_fits}
use Rattle.benches.proofs.agents.laws.agents_take_part.Goals as goal

pub returns-clause-fit : goal.returns-clause-fit
returns-clause-fit c = agent_fits

pub returns-clause-room : goal.returns-clause-room
returns-clause-room c system row number agent answer known same of fits =
    subst (λ (places : AgentPlaces). AllFit row (agent_levels places (levels_with agent answer))) (sym of.places)
    (c.agents_are_shown.ensures.room system row known same of.at.end agent.stand_in.port (levels_with agent answer) (agent_among system number of.at.end of.at.end_is) of.at.is fits)

pub returns-clause-shown : goal.returns-clause-shown
returns-clause-shown c system netlist run cycle row number agent answer of known given fits stand =
    c.agents_are_shown.ensures.shown system netlist run cycle row known given of.at.end agent.stand_in.port (levels_with agent answer) (agent_among system number of.at.end of.at.end_is) of.at.is fits
    (subst (λ (places : AgentPlaces). AllStand row (agent_levels places (levels_with agent answer))) of.places stand)
