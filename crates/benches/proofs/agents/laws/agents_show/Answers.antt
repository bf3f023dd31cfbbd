use Rattle.benches.proofs.agents.Showing.{fits_at_first, fits_once_answered, shown_as_defined}
use Rattle.benches.proofs.agents.laws.agents_show.Goals as goal

pub returns-clause-fits : goal.returns-clause-fits
returns-clause-fits c = fits_at_first c.stand_ins_stand_for_runs.ensures.shows c.shown_agents_fit.ensures.shown c.shown_agents_fit.ensures.wordless

pub returns-clause-fits_answered : goal.returns-clause-fits_answered
returns-clause-fits_answered c = fits_once_answered c.stand_ins_stand_for_runs.ensures.shows c.shown_agents_fit.ensures.shown

pub returns-clause-as_defined : goal.returns-clause-as_defined
returns-clause-as_defined c = shown_as_defined c.stand_ins_stand_for_runs.ensures.shows
