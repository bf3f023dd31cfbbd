use Rattle.memory_runs.proofs.going.Resting.{RestLaws, run_further, alike_further, begins_on, shown_on, legal_on}
use Rattle.memory_runs.proofs.going.legal_runs_go_on.Goals as goal

laws : goal.After-same_beginnings → RestLaws
laws c = record { rests = c.components_can_rest.ensures.rests; begins = c.components_can_rest.ensures.begins; shown = c.components_can_rest.ensures.shown; legal = c.same_beginnings.ensures.legal }

pub returns-clause-further : goal.returns-clause-further
returns-clause-further c = run_further

pub returns-clause-alike : goal.returns-clause-alike
returns-clause-alike c = alike_further (laws c)

pub returns-clause-begins : goal.returns-clause-begins
returns-clause-begins c = begins_on (laws c)

pub returns-clause-legal : goal.returns-clause-legal
returns-clause-legal c = legal_on (laws c)

pub returns-clause-shown : goal.returns-clause-shown
returns-clause-shown c = shown_on (laws c)
