use Rattle.runs_tests.proofs.memory.AheadKept.{travel_leads, travel_asked}
use Rattle.runs_tests.proofs.memory.awake.reads_travel.Goals as goal

pub returns-clause-leads : goal.returns-clause-leads
returns-clause-leads c = travel_leads

pub returns-clause-asked : goal.returns-clause-asked
returns-clause-asked c = travel_asked
