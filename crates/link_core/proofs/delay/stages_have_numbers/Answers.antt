use Rattle.link_core.proofs.StagesInRow.{by_number}
use Rattle.link_core.proofs.delay.stages_have_numbers.Goals as goal

pub returns : goal.returns
returns c = λ stages up down run. by_number run
