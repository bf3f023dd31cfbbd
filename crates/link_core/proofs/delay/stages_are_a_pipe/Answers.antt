use Rattle.link_core.proofs.StagesAsPipe.{has_pipe}
use Rattle.link_core.proofs.delay.stages_are_a_pipe.Goals as goal

pub returns : goal.returns
returns c = λ stages up down runs same tag rise. has_pipe stages up down runs same tag rise
