use Rattle.memory_links.proofs.InStep.{pass_in_step}
use Rattle.memory_links.proofs.rows.pass_goes_in_step.Goals as goal

pub returns : goal.returns
returns c = pass_in_step
