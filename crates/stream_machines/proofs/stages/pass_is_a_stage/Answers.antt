use Rattle.stream_machines.proofs.stages.pass_is_a_stage.Goals as goal
use Rattle.stream_machines.proofs.PassLaw

pub returns-clause-keeps : goal.returns-clause-keeps
returns-clause-keeps c = PassLaw.pass_keeps

pub returns-clause-ready : goal.returns-clause-ready
returns-clause-ready c = PassLaw.pass_passes_ready
