use Rattle.stream_machines.proofs.machines.tie_is_a_stage.Goals as goal
use Rattle.stream_machines.proofs.WiresLaw

pub returns-clause-keeps : goal.returns-clause-keeps
returns-clause-keeps c = WiresLaw.tie_keeps

pub returns-clause-ready : goal.returns-clause-ready
returns-clause-ready c = WiresLaw.tie_passes_ready
