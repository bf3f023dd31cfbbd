use Rattle.stream_machines.proofs.machines.narrow_is_a_stage.Goals as goal
use Rattle.stream_machines.proofs.NarrowLaw

pub returns-clause-keeps : goal.returns-clause-keeps
returns-clause-keeps c = NarrowLaw.narrow_keeps

pub returns-clause-ready : goal.returns-clause-ready
returns-clause-ready c = NarrowLaw.narrow_passes_ready
