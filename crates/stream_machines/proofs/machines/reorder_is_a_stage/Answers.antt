use Rattle.stream_machines.proofs.machines.reorder_is_a_stage.Goals as goal
use Rattle.stream_machines.proofs.WiresLaw

pub returns-clause-keeps : goal.returns-clause-keeps
returns-clause-keeps c = WiresLaw.reorder_keeps

pub returns-clause-ready : goal.returns-clause-ready
returns-clause-ready c = WiresLaw.reorder_passes_ready
