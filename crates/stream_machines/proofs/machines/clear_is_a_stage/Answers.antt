use Rattle.stream_machines.proofs.machines.clear_is_a_stage.Goals as goal
use Rattle.stream_machines.proofs.WiresLaw

pub returns-clause-keeps : goal.returns-clause-keeps
returns-clause-keeps c = WiresLaw.clear_keeps

pub returns-clause-ready : goal.returns-clause-ready
returns-clause-ready c = WiresLaw.clear_passes_ready

pub returns-clause-clears : goal.returns-clause-clears
returns-clause-clears c = WiresLaw.clear_clears
