use Rattle.stream_machines.proofs.machines.filter_is_a_stage.Goals as goal
use Rattle.stream_machines.proofs.WiresLaw

pub returns-clause-keeps : goal.returns-clause-keeps
returns-clause-keeps c = WiresLaw.filter_keeps

pub returns-clause-ready : goal.returns-clause-ready
returns-clause-ready c = WiresLaw.filter_passes_ready

pub returns-clause-asks : goal.returns-clause-asks
returns-clause-asks c = WiresLaw.filter_asks
