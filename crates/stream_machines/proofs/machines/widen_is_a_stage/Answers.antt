use Rattle.stream_machines.proofs.machines.widen_is_a_stage.Goals as goal
use Rattle.stream_machines.proofs.WidenLaw

pub returns-clause-keeps : goal.returns-clause-keeps
returns-clause-keeps c = WidenLaw.widen_keeps

pub returns-clause-ready : goal.returns-clause-ready
returns-clause-ready c = WidenLaw.widen_passes_ready

pub returns-clause-asks : goal.returns-clause-asks
returns-clause-asks c = WidenLaw.widen_asks

pub returns-clause-rest : goal.returns-clause-rest
returns-clause-rest c = WidenLaw.widen_rests
