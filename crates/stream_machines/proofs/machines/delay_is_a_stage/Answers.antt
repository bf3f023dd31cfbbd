use Rattle.stream_machines.proofs.machines.delay_is_a_stage.Goals as goal
use Rattle.stream_machines.proofs.WiresLaw

pub returns : goal.returns
returns c = WiresLaw.delay_keeps
