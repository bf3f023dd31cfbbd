use Rattle.stream_machines.proofs.machines.register_is_a_stage.Goals as goal
use Rattle.stream_machines.proofs.BuffersLaw

pub returns : goal.returns
returns c = BuffersLaw.register_keeps
