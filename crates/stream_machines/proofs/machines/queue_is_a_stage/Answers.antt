use Rattle.stream_machines.proofs.machines.queue_is_a_stage.Goals as goal
use Rattle.stream_machines.proofs.BuffersLaw

pub returns-clause-keeps : goal.returns-clause-keeps
returns-clause-keeps c = BuffersLaw.queue_keeps

pub returns-clause-ready : goal.returns-clause-ready
returns-clause-ready c = BuffersLaw.queue_passes_ready

pub returns-clause-has_room : goal.returns-clause-has_room
returns-clause-has_room c = BuffersLaw.queue_has_room
