use Rattle.stream_machines.proofs.machines.buffer_is_a_stage.Goals as goal
use Rattle.stream_machines.proofs.BuffersLaw

pub returns-clause-keeps : goal.returns-clause-keeps
returns-clause-keeps c = BuffersLaw.ready_buffer_keeps

pub returns-clause-ready : goal.returns-clause-ready
returns-clause-ready c = BuffersLaw.ready_buffer_passes_ready

pub returns-clause-allowance : goal.returns-clause-allowance
returns-clause-allowance c = BuffersLaw.allowance_buffer_keeps

pub returns-clause-allowance_ready : goal.returns-clause-allowance_ready
returns-clause-allowance_ready c = BuffersLaw.allowance_buffer_passes_ready
