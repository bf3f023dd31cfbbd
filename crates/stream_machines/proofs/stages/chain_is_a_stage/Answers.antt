use Rattle.stream_machines.proofs.stages.chain_is_a_stage.Goals as goal
use Rattle.stream_machines.proofs.ChainLaw

pub returns-clause-keeps : goal.returns-clause-keeps
returns-clause-keeps c = ChainLaw.chain_keeps

pub returns-clause-ready : goal.returns-clause-ready
returns-clause-ready c = ChainLaw.chain_passes_ready

pub returns-clause-step : goal.returns-clause-step
returns-clause-step c = ChainLaw.chain_step
