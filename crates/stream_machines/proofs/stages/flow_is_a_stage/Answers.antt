use Rattle.stream_machines.proofs.stages.flow_is_a_stage.Goals as goal
use Rattle.stream_machines.proofs.FlowKeeps

pub returns : goal.returns
returns c = FlowKeeps.flow_keeps
