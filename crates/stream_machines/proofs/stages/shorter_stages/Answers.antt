use Rattle.stream_machines.proofs.stages.shorter_stages.Goals as goal
use Rattle.stream_machines.proofs.AwakeLaw

pub returns : goal.returns
returns c = AwakeLaw.shorter_law
