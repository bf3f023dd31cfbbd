use Rattle.memory_awake.proofs.Passing.{stage_passes, wire_passes}
use Rattle.memory_awake.proofs.stages_pass_on.Goals as goal

pub returns-clause-stage : goal.returns-clause-stage
returns-clause-stage c = stage_passes

pub returns-clause-wire : goal.returns-clause-wire
returns-clause-wire c = wire_passes
