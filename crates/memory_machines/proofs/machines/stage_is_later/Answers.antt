use Rattle.memory_machines.proofs.Stage.{stage_is_later}
use Rattle.memory_machines.proofs.machines.stage_is_later.Goals as goal

pub returns : goal.returns
returns c = λ stage. stage_is_later stage.depth stage.shape stage.sides.commands_above stage.sides.commands_below stage.sides.answers_above stage.sides.answers_below stage.queue
