use Rattle.memory_machines.proofs.StageRank.{stage_falls}
use Rattle.memory_machines.proofs.machines.stage_has_rank.Goals as goal

pub returns : goal.returns
returns c = λ stage. stage_falls stage.depth stage.shape stage.sides.commands_above stage.sides.commands_below stage.sides.answers_above stage.sides.answers_below stage.queue
