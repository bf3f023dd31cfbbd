use Rattle.stage_core.specs.Between.{pass_between}
use Rattle.stage_core.proofs.pass.PassStage.law.Goals as goal

pub returns-clause-keeps : goal.returns-clause-keeps
returns-clause-keeps c shape from to kept ready up netlist p f b run endless = pass_between shape from to ready up run p f b c.pass_is_a_stage.ensures.keeps
