use Rattle.st_channel.proofs.ErrorLaw.{error_between}
use Rattle.st_channel.proofs.error_tie.ErrorTieStage.law.Goals as goal

pub returns-clause-keeps : goal.returns-clause-keeps
returns-clause-keeps c shape from to kept ready up netlist p f b run endless = error_between c.args.self.now.width shape from to ready up netlist run p f b endless c.error_tie_is_a_stage.ensures.keeps
