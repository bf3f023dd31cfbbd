use Rattle.st_format.proofs.NarrowLaw.{narrow_between, narrow_ignores}
use Rattle.st_format.proofs.narrow.NarrowStage.law.Goals as goal

pub returns-clause-keeps : goal.returns-clause-keeps
returns-clause-keeps c shape from to kept ready up netlist p f b run endless =
    narrow_between c.args.self.now.sizes shape from to kept ready up netlist run p f b endless c.words_fit.ensures.pieces c.narrow_is_a_stage.ensures.keeps

pub returns-clause-ignores_ready : goal.returns-clause-ignores_ready
returns-clause-ignores_ready c from to kept netlist f one other v w state words same = narrow_ignores c.args.self.now.sizes from to kept netlist one other f v w state same
