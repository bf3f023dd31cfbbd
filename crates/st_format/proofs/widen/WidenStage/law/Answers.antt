use Rattle.st_format.proofs.WidenLaw.{widen_between, widen_ready, widen_ignores}
use Rattle.st_format.proofs.widen.WidenStage.law.Goals as goal

pub returns-clause-keeps : goal.returns-clause-keeps
returns-clause-keeps c shape from to kept ready up netlist p f b run endless =
    widen_between c.args.self.now shape from to kept ready up netlist run p f b endless c.words_fit.ensures.joined c.widen_is_a_stage.ensures.keeps

pub returns-clause-ready : goal.returns-clause-ready
returns-clause-ready c shape from to kept ready up netlist p f b run endless =
    widen_ready c.args.self.now shape from to kept ready up netlist run p f b endless c.words_fit.ensures.joined c.widen_is_a_stage.ensures.ready

pub returns-clause-ignores_ready : goal.returns-clause-ignores_ready
returns-clause-ignores_ready c from to kept netlist f one other v w state words same = widen_ignores c.args.self.now from to kept netlist one other f v w state same
