use Rattle.st_windows.proofs.WindowLaw.{window_between, window_ignores}
use Rattle.st_windows.proofs.window.WindowStage.law.Goals as goal

pub returns-clause-ignores_ready : goal.returns-clause-ignores_ready
returns-clause-ignores_ready c from to kept netlist f one other v w state words same = window_ignores c.args.self.now.sizes from to kept netlist one other f v w state same

pub returns-clause-keeps : goal.returns-clause-keeps
returns-clause-keeps c shape from to kept ready up netlist p f b run endless =
    window_between c.args.self.now.sizes shape from to kept ready up netlist run p f b endless c.window_is_a_stage.ensures.keeps
