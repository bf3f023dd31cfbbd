use Rattle.st_timing.proofs.DelayLaw.{delay_between, delay_ready, delay_shown, delay_ignores}
use Rattle.st_timing.proofs.delay.ReadyDelayStage.law.Goals as goal

pub returns-clause-keeps : goal.returns-clause-keeps
returns-clause-keeps c shape from to kept ready up netlist p f b run endless =
    delay_between c.args.self.now.up c.args.self.now.cycles shape from to kept ready up netlist run p f b endless c.delay_is_a_stage.ensures

pub returns-clause-ready : goal.returns-clause-ready
returns-clause-ready c shape from to kept ready up netlist p f b run endless = delay_ready c.args.self.now.cycles shape from to kept ready up netlist run p.1 b

pub returns-clause-shown : goal.returns-clause-shown
returns-clause-shown c kept ready up netlist none b run endless n = delay_shown c.args.self.now.cycles kept ready up netlist run n none b

pub returns-clause-ignores_ready : goal.returns-clause-ignores_ready
returns-clause-ignores_ready c from to kept netlist f one other v w state words same = delay_ignores c.args.self.now.up c.args.self.now.cycles from to kept netlist one other f v w state same
