use Rattle.st_timing.proofs.TimingLaw.{timing_between, timing_ready, timing_ignores}
use Rattle.st_timing.proofs.timing.TimingStage.law.Goals as goal

pub returns-clause-keeps : goal.returns-clause-keeps
returns-clause-keeps c shape from to kept ready up netlist p f b run endless =
    timing_between c.args.self.now shape from to kept ready up netlist run p f b endless c.tie_is_a_stage.ensures.keeps c.buffer_is_a_stage.ensures.keeps c.buffer_is_a_stage.ensures.allowance c.pass_is_a_stage.ensures.keeps

pub returns-clause-ready : goal.returns-clause-ready
returns-clause-ready c shape from to kept ready up netlist p f b run endless =
    timing_ready c.args.self.now shape from to kept ready up netlist run p f b endless c.tie_is_a_stage.ensures.ready c.buffer_is_a_stage.ensures.ready c.buffer_is_a_stage.ensures.allowance_ready

pub returns-clause-ignores_ready : goal.returns-clause-ignores_ready
returns-clause-ignores_ready c from to kept netlist f one other v w state words same = timing_ignores c.args.self.now from to kept netlist one other f v w state words same
