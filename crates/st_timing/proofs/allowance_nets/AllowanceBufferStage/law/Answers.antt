use Rattle.st_timing.proofs.AllowanceLaw.{allowance_between, allowance_ready, allowance_ignores}
use Rattle.st_timing.proofs.allowance_nets.AllowanceBufferStage.law.Goals as goal

pub returns-clause-keeps : goal.returns-clause-keeps
returns-clause-keeps c shape from to kept ready up netlist p f b run endless =
    allowance_between c.args.self.now.latency c.args.self.now.allowance c.args.self.now.some c.args.self.now.larger shape from to kept ready up netlist run p f b endless c.buffer_is_a_stage.ensures.allowance

pub returns-clause-ready : goal.returns-clause-ready
returns-clause-ready c shape from to kept ready up netlist p f b run endless =
    allowance_ready c.args.self.now.latency c.args.self.now.allowance c.args.self.now.some c.args.self.now.larger shape from to kept ready up netlist run p f b endless c.buffer_is_a_stage.ensures.allowance_ready

pub returns-clause-ignores_ready : goal.returns-clause-ignores_ready
returns-clause-ignores_ready c from to kept netlist f one other v w state words same = allowance_ignores c.args.self.now.allowance from to kept netlist one other f v w state words same
