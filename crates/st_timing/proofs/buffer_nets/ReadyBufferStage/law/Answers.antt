use Rattle.st_timing.proofs.BufferLaw.{buffer_between, buffer_ready, buffer_ignores}
use Rattle.st_timing.proofs.buffer_nets.ReadyBufferStage.law.Goals as goal

pub returns-clause-keeps : goal.returns-clause-keeps
returns-clause-keeps c shape from to kept ready up netlist p f b run endless =
    buffer_between c.args.self.now.latency shape from to kept ready up netlist run p f b endless c.buffer_is_a_stage.ensures.keeps

pub returns-clause-ready : goal.returns-clause-ready
returns-clause-ready c shape from to kept ready up netlist p f b run endless =
    buffer_ready c.args.self.now.latency shape from to kept ready up netlist run p f b endless c.buffer_is_a_stage.ensures.ready

pub returns-clause-ignores_ready : goal.returns-clause-ignores_ready
returns-clause-ignores_ready c from to kept netlist f one other v w state words same = buffer_ignores c.args.self.now.latency from to kept netlist one other f v w state words same
