use Rattle.std.proofs.Common.{ap}
use Rattle.netlist.specs.Nets.{NetValue}
use Rattle.st_channel.proofs.FilterLaw.{filter_between, filter_ready, filter_ignores}
use Rattle.st_channel.proofs.filter.ChannelFilterStage.law.Goals as goal

pub returns-clause-keeps : goal.returns-clause-keeps
returns-clause-keeps c shape from to kept ready up netlist p f b run endless =
    filter_between c.args.self.now shape from to kept ready up netlist run p f b endless c.filter_is_a_stage.ensures.keeps c.pass_is_a_stage.ensures.keeps

pub returns-clause-ready : goal.returns-clause-ready
returns-clause-ready c shape from to kept ready up netlist p f b run endless = filter_ready c.args.self.now shape from to kept ready up netlist run p f b endless c.filter_is_a_stage.ensures.ready

pub returns-clause-shown : goal.returns-clause-shown
returns-clause-shown c kept ready up netlist wire b run endless n = ap (λ (net : NetValue). run.net n net.number) (b.wire wire)

pub returns-clause-ignores_ready : goal.returns-clause-ignores_ready
returns-clause-ignores_ready c from to kept netlist f one other v w state words same = filter_ignores c.args.self.now from to kept netlist one other f v w same
