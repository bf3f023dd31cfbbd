use Rattle.stage_core.specs.RegisterLaw.{register_between, register_ready, register_ignores}
use Rattle.stage_core.proofs.register.PipeRegStage.law.Goals as goal

pub returns-clause-keeps : goal.returns-clause-keeps
returns-clause-keeps c shape from to kept ready up netlist p f b run endless =
    register_between shape from to kept ready up netlist run p f b endless c.register_is_a_stage.ensures

pub returns-clause-ready : goal.returns-clause-ready
returns-clause-ready c shape from to kept ready up netlist p f b run endless = register_ready shape from to kept ready up netlist run b endless

pub returns-clause-ignores_ready : goal.returns-clause-ignores_ready
returns-clause-ignores_ready c from to kept netlist f one other v w state words same = register_ignores from to kept netlist one other f state
