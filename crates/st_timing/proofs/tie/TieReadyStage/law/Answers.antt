use Rattle.st_timing.proofs.TieLaw.{tie_between, tie_ready}
use Rattle.st_timing.proofs.tie.TieReadyStage.law.Goals as goal

pub returns-clause-keeps : goal.returns-clause-keeps
returns-clause-keeps c shape from to kept ready up netlist p f b run endless = tie_between shape from to ready up netlist run p f b endless c.tie_is_a_stage.ensures.keeps

pub returns-clause-ready : goal.returns-clause-ready
returns-clause-ready c shape from to kept ready up netlist p f b run endless = tie_ready shape from to ready up netlist run p f b endless c.tie_is_a_stage.ensures.ready
