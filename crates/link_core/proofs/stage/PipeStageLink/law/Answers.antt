use Rattle.link_core.proofs.StageLaw.{stage_between, stage_runs_between, stage_ignores}
use Rattle.link_core.proofs.stage.PipeStageLink.law.Goals as goal

pub returns-clause-keeps : goal.returns-clause-keeps
returns-clause-keeps c form from to kept wait up answer back netlist p f b run endless end asked =
    stage_between form from to kept wait up answer back netlist run end p f b endless c.stage_is_a_link.ensures

pub returns-clause-ignores_answer : goal.returns-clause-ignores_answer
returns-clause-ignores_answer c from to kept netlist f one other v w state words same = stage_ignores from to kept netlist one other f state

pub returns-clause-machine : goal.returns-clause-machine
returns-clause-machine c form from to kept wait up answer back netlist p f b run endless = stage_runs_between form from to kept wait up answer back netlist run p f b endless
