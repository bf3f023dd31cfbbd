use Rattle.link_core.proofs.LineBetween.{stage_line_between}
use Rattle.link_core.proofs.StagesInRow.{stage_machines_between}
use Rattle.link_core.proofs.delay.PipeStageDelay.line.Goals as goal

pub returns-clause-line : goal.returns-clause-line
returns-clause-line c form from to kept wait up answer back netlist p f b run endless = stage_line_between form from to kept wait up answer back netlist run p f b endless c.stage_keeps_its_line.ensures

pub returns-clause-machines : goal.returns-clause-machines
returns-clause-machines c form from to kept wait up answer back netlist p f b run endless = stage_machines_between form from to kept wait up answer back netlist run p f b endless
