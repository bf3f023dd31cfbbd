use Rattle.st_format.proofs.ReorderLaw.{reorder_between, reorder_ready, turns_ignores}
use Rattle.st_format.proofs.reorder.ReorderStage.law.Goals as goal

pub returns-clause-keeps : goal.returns-clause-keeps
returns-clause-keeps c shape from to kept ready up netlist p f b run endless =
    reorder_between shape c.args.self.now.symbols c.args.self.now.bits from to ready up netlist run p f b endless c.words_fit.ensures.turned c.reorder_is_a_stage.ensures.keeps

pub returns-clause-ready : goal.returns-clause-ready
returns-clause-ready c shape from to kept ready up netlist p f b run endless =
    reorder_ready shape c.args.self.now.symbols c.args.self.now.bits from to ready up netlist run p f b endless c.words_fit.ensures.turned c.reorder_is_a_stage.ensures.ready

pub returns-clause-ignores_ready : goal.returns-clause-ignores_ready
returns-clause-ignores_ready c from to kept netlist f one other v w state words same = turns_ignores c.args.self.now.symbols c.args.self.now.bits from to netlist one other f v w same
