use Rattle.mm_select.proofs.SelectRun.{select_between, select_runs_between, select_ignores}
use Rattle.mm_select.proofs.select.SelectLink.law.Goals as goal

pub returns-clause-keeps : goal.returns-clause-keeps
returns-clause-keeps c form from to kept wait up answer back netlist p f b run endless end asked =
    select_between c.args.self.now form from to kept wait up answer back netlist p f b run endless c.select_is_a_link.ensures end

pub returns-clause-machine : goal.returns-clause-machine
returns-clause-machine c form from to kept wait up answer back netlist p f b run endless = select_runs_between c.args.self.now form from to kept wait up answer back netlist p f b run endless

pub returns-clause-ignores_answer : goal.returns-clause-ignores_answer
returns-clause-ignores_answer c from to kept netlist f one other v w state words same = select_ignores c.args.self.now from to kept netlist f one other v w state same
