use Rattle.mm_gather.proofs.GatherRun.{gather_between, gather_runs_between, gather_ignores}
use Rattle.mm_gather.proofs.gather.GatherLink.law.Goals as goal

pub returns-clause-keeps : goal.returns-clause-keeps
returns-clause-keeps c form from to kept wait up answer back netlist p f b run endless end asked =
    gather_between c.args.self.now form from to kept wait up answer back netlist p f b run endless c.gather_is_a_link.ensures end asked

pub returns-clause-machine : goal.returns-clause-machine
returns-clause-machine c form from to kept wait up answer back netlist p f b run endless = gather_runs_between c.args.self.now form from to kept wait up answer back netlist p f b run endless

pub returns-clause-straight : goal.returns-clause-straight
returns-clause-straight c form from to kept wait up answer back netlist p f b run endless end asked = absurd p

pub returns-clause-ignores_answer : goal.returns-clause-ignores_answer
returns-clause-ignores_answer c from to kept netlist f one other v w state words same = gather_ignores c.args.self.now from to kept netlist f one other v w state same
