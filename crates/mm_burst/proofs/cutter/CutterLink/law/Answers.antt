use Rattle.std.specs.Prelude.{false}
use Rattle.mm_burst.proofs.CutterLaw.{cutter_runs, cutter_is, cutter_ignores}
use Rattle.mm_burst.proofs.cutter.CutterLink.law.Goals as goal

pub returns-clause-keeps : goal.returns-clause-keeps
returns-clause-keeps c form from to kept wait up answer back netlist p f b run endless end asked alike =
    let runs = cutter_runs c.args.self.now form from to kept wait up answer back netlist run p f b endless in
    cutter_is form _ _ end p.is (c.cut_is_a_link.ensures _ _ _ _ _ runs.state end runs.plan runs.run)

pub returns-clause-machine : goal.returns-clause-machine
returns-clause-machine c form from to kept wait up answer back netlist p f b run endless =
    cutter_runs c.args.self.now form from to kept wait up answer back netlist run p f b endless

pub returns-clause-straight : goal.returns-clause-straight
returns-clause-straight c form from to kept wait up answer back netlist p f b run endless end asked legal owed alike =
    let runs = cutter_runs c.args.self.now form from to kept wait up answer back netlist run p f b endless in
    record {
      straight = (c.cut_is_straight.ensures _ _ _ _ _ runs.state end runs.plan runs.run 0 false).straight legal owed;
      step = c.cut_goes_in_step.ensures _ _ _ _ _ runs.state end runs.plan runs.run legal owed;
    }

pub returns-clause-ignores_answer : goal.returns-clause-ignores_answer
returns-clause-ignores_answer c from to kept netlist f one other v w state words same =
    cutter_ignores c.args.self.now from to kept netlist one other f v w state same
