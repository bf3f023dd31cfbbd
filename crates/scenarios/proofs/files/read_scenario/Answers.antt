use Rattle.std.proofs.Common.{subst, sym, ◌∙◌}
use Rattle.waves.specs.Cuts.{lines}
use Rattle.scenarios.proofs.Reading.{IsReadTo, before_lines, next_line, all_lines, file_fits}
use Rattle.scenarios.proofs.files.read_scenario.Goals as goal

pub lines-init : goal.lines-init
lines-init c =
    subst (λ left. IsReadTo c.args.plan.now.system c.args.bytes.now 1 c.in_ok-so_far.so_far left) (sym c.of-lines.ensures)
    (subst (λ so_far. IsReadTo c.args.plan.now.system c.args.bytes.now 1 so_far (lines c.args.bytes.now)) (sym c.in_ok-so_far.ensures) (before_lines c.args.plan.now.system c.args.bytes.now))

pub lines-preserved : goal.lines-preserved
lines-preserved c =
    next_line c.args.plan.now.system c.args.bytes.now c.lines.number c.lines.so_far c.read_line.new.so_far c.lines.lines c.next.new.self c.in-Some.line.now c.lines.invariant c.in-Some.ensures c.in-Ok.ensures.ok

pub returns-clause-fits : goal.returns-clause-fits
returns-clause-fits c =
    file_fits c.args.plan.now.system c.args.bytes.now c.in-Some-scenario.scenario
    (all_lines c.args.plan.now.system c.args.bytes.now c.lines.number c.lines.so_far c.lines.lines c.in-Some-scenario.scenario c.lines.invariant c.in_default.ensures (sym c.scenario.ensures ∙ c.in-Some-scenario.is))
