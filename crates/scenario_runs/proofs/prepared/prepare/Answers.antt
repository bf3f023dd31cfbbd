use Rattle.std.proofs.Common.{inr}
use Rattle.std.proofs.lemmas.Result.{err_from_is_err_and}
use Rattle.scenario_runs.proofs.PreparedLemmas.{scenario_refused, too_long}
use Rattle.scenario_runs.proofs.prepared.prepare.Goals as goal

pub returns-in_err-scenario-clause-fault : goal.returns-in_err-scenario-clause-fault
returns-in_err-scenario-clause-fault c =
    let handed = err_from_is_err_and c.from_residual-in_err-scenario.result c.from_residual-in_err-scenario.ensures.1 in
    rw (handed.1, handed.2)
    (scenario_refused c.args.files.now c.args.bytes.now c.in_ok-plan.plan c.in_err-scenario.field-0.0 c.in_ok-plan.ensures.accepted c.in_err-scenario.ensures.fault)

pub returns-then-count-gt-MOST_VALUES-clause-fault :
    goal.returns-then-count-gt-MOST_VALUES-clause-fault
returns-then-count-gt-MOST_VALUES-clause-fault c =
    inr (too_long c.args.files.now c.args.bytes.now c.in_ok-plan.plan c.in_ok-scenario.scenario _ c.in_ok-plan.ensures.accepted c.in_ok-scenario.ensures.stated
    (cc) c.if-count-gt-MOST_VALUES.true)
