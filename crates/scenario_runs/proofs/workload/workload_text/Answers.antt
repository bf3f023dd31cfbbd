use Rattle.std.proofs.Common.{subst}
use Rattle.std.proofs.lemmas.Result.{IfOk-weaker}
use Rattle.scenario_tables.specs.declared.scenario.Scenario.{Scenario}
use Rattle.scenario_runs.specs.Workloads.{IsCounted, IsWorkloadText}
use Rattle.scenario_runs.proofs.workload.workload_text.Goals as goal

pub returns : goal.returns
returns c =
    let plan = c.in_ok-plan.plan in
    let counts = c.in_ok-counts.counts in
    IfOk-weaker c.workload_line.result _ (IsWorkloadText c.args.number)
    (λ text is. record {
      plan = plan;
      planned = c.in_ok-plan.ensures.planned;
      workload = c.in_ok-plan.ensures.workload;
      counts = counts;
      counted = subst (λ (s : Scenario). IsCounted plan s counts) c.in_ok-scenario.ensures.drawn c.in_ok-counts.ensures;
      is_text = rw c.weight.ensures.value at is;
    })
    c.workload_line.ensures
