use Rattle.memory_awake.proofs.LinkRuns.{Laws, planned, machines, are_rows}
use Rattle.memory_awake.proofs.rows.linked_systems_run.Goals as goal

pub returns : goal.returns
returns c = λ responses plan outside end is_plan suits fit. (
  planned laws responses plan outside end is_plan suits,
  machines laws responses plan outside end is_plan suits fit,
  are_rows laws responses plan outside end is_plan suits fit,
)
  where
    laws : Laws
    laws = record {
      links = record { cut = c.cut_runs.ensures; select = c.select_runs.ensures; gather = c.gather_runs.ensures; split = c.split_runs.ensures; drop = c.drop_runs.ensures };
      host = c.host_machine_runs.ensures;
      route = c.route_machine_runs.ensures;
      arbiter = c.arbiter_machine_runs.ensures;
      agent = c.agent_machine_runs.ensures;
      agent_side = c.plans_suit_machines.ensures.sides;
      planned = c.memory_plans_are_planned.ensures;
    }
