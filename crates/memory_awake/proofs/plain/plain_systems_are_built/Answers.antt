use Rattle.memory_awake.proofs.BuiltRuns.{Laws, built}
use Rattle.memory_awake.proofs.plain.plain_systems_are_built.Goals as goal

pub returns : goal.returns
returns c = λ responses plan outside end is_plan one views quiet legal.
    built laws responses plan outside end is_plan views (c.systems_of_machines_run.ensures responses plan outside end is_plan one views) quiet legal
  where
    laws : Laws
    laws = record {
      planned = c.memory_plans_are_planned.ensures;
      reads_words = c.plans_suit_machines.ensures.hosts;
      settle = c.machines_settle.ensures;
      going = c.wires_keep_going.ensures;
      pass = c.stages_pass_on.ensures.wire;
    }
