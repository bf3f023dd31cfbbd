use Rattle.std.proofs.Common.{refl}
use Rattle.memory_runs.specs.Views.Responses.{AreZero}
use Rattle.runs_tests.specs.LongRows.{long_plan, long_run, long_ports, long_states, long_outside}
use Rattle.runs_tests.proofs.memory.LongKept.{is_plan, suits, fit, fair_row, legal}
use Rattle.runs_tests.proofs.memory.rows.long_rows_keep_all.Goals as goal

pub returns-clause-planned : goal.returns-clause-planned
returns-clause-planned c = (c.linked_systems_run.ensures AreZero long_plan long_outside 15 is_plan suits fit).0

pub returns-clause-machines : goal.returns-clause-machines
returns-clause-machines c = (c.linked_systems_run.ensures AreZero long_plan long_outside 15 is_plan suits fit).1

pub returns-clause-rows : goal.returns-clause-rows
returns-clause-rows c = (c.linked_systems_run.ensures AreZero long_plan long_outside 15 is_plan suits fit).2

pub returns-clause-legal : goal.returns-clause-legal
returns-clause-legal c = legal

pub returns-clause-fair_rows : goal.returns-clause-fair_rows
returns-clause-fair_rows c = fair_row

pub returns-clause-safe : goal.returns-clause-safe
returns-clause-safe c =
    let all = c.linked_systems_run.ensures AreZero long_plan long_outside 15 is_plan suits fit in
    c.machines_with_links_are_awake.ensures.safe AreZero long_plan.system long_run long_ports long_states 15 all.0 all.1 all.2 legal

pub returns-clause-awake : goal.returns-clause-awake
returns-clause-awake c =
    let all = c.linked_systems_run.ensures AreZero long_plan long_outside 15 is_plan suits fit in
    c.machines_with_links_are_awake.ensures.awake AreZero long_plan.system long_run long_ports long_states 13 all.0 all.1 all.2 legal

pub returns-clause-fair : goal.returns-clause-fair
returns-clause-fair c =
    let all = c.linked_systems_run.ensures AreZero long_plan long_outside 15 is_plan suits fit in
    c.machines_with_links_are_fair.ensures AreZero long_plan.system long_run long_ports long_states 15 all.0 all.1 all.2 legal (λ agent there. refl) fair_row
