use Rattle.std.proofs.Common.{refl}
use Rattle.memory_runs.specs.Views.Responses.{AreZero}
use Rattle.runs_tests.specs.WidthSystem.{width_system, width_run, width_ports, width_states}
use Rattle.runs_tests.proofs.memory.WidthKept.{planned, machines, legal, rows, fair_row}
use Rattle.runs_tests.proofs.memory.rows.width_system_keeps_all.Goals as goal

pub returns-clause-planned : goal.returns-clause-planned
returns-clause-planned c = planned

pub returns-clause-machines : goal.returns-clause-machines
returns-clause-machines c = machines

pub returns-clause-rows : goal.returns-clause-rows
returns-clause-rows c = rows (record { split = c.split_runs.ensures; select = c.select_runs.ensures })

pub returns-clause-legal : goal.returns-clause-legal
returns-clause-legal c = legal

pub returns-clause-fair_rows : goal.returns-clause-fair_rows
returns-clause-fair_rows c = fair_row

pub returns-clause-safe : goal.returns-clause-safe
returns-clause-safe c = c.machines_with_links_are_awake.ensures.safe AreZero width_system width_run width_ports width_states 8 planned machines (rows (record { split = c.split_runs.ensures; select = c.select_runs.ensures })) legal

pub returns-clause-awake : goal.returns-clause-awake
returns-clause-awake c = c.machines_with_links_are_awake.ensures.awake AreZero width_system width_run width_ports width_states 6 planned machines (rows (record { split = c.split_runs.ensures; select = c.select_runs.ensures })) legal

pub returns-clause-fair : goal.returns-clause-fair
returns-clause-fair c = c.machines_with_links_are_fair.ensures AreZero width_system width_run width_ports width_states 8 planned machines (rows (record { split = c.split_runs.ensures; select = c.select_runs.ensures })) legal (λ agent there. refl) fair_row
