use Rattle.std.proofs.Common.{refl}
use Rattle.memory_runs.specs.Views.Responses.{AreZero}
use Rattle.runs_tests.specs.BurstSystem.{burst_system, burst_run, burst_ports, burst_states}
use Rattle.runs_tests.proofs.memory.BurstKept.{Links, planned, machines, legal, rows, fair_row}
use Rattle.runs_tests.proofs.memory.rows.burst_system_keeps_all.Goals as goal

pub returns-clause-planned : goal.returns-clause-planned
returns-clause-planned c = planned

pub returns-clause-machines : goal.returns-clause-machines
returns-clause-machines c = machines (record { cut = c.cut_runs.ensures; drop = c.drop_runs.ensures; pipe = c.pipe_runs.ensures })

pub returns-clause-rows : goal.returns-clause-rows
returns-clause-rows c = rows (record { cut = c.cut_runs.ensures; drop = c.drop_runs.ensures; pipe = c.pipe_runs.ensures })

pub returns-clause-legal : goal.returns-clause-legal
returns-clause-legal c = legal

pub returns-clause-fair_rows : goal.returns-clause-fair_rows
returns-clause-fair_rows c = fair_row

pub returns-clause-safe : goal.returns-clause-safe
returns-clause-safe c = let links : Links = (record { cut = c.cut_runs.ensures; drop = c.drop_runs.ensures; pipe = c.pipe_runs.ensures }) in c.machines_with_links_are_awake.ensures.safe AreZero burst_system burst_run burst_ports burst_states 12 planned (machines links) (rows links) legal

pub returns-clause-awake : goal.returns-clause-awake
returns-clause-awake c = let links : Links = (record { cut = c.cut_runs.ensures; drop = c.drop_runs.ensures; pipe = c.pipe_runs.ensures }) in c.machines_with_links_are_awake.ensures.awake AreZero burst_system burst_run burst_ports burst_states 10 planned (machines links) (rows links) legal

pub returns-clause-fair : goal.returns-clause-fair
returns-clause-fair c = let links : Links = (record { cut = c.cut_runs.ensures; drop = c.drop_runs.ensures; pipe = c.pipe_runs.ensures }) in c.machines_with_links_are_fair.ensures AreZero burst_system burst_run burst_ports burst_states 12 planned (machines links) (rows links) legal (λ agent there. refl) fair_row
