use Rattle.memory_parts.proofs.SystemRuns.{system_runs}
use Rattle.memory_parts.proofs.system.systems_of_machines_run.Goals as goal

pub returns : goal.returns
returns c = system_runs (record { row = c.wire_is_a_row.ensures.row; pipe = c.registers_are_a_pipe.ensures.none })
