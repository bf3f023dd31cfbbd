use Rattle.std.proofs.Common.{refl}
use Rattle.memory_parts.specs.ArbiterRun.{arbiter_registers}
use Rattle.memory_parts.proofs.MachineRuns.{arbiter_runs}
use Rattle.memory_parts.proofs.runs.arbiter_machine_runs.Goals as goal

pub returns : goal.returns
returns c = λ seats hosts inputs end. arbiter_runs seats hosts inputs end (arbiter_registers seats inputs) refl (λ c. refl)
