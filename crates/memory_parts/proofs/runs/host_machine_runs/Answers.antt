use Rattle.std.proofs.Common.{refl}
use Rattle.memory_parts.specs.HostRun.{host_registers}
use Rattle.memory_parts.proofs.MachineRuns.{host_runs}
use Rattle.memory_parts.proofs.runs.host_machine_runs.Goals as goal

pub returns : goal.returns
returns c = λ responses side inputs end. host_runs responses side inputs end (host_registers responses side inputs) refl (λ c. refl)
