use Rattle.std.proofs.Common.{refl}
use Rattle.memory_parts.specs.RouteRun.{route_registers}
use Rattle.memory_parts.proofs.MachineRuns.{route_runs}
use Rattle.memory_parts.proofs.runs.route_machine_runs.Goals as goal

pub returns : goal.returns
returns c = λ responses system host room inputs end. route_runs responses system host room inputs end (route_registers responses system host inputs) refl (λ c. refl)
