use Rattle.std.proofs.Common.{refl}
use Rattle.memory_parts.specs.AgentRun.{agent_registers}
use Rattle.memory_parts.proofs.MachineRuns.{agent_runs}
use Rattle.memory_parts.proofs.runs.agent_machine_runs.Goals as goal

pub returns : goal.returns
returns c = λ responses side inputs end suits. agent_runs responses side inputs end suits (agent_registers responses side inputs) refl (λ c. refl)
