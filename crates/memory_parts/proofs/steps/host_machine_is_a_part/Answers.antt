use Rattle.memory_parts.proofs.HostSteps.{host_part}
use Rattle.memory_parts.proofs.steps.host_machine_is_a_part.Goals as goal

pub returns : goal.returns
returns c = λ responses system run host down state end single legal owed m. host_part responses system run host down state end m legal single owed
