use Rattle.memory_parts.proofs.ArbiterSteps.{arbiter_part}
use Rattle.memory_parts.proofs.steps.arbiter_machine_is_a_part.Goals as goal

pub returns : goal.returns
returns c = λ system agent up down grant end joined silent fit in_order m.
    arbiter_part system agent up down grant end m joined fit silent (c.arbiter_machine_takes_turns.ensures _ system.hosts up down grant end m) in_order
