use Rattle.std.proofs.Common.{◌+◌}
use Rattle.memory_parts.specs.SystemRun.{plain_system}
use Rattle.memory_awake.proofs.plain.plain_systems_are_awake.Goals as goal

pub returns-clause-safe : goal.returns-clause-safe
returns-clause-safe c = λ responses plan outside end is_plan one views quiet legal.
    let built = c.plain_systems_are_built.ensures responses plan outside end is_plan one views quiet legal in
    c.machines_are_awake.ensures.safe responses (plain_system plan) _ _ _ _ end built.1 legal

pub returns-clause-awake : goal.returns-clause-awake
returns-clause-awake c = λ responses plan outside end is_plan one views quiet legal.
    let built = c.plain_systems_are_built.ensures responses plan outside (end + 2) is_plan one views quiet legal in
    c.machines_are_awake.ensures.awake responses (plain_system plan) _ _ _ _ end built.1 legal
