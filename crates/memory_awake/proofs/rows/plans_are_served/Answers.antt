use Rattle.std.proofs.Common.{refl}
use Rattle.memory_awake.specs.LinkSystem.{links_for}
use Rattle.memory_awake.proofs.rows.plans_are_served.Goals as goal

pub returns-clause-safe : goal.returns-clause-safe
returns-clause-safe c = λ responses system outside end is_plan none. c.linked_systems_are_awake.ensures.safe responses (links_for system) outside end is_plan (c.plans_have_links.ensures system is_plan none)

pub returns-clause-awake : goal.returns-clause-awake
returns-clause-awake c = λ responses system outside end is_plan none. c.linked_systems_are_awake.ensures.awake responses (links_for system) outside end is_plan (c.plans_have_links.ensures system is_plan none)

-- beats are dropped below hosts with byte enables alone
pub returns-clause-fair : goal.returns-clause-fair
returns-clause-fair c = λ responses system outside end is_plan none fit legal apart.
    c.linked_systems_are_fair.ensures responses (links_for system) outside end is_plan (c.plans_have_links.ensures system is_plan none) fit legal apart (λ h a there joined lacks bursts. rw (joined, lacks) refl)
