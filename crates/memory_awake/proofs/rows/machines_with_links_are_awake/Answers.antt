use Rattle.std.proofs.Common.{◌+◌}
use Rattle.memory_awake.specs.RowSystem.{boundaries_of}
use Rattle.memory_awake.proofs.rows.machines_with_links_are_awake.Goals as goal

pub returns-clause-safe : goal.returns-clause-safe
returns-clause-safe c = λ responses system run ports states end plan machines rows legal.
    let built = c.machines_with_links_are_built.ensures.built responses system run ports states end plan machines rows legal in
    c.machines_are_awake.ensures.safe responses system run (boundaries_of ports) states built.0 end built.1 legal

pub returns-clause-awake : goal.returns-clause-awake
returns-clause-awake c = λ responses system run ports states end plan machines rows legal.
    let built = c.machines_with_links_are_built.ensures.built responses system run ports states (end + 2) plan machines rows legal in
    c.machines_are_awake.ensures.awake responses system run (boundaries_of ports) states built.0 end built.1 legal
