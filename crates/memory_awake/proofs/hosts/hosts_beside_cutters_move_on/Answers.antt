use Rattle.std.proofs.Common.{◌+◌}
use Rattle.memory_runs.specs.Onward.{longest_of}
use Rattle.memory_awake.proofs.hosts.hosts_beside_cutters_move_on.Goals as goal

pub returns-clause-standing : goal.returns-clause-standing
returns-clause-standing c = λ responses system run inside states ranks end agent host middle built legal there cuts wires wire joined low.
    let have = c.neighbours_take_few_steps.ensures.cut responses system run inside states ranks (end + 2) agent middle built legal there cuts wires in
    c.hosts_beside_links_move_on.ensures.standing responses system run inside states ranks end agent host (longest_of system) have.0 built legal there wire have.1 joined low

pub returns-clause-prompt : goal.returns-clause-prompt
returns-clause-prompt c = λ responses system run inside states ranks end agent host from size number late middle built legal there cuts wires wire joined low some prompt fits standing.
    let have = c.neighbours_take_few_steps.ensures.cut responses system run inside states ranks (end + 2) agent middle built legal there cuts wires in
    c.hosts_beside_links_move_on.ensures.prompt responses system run inside states ranks end agent host from size number late (longest_of system) have.0 built legal there wire have.1 joined low some prompt fits standing

pub returns-clause-accepts : goal.returns-clause-accepts
returns-clause-accepts c = λ responses system run inside states ranks end agent host late middle built legal there cuts wires wire joined low some prompt.
    let have = c.neighbours_take_few_steps.ensures.cut responses system run inside states ranks (end + 2) agent middle built legal there cuts wires in
    c.hosts_beside_links_move_on.ensures.accepts responses system run inside states ranks end agent host late (longest_of system) have.0 built legal there wire have.1 joined low some prompt
