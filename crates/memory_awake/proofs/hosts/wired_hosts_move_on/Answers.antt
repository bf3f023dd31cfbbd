use Rattle.std.proofs.Common.{◌+◌}
use Rattle.memory_runs.specs.Onward.{longest_of}
use Rattle.memory_awake.proofs.hosts.wired_hosts_move_on.Goals as goal

pub returns-clause-moves : goal.returns-clause-moves
returns-clause-moves c = λ responses system run inside states ranks end agent host built legal there none wired sends joined low.
    let have = c.neighbours_take_few_steps.ensures.wired responses system run inside states ranks (end + 2) agent built legal there wired in
    c.hosts_beside_links_move_on.ensures.moves responses system run inside states ranks end agent host (longest_of system) have.0 built legal there none (wired host joined) have.1 sends joined low

pub returns-clause-standing : goal.returns-clause-standing
returns-clause-standing c = λ responses system run inside states ranks end agent host built legal there wired joined low.
    let have = c.neighbours_take_few_steps.ensures.wired responses system run inside states ranks (end + 2) agent built legal there wired in
    c.hosts_beside_links_move_on.ensures.standing responses system run inside states ranks end agent host (longest_of system) have.0 built legal there (wired host joined) have.1 joined low

pub returns-clause-prompt : goal.returns-clause-prompt
returns-clause-prompt c = λ responses system run inside states ranks end agent host from size number late built legal there wired joined low some prompt fits standing.
    let have = c.neighbours_take_few_steps.ensures.wired responses system run inside states ranks (end + 2) agent built legal there wired in
    c.hosts_beside_links_move_on.ensures.prompt responses system run inside states ranks end agent host from size number late (longest_of system) have.0 built legal there (wired host joined) have.1 joined low some prompt fits standing

pub returns-clause-accepts : goal.returns-clause-accepts
returns-clause-accepts c = λ responses system run inside states ranks end agent host late built legal there wired joined low some prompt.
    let have = c.neighbours_take_few_steps.ensures.wired responses system run inside states ranks (end + 2) agent built legal there wired in
    c.hosts_beside_links_move_on.ensures.accepts responses system run inside states ranks end agent host late (longest_of system) have.0 built legal there (wired host joined) have.1 joined low some prompt
