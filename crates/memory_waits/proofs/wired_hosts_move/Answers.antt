use Rattle.std.proofs.Common.{◌+◌}
use Rattle.memory_runs.specs.Onward.{longest_of}
use Rattle.memory_machines.specs.Lines.{target_of}
use Rattle.memory_waits.proofs.Wire.{wire_leads}
use Rattle.memory_waits.proofs.wired_hosts_move.Goals as goal

pub returns-clause-wired : goal.returns-clause-wired
returns-clause-wired c = λ responses system run inside states ranks end agent host built legal there wired joined low.
    let have = c.neighbours_take_few_steps.ensures.wired responses system run inside states ranks (end + 2) agent built legal there wired in
    c.hosts_beside_links_move.ensures.good responses system run inside states ranks end agent host 0 (λ k. 0) (longest_of system) have.0 built legal there (wire_leads _ _ (wired host joined) (target_of system agent) (end + 2)) have.1 joined low

pub returns-clause-cut : goal.returns-clause-cut
returns-clause-cut c = λ responses system run inside states ranks end agent host middle built legal there cuts wires wire joined low.
    let have = c.neighbours_take_few_steps.ensures.cut responses system run inside states ranks (end + 2) agent middle built legal there cuts wires in
    c.hosts_beside_links_move.ensures.good responses system run inside states ranks end agent host 0 (λ k. 0) (longest_of system) have.0 built legal there (wire_leads _ _ wire (target_of system agent) (end + 2)) have.1 joined low
