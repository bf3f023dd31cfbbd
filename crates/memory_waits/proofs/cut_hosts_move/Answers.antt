use Rattle.std.proofs.Common.{◌+◌, arith}
use Rattle.memory_machines.specs.Lines.{target_of}
use Rattle.memory_runs.specs.Onward.{longest_of}
use Rattle.memory_waits.proofs.Joined.{cuts_lead}
use Rattle.memory_waits.proofs.cut_hosts_move.Goals as goal

pub returns : goal.returns
returns c = λ responses system run inside states ranks end agent host middle built legal there cuts wires joined low.
    let have = c.neighbours_take_few_steps.ensures.cut responses system run inside states ranks (end + 2) agent middle built legal there cuts wires in
    let top = c.routes_take_few_steps.ensures responses system run inside states ranks (end + 2) agent host built legal there low in
    let leads = cuts_lead (target_of system agent) (inside.upper host agent (inside.links host agent)) (middle host) (inside.upper host agent 0) (longest_of system host) (end + 2) (cuts host joined) (wires host joined)
    (λ k fit shown kind. (let count = top.2.few k fit shown kind in let all = top.1.few k (omega (arith, fit)) in omega (arith, count, all))) in
    c.hosts_beside_links_move.ensures.good responses system run inside states ranks end agent host (longest_of system host) leads.0 (longest_of system) have.0 built legal there leads.1 have.1 joined low
