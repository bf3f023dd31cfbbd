use Rattle.address_map.proofs.JudgeLemmas.{judged_host, judged_stream}
use Rattle.address_map.proofs.maps.judge.Goals as goal

pub add-requires-clause-host : goal.add-requires-clause-host
add-requires-clause-host c =
    judged_host c.args.system.now c.connections-connections.result.now c.args.hosts.now c.args.k c.in-Some.footprint c.connections-connections.ensures c.requires.hosts c.requires.within c.in-Some.ensures.value c.in-Some.ensures.kind

pub returns-in-None-clause-placed : goal.returns-in-None-clause-placed
returns-in-None-clause-placed c =
    judged_stream c.args.system.now c.connections-connections.result.now c.args.hosts.now c.args.maps.now.items c.args.k c.connections-connections.ensures c.requires.within c.in-None.ensures.value c.requires.placed
