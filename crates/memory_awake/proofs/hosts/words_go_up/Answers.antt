use Rattle.memory_awake.proofs.HostSends.{sends}
use Rattle.memory_awake.proofs.hosts.words_go_up.Goals as goal

pub returns : goal.returns
returns c = λ responses system run inside states ranks end agent built legal there has.
    let way = (c.machines_keep_their_records.ensures.awake responses system run inside states ranks end built legal).agents agent there in
    let part = way.parts.awake.agent_part in
    sends responses system run agent (inside.lower agent 0) (states.agent agent) end (built.machines.agent agent there) part.legal part.accepted has
