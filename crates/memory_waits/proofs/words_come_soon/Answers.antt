use Rattle.memory_waits.proofs.AgentWords.{come_soon}
use Rattle.memory_waits.proofs.words_come_soon.Goals as goal

pub returns : goal.returns
returns c = λ responses system run inside states ranks end agent built legal there.
    let way = (c.machines_keep_their_records.ensures.awake responses system run inside states ranks end built legal).agents agent there in
    let part = way.parts.awake.agent_part in
    come_soon responses system run agent (inside.lower agent 0) (states.agent agent) end (built.machines.agent agent there) part.legal part.accepted
    (λ has. c.words_go_up.ensures responses system run inside states ranks end agent built legal there has)
