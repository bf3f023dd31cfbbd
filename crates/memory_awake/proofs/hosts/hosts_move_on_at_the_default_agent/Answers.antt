use Rattle.memory_awake.proofs.hosts.hosts_move_on_at_the_default_agent.Goals as goal

pub returns : goal.returns
returns c = λ responses system run inside states ranks end host size built legal low two.
    c.wanted_default_moves_on.ensures system run host size end two (legal.hosts host low) ((c.machines_are_awake.ensures.safe responses system run inside states ranks end built legal).at_hosts host low)
    ((c.machines_keep_their_records.ensures.awake responses system run inside states ranks end built legal).default host low)
