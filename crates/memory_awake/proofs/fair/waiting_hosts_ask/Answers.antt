use Rattle.memory_awake.proofs.FairRoom.{room}
use Rattle.memory_awake.proofs.FairWaits.{waits_only}
use Rattle.memory_awake.proofs.fair.waiting_hosts_ask.Goals as goal

pub returns-clause-only : goal.returns-clause-only
returns-clause-only c = waits_only

pub returns-clause-room : goal.returns-clause-room
returns-clause-room c = λ system run host end k legal fit earlier. room system run host end legal k fit earlier

pub returns-clause-asks : goal.returns-clause-asks
returns-clause-asks c = λ responses system run inside states ranks end agent host k built legal there here fit waits quiet.
    let parts = c.machines_keep_their_records.ensures.parts responses system run inside states ranks end built legal in
    let alone = c.asked_words_are_owed.ensures system run host end (legal.hosts host here) agent k fit (waits_only system run agent host k waits) in
    c.host_and_route_keep_nothing_back.ensures.back system run host agent (inside.after_host host) (λ a. inside.upper host a (inside.links host a)) end there (parts.host host here) (parts.route host here) k fit (room system run host end (legal.hosts host here) k fit waits.earlier) alone quiet
