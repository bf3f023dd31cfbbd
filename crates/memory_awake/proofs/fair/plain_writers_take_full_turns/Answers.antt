use Rattle.memory_awake.proofs.FairWrites.{all_ask}
use Rattle.memory_awake.proofs.fair.plain_writers_take_full_turns.Goals as goal

pub returns : goal.returns
returns c = λ responses system run inside states ranks end agent from size owners built legal there hands fit writes finished among.
    let parts = c.machines_keep_their_records.ensures.parts responses system run inside states ranks end built legal in
    let ask = all_ask system run inside agent from size end fit hands
    (λ h k joined low shown. let here = built.plan.joined agent h joined in
    c.plain_writes_go_on.ensures.route system run h agent (inside.after_host h) (λ a. inside.upper h a (inside.links h a)) end there (parts.host h here) (parts.route h here) k low shown) writes finished in
    c.asking_hosts_take_full_turns.ensures system agent (λ h. inside.upper h agent 0) (inside.lower agent system.stages) end from size owners (built.plan.shares agent there) hands.apart (parts.arbiter agent there) fit ask among
