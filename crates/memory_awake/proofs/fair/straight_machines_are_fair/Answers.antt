use Rattle.memory_awake.proofs.fair.straight_machines_are_fair.Goals as goal

pub returns : goal.returns
returns c = λ responses system run inside states ranks end ahead built legal apart leads.
    c.machines_are_fair.ensures responses system run inside states ranks end built legal
    (λ a there. c.straight_links_hand_on.ensures responses system run inside states ranks end a (ahead a) built legal there (apart a there) (λ h joined. leads a h there joined))
    (λ a there. c.prompt_links_ask_within.ensures responses system run inside states ranks end a 30 built legal there (λ h joined. (leads a h there joined).prompt))
