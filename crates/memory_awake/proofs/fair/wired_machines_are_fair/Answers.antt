use Rattle.std.proofs.Common.{arith}
use Rattle.memory_machines.specs.Lines.{target_of}
use Rattle.memory_awake.proofs.Widened.{ends_behind_wire}
use Rattle.memory_awake.proofs.fair.wired_machines_are_fair.Goals as goal

pub returns : goal.returns
returns c = λ responses system run inside states ranks end built legal apart wired.
    c.machines_are_fair.ensures responses system run inside states ranks end built legal
    (λ a there. record { apart = apart a there; links = λ h from k joined fit plainly at. ends_behind_wire (inside.upper h a (inside.links h a)) (inside.upper h a 0) (wired a h there joined) (target_of system a) k (record { shown = at.shown; ends = at.ends; acts = at.acts }) })
    (λ a there. c.wired_hosts_ask_while_waiting.ensures.later 0 30 system run (λ h. inside.upper h a 0) a end (omega arith)
    (c.wired_hosts_ask_while_waiting.ensures.wired responses system run inside states ranks end a built legal there (λ h joined. wired a h there joined)))
