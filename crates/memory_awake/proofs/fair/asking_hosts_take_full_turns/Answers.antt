use Rattle.memory_awake.proofs.FairArbiter.{turns_are_full}
use Rattle.memory_awake.proofs.fair.asking_hosts_take_full_turns.Goals as goal

pub returns : goal.returns
returns c = λ system agent up down end from size owners share apart arbiter fit ask among.
    turns_are_full (record { seats = c.turns_keep_seats.ensures.seats; asked = c.turns_keep_seats.ensures.asked }) system agent up down end share apart arbiter from size fit ask owners among
