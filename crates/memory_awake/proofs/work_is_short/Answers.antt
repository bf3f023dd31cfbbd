use Rattle.memory_awake.proofs.Assemble.{work_is_short}
use Rattle.memory_awake.proofs.work_is_short.Goals as goal

pub returns : goal.returns
returns c = λ system run agent ways standings host from size end fits share keeps at_work.
    work_is_short (record { stuck = c.stuck_is_short.ensures; lasts = c.work_lasts.ensures; turns = record { seats = c.turns_keep_seats.ensures.seats; asked = c.turns_keep_seats.ensures.asked } }) system run agent ways standings host from size end fits share keeps at_work
