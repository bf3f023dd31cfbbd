use Rattle.memory_awake.proofs.Ahead.{accepted_within}
use Rattle.memory_awake.proofs.asked_agent_accepts.Goals as goal

pub returns : goal.returns
returns c = λ system run agent ways standings host from size end fits low large share keeps ahead has alike can.
    accepted_within (record { seats = c.turns_keep_seats.ensures.seats; asked = c.turns_keep_seats.ensures.asked }) system run agent ways standings end share keeps ahead alike host from size low fits large has can
