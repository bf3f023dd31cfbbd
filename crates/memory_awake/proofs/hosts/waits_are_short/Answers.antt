use Rattle.memory_awake.proofs.Arbiter.{TurnLaws}
use Rattle.memory_awake.proofs.HostWaits.{few_beats, few_cycles}
use Rattle.memory_awake.proofs.hosts.waits_are_short.Goals as goal

pub returns : goal.returns
returns c = λ system agent up down end longest rest host from size good rank pace part share beats joined low fits waits paced.
    let laws : TurnLaws = record { seats = c.turns_keep_seats.ensures.seats; asked = c.turns_keep_seats.ensures.asked } in (
      few_beats laws system agent up down end part share good longest rest beats host joined low rank pace from size fits waits paced,
      few_cycles laws system agent up down end part share good longest rest beats host joined low rank pace from size fits waits paced,
    )
