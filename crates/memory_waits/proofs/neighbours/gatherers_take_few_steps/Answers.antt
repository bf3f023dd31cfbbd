use Rattle.memory_machines.specs.Link.{Target}
use Rattle.memory_waits.proofs.Gathers.{gathered_left, gather_has_steps_left}
use Rattle.memory_waits.proofs.Rows.{few_words}
use Rattle.memory_waits.proofs.neighbours.gatherers_take_few_steps.Goals as goal

pub returns : goal.returns
returns c = λ room many up down state good longest rest end runs deep some legal owed short quiet has.
    let target : Target = record { shape = down.shape; span = 0 } in (
      gathered_left target room many up down state runs end (few_words down end owed) good longest rest deep some short quiet legal has,
      gather_has_steps_left target room many up down state runs end (few_words down end owed) good longest rest deep some short quiet legal has,
    )
