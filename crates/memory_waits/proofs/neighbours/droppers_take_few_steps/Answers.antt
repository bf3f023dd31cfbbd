use Rattle.std.proofs.Common.{ℕ, ◌<◌, arith}
use Rattle.memory_waits.proofs.Drops.{steps_below, drop_has_steps_left, none_read, none_gone_above}
use Rattle.memory_waits.proofs.neighbours.droppers_take_few_steps.Goals as goal

pub returns-clause-steps : goal.returns-clause-steps
returns-clause-steps c = λ target room up down state good longest rest end plan some runs alike legal owed quiet has.
    let apart = c.drop_owes_its_words.ensures.apart target room up down state end plan runs legal owed in
    let below = c.drop_brings_lanes.ensures.legal target room up down state end plan runs legal in
    let fine = λ (k : ℕ) (fit : k < end) (is : _). none_read target room up down state end plan runs legal owed apart k (omega (arith, fit)) (quiet k fit is) in (
      steps_below target room up down state end plan runs legal alike good longest rest some fine below has,
      drop_has_steps_left target room up down state end plan runs legal alike good longest rest some fine below has,
    )

pub returns-clause-quiet : goal.returns-clause-quiet
returns-clause-quiet c = λ target room up down state end k plan runs legal owed fit.
    none_gone_above target room up down state end plan runs legal owed (c.drop_owes_its_words.ensures.apart target room up down state end plan runs legal owed) k fit
