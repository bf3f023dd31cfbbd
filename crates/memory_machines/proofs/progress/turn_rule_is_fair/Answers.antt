use Rattle.memory_machines.proofs.FairTurns.{turn_rule_is_fair}
use Rattle.memory_machines.proofs.progress.turn_rule_is_fair.Goals as goal

pub returns : goal.returns
returns c = λ seats up down end fair host from size vain. turn_rule_is_fair (record {
  few = c.asking_is_passed_by_few.ensures;
  within = c.passes_within_shares.ensures;
  seats = c.turns_keep_seats.ensures.seats;
  asked = c.turns_keep_seats.ensures.asked;
}) seats up down end fair.rule fair.tags fair.shares host from size vain.seated vain.within vain.asks
