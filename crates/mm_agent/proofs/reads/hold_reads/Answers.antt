use Rattle.mm_agent.specs.Reads.{read_queue_lasts}
use Rattle.mm_agent.proofs.reads.hold_reads.Goals as goal

pub returns-in_ok-shown-in-Some-clause-held : goal.returns-in_ok-shown-in-Some-clause-held
returns-in_ok-shown-in-Some-clause-held c = record {
  is = read_queue_lasts _ _ _ _ (rw c.in-Some.is at c.requires.queue) c.unless.ensures.adds.grows.extends;
  shows = c.in_ok-shown-in-Some.ensures.value;
}
