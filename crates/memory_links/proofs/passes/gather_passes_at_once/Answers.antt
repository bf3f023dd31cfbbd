use Rattle.memory_links.proofs.Bounds.{gives_next}
use Rattle.memory_links.proofs.Gathering.{gather_gate}
use Rattle.memory_links.proofs.Shutting.{takes_same}
use Rattle.memory_links.proofs.passes.gather_passes_at_once.Goals as goal

pub returns-clause-takes : goal.returns-clause-takes
returns-clause-takes c = λ target up down many room state plan run k. takes_same (gather_gate room up down state run) k

pub returns-clause-gives : goal.returns-clause-gives
returns-clause-gives c = gives_next
