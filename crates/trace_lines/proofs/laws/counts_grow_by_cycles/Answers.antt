use Rattle.trace_lines.proofs.CountLemmas.{no_counts, counts_next}
use Rattle.trace_lines.proofs.laws.counts_grow_by_cycles.Goals as goal

pub returns-clause-first : goal.returns-clause-first
returns-clause-first c = no_counts

pub returns-clause-next : goal.returns-clause-next
returns-clause-next c = counts_next
