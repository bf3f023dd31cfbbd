use Rattle.std.proofs.Common.{inl, sym, subst, refl, arith}
use Rattle.net_parts.specs.Laws.{grows_without_memory}
use Rattle.mm_host.specs.Reads.{owns_reads}
use Rattle.mm_host.proofs.Memories.{memory_grows_fewer, writes_wait_alike, on_any}
use Rattle.mm_host.proofs.reads.finish_reads.Goals as goal

pub returns-in-Asks-clause-grows : goal.returns-in-Asks-clause-grows
returns-in-Asks-clause-grows c = memory_grows_fewer _ _ _ _ _ _ (omega arith) (omega arith) (grows_without_memory _ _ _ c.finish_asked.ensures.grows)

pub returns-in-Asks-clause-full : goal.returns-in-Asks-clause-full
returns-in-Asks-clause-full c e = let full = c.finish_asked.ensures.full e in inl (omega (arith, full))

pub returns-in-Asks-clause-still_wait_for_write : goal.returns-in-Asks-clause-still_wait_for_write
returns-in-Asks-clause-still_wait_for_write c = writes_wait_alike _ _ c.finish_asked.ensures.grows.memories

pub returns-in-Asks-clause-no_more_wait_for_write : goal.returns-in-Asks-clause-no_more_wait_for_write
returns-in-Asks-clause-no_more_wait_for_write c = on_any c.finish_asked.result _ (writes_wait_alike _ _ (sym c.finish_asked.ensures.grows.memories))

pub returns-in-Counts-clause-grows : goal.returns-in-Counts-clause-grows
returns-in-Counts-clause-grows c = memory_grows_fewer _ _ _ _ _ _ (omega arith) (omega arith) (grows_without_memory _ _ _ c.finish_count.ensures.grows)

pub returns-in-Counts-clause-full : goal.returns-in-Counts-clause-full
returns-in-Counts-clause-full c e = let full = c.finish_count.ensures.full e in inl (omega (arith, full))

pub returns-in-Counts-clause-still_wait_for_write : goal.returns-in-Counts-clause-still_wait_for_write
returns-in-Counts-clause-still_wait_for_write c = writes_wait_alike _ _ c.finish_count.ensures.grows.memories

pub returns-in-Counts-clause-no_more_wait_for_write : goal.returns-in-Counts-clause-no_more_wait_for_write
returns-in-Counts-clause-no_more_wait_for_write c = on_any c.finish_count.result _ (writes_wait_alike _ _ (sym c.finish_count.ensures.grows.memories))

pub returns-in-Queues-clause-grows : goal.returns-in-Queues-clause-grows
returns-in-Queues-clause-grows c = c.finish_queue.ensures.grows

pub returns-in-Queues-clause-full : goal.returns-in-Queues-clause-full
returns-in-Queues-clause-full c = c.finish_queue.ensures.full

pub returns-in-Queues-clause-still_wait_for_write : goal.returns-in-Queues-clause-still_wait_for_write
returns-in-Queues-clause-still_wait_for_write c = c.finish_queue.ensures.still_wait_for_write

pub returns-in-Queues-clause-no_more_wait_for_write : goal.returns-in-Queues-clause-no_more_wait_for_write
returns-in-Queues-clause-no_more_wait_for_write c = c.finish_queue.ensures.no_more_wait_for_write

pub finish_asked-requires-clause-waits : goal.finish_asked-requires-clause-waits
finish_asked-requires-clause-waits c = c.requires.waits _ (subst (λ held. owns_reads held c.in-Asks.asked.number) (sym c.in-Asks.is) refl)

pub finish_count-requires-clause-waits : goal.finish_count-requires-clause-waits
finish_count-requires-clause-waits c = c.requires.waits _ (subst (λ held. owns_reads held c.in-Counts.unanswered.number) (sym c.in-Counts.is) refl)

pub finish_queue-requires-clause-waits : goal.finish_queue-requires-clause-waits
finish_queue-requires-clause-waits c = c.requires.waits _ (subst (λ held. owns_reads held c.in-Queues.unanswered.number) (sym c.in-Queues.is) refl)
