use Rattle.std.proofs.Common.{length, ap, arith, inl, inr}
use Rattle.netlist.specs.declared.line.Line.{Line}
use Rattle.net_parts.specs.Growth.{AreMadeBetween, WaitsBeside}
use Rattle.net_parts.specs.Laws.{if_ok, memory_grows_twice, grows_without_memory}
use Rattle.read_queues.specs.Held.{owns_queue, TellsByState}
use Rattle.read_queues.proofs.Runs.{tells_by_state}
use Rattle.net_parts.specs.Refusing.{handed_on}
use Rattle.read_queues.proofs.queue.make_queue.Goals as goal

pub returns-clause-ignores : goal.returns-clause-ignores
returns-clause-ignores c = if_ok c.hold_queue.result _ (TellsByState c.hold_queue.new.builder) (tells_by_state c.hold_queue.new.builder) c.hold_queue.ensures.made

pub returns-clause-owned : goal.returns-clause-owned
returns-clause-owned c =
    let lines = ap (length {A = Line}) c.make_memory.ensures.lines in
    if_ok c.hold_queue.result _ (λ held. AreMadeBetween (owns_queue held) c.args.builder.now c.hold_queue.new.builder)
    (λ held owned n o. (let at = owned n o in (omega (arith, at.0, lines), at.1)))
    c.hold_queue.ensures.owned

pub returns-clause-grows : goal.returns-clause-grows
returns-clause-grows c = memory_grows_twice _ _ _ _ _ _ _ c.make_memory.ensures.grows (grows_without_memory _ _ _ c.hold_queue.ensures.grows)

pub returns-clause-made : goal.returns-clause-made
returns-clause-made c = c.hold_queue.ensures.made

pub returns-clause-bound : goal.returns-clause-bound
returns-clause-bound c = c.hold_queue.ensures.bound

pub returns-clause-tag : goal.returns-clause-tag
returns-clause-tag c = c.hold_queue.ensures.tag

pub returns-clause-kind : goal.returns-clause-kind
returns-clause-kind c = c.hold_queue.ensures.kind

pub returns-clause-still_wait : goal.returns-clause-still_wait
returns-clause-still_wait c n w = c.hold_queue.ensures.still_wait n (c.make_memory.ensures.still_wait n w)

pub returns-in_err-memory-clause-still_wait : goal.returns-in_err-memory-clause-still_wait
returns-in_err-memory-clause-still_wait c n w = c.make_memory.ensures.still_wait n w

pub returns-in_err-memory-clause-still_wait_for_write : goal.returns-in_err-memory-clause-still_wait_for_write
returns-in_err-memory-clause-still_wait_for_write c m w = c.make_memory.ensures.still_wait_for_write m w

pub returns-clause-own_wait : goal.returns-clause-own_wait
returns-clause-own_wait c = c.hold_queue.ensures.own_wait

pub returns-clause-newly : goal.returns-clause-newly
returns-clause-newly c =
    if_ok c.hold_queue.result _ (λ held. WaitsBeside (owns_queue held) c.args.builder.now c.hold_queue.new.builder)
    (λ held newly n w. elim (newly n w) [ inl before ↦ inl (c.make_memory.ensures.no_more_wait n before) | inr own ↦ inr own ])
    c.hold_queue.ensures.newly

pub returns-clause-full : goal.returns-clause-full
returns-clause-full c e =
    let lines = ap (length {A = Line}) c.make_memory.ensures.lines in
    let full = c.hold_queue.ensures.full e in
    inl (omega (arith, lines, full))

pub returns-in_err-memory-clause-full : goal.returns-in_err-memory-clause-full
returns-in_err-memory-clause-full c e = inr (c.make_memory.ensures.full (handed_on _ _ _ _ c.in_err-memory.was c.from_residual.ensures.1 e))

pub hold_queue-requires-clause-memory : goal.hold_queue-requires-clause-memory
hold_queue-requires-clause-memory c = c.in_ok-memory.ensures.mem

pub hold_queue-requires-clause-places : goal.hold_queue-requires-clause-places
hold_queue-requires-clause-places c = c.in_ok-memory.ensures.depth
