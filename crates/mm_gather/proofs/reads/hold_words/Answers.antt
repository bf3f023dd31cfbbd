use Rattle.std.proofs.Common.{arith}
use Rattle.net_parts.specs.Laws.{if_ok, adds_grow, adds_twice, grows_without_memory, memory_grows_twice}
use Rattle.net_parts.specs.Memories.{memory_grows_fewer}
use Rattle.net_parts.specs.Growth.{AreMadeBetween}
use Rattle.item_queues.specs.Queues.{owns}
use Rattle.mm_gather.proofs.reads.hold_words.Goals as goal

pub returns-in_err-code-clause-grows : goal.returns-in_err-code-clause-grows
returns-in_err-code-clause-grows c = memory_grows_fewer _ _ _ _ _ _ (omega arith) (omega arith) (grows_without_memory _ _ _ (adds_grow _ _ _ (adds_twice _ _ _ _ _ c.constant.ensures.adds c.constant-2.ensures.adds)))

pub returns-clause-owned : goal.returns-clause-owned
returns-clause-owned c =
    if_ok c.make_queue.result _ (λ queue. AreMadeBetween (owns queue) c.args.builder.now c.make_queue.new.builder)
    (λ queue owned n o. (
    let own = owned n o in
    let first = c.constant.ensures.adds.grows.extends.count in
    let second = c.constant-2.ensures.adds.grows.extends.count in
    (omega (arith, own.0, first, second), own.1)))
    c.make_queue.ensures.owned

pub returns-clause-grows : goal.returns-clause-grows
returns-clause-grows c =
    memory_grows_fewer _ _ _ _ _ _ (omega arith) (omega arith)
    (memory_grows_twice _ _ _ _ _ _ _ (grows_without_memory _ _ _ (adds_grow _ _ _ (adds_twice _ _ _ _ _ c.constant.ensures.adds c.constant-2.ensures.adds))) c.make_queue.ensures.grows)
