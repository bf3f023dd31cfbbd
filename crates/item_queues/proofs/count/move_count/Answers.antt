use Rattle.std.proofs.Common.{◌∙◌, arith}
use Rattle.netlist.specs.Runs.{cycle_of}
use Rattle.net_parts.specs.Laws.{adds_grow, grows_fewer, grows_twice}
use Rattle.net_parts.specs.Refusing.{handed_on}
use Rattle.item_queues.proofs.count.move_count.Goals as goal

pub returns-clause-value : goal.returns-clause-value
returns-clause-value c run cycles r n lt few within =
    c.take_next.ensures.value run cycles r n lt ∙ c.in_ok-next.ensures.value (cycle_of run n) ((c.take_next.ensures.grows.extends.runs run cycles r).valuations n (omega arith)) few within

pub returns-clause-no_more_wait : goal.returns-clause-no_more_wait
returns-clause-no_more_wait c n w =
    let set = c.take_next.ensures.no_more_wait n w in
    (c.next_count.ensures.adds.grows.no_more_wait n set.0, set.1)

pub returns-in_err-next-clause-grows : goal.returns-in_err-next-clause-grows
returns-in_err-next-clause-grows c = grows_fewer _ _ _ _ (omega arith) (adds_grow _ _ _ c.next_count.ensures.adds)

pub returns-in_err-next-clause-waits : goal.returns-in_err-next-clause-waits
returns-in_err-next-clause-waits c n apart w = c.next_count.ensures.adds.grows.waits n w

pub returns-in_err-next-clause-full : goal.returns-in_err-next-clause-full
returns-in_err-next-clause-full c e = let full = c.next_count.ensures.full (handed_on _ _ _ _ c.in_err-next.was c.from_residual.ensures.1 e) in omega (arith, full)

pub returns-clause-grows : goal.returns-clause-grows
returns-clause-grows c = grows_fewer _ _ _ _ (omega arith) (grows_twice _ _ _ _ _ (adds_grow _ _ _ c.next_count.ensures.adds) c.take_next.ensures.grows)

pub returns-clause-waits : goal.returns-clause-waits
returns-clause-waits c n apart w = c.take_next.ensures.still_wait n apart (c.next_count.ensures.adds.grows.waits n w)

pub returns-clause-full : goal.returns-clause-full
returns-clause-full c e = cc

pub next_count-requires-clause-count : goal.next_count-requires-clause-count
next_count-requires-clause-count c = c.requires.count

pub next_count-requires-clause-comes : goal.next_count-requires-clause-comes
next_count-requires-clause-comes c = c.requires.comes

pub next_count-requires-clause-goes : goal.next_count-requires-clause-goes
next_count-requires-clause-goes c = c.requires.goes

pub take_next-requires-clause-register : goal.take_next-requires-clause-register
take_next-requires-clause-register c = c.next_count.ensures.adds.grows.extends.nets _ _ c.requires.count

pub take_next-requires-clause-next : goal.take_next-requires-clause-next
take_next-requires-clause-next c = c.in_ok-next.ensures.net.is_net
