use Rattle.benches.proofs.streams.Lines.{first_part, second_part, last_part, last_told}
use Rattle.benches.proofs.streams.stream.BenchStreamComponent.tell.Goals as goal

pub returns-then-not-put_if-clause-part : goal.returns-then-not-put_if-clause-part
returns-then-not-put_if-clause-part g c = first_part _ _ _ _ _ _ c.sent.ensures c.if-not-put_if.ensures.part

pub returns-then-not-put_if-2-clause-part : goal.returns-then-not-put_if-2-clause-part
returns-then-not-put_if-2-clause-part g c = second_part _ _ _ _ _ _ _ _ c.sent.ensures c.got.ensures c.if-not-put_if.ensures.all c.if-not-put_if-2.ensures.part

pub returns-clause-all : goal.returns-clause-all
returns-clause-all g c =
    last_told c.put_if-3.result _ _ _ _ _ _ _ _ _ _ c.sent.ensures c.got.ensures c.dropped.ensures c.if-not-put_if.ensures.all c.if-not-put_if-2.ensures.all c.put_if-3.ensures.all

pub returns-clause-part : goal.returns-clause-part
returns-clause-part g c =
    last_part c.put_if-3.result _ _ _ _ _ _ _ _ _ _ c.sent.ensures c.got.ensures c.dropped.ensures c.if-not-put_if.ensures.all c.if-not-put_if-2.ensures.all c.put_if-3.ensures.part
