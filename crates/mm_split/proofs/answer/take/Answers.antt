use Rattle.std.proofs.Common.{arith}
use Rattle.net_parts.specs.Laws.{extends_twice, adds_twice, adds_fewer, net_lasts}
use Rattle.net_parts.specs.Refusing.{handed_on}
use Rattle.mm_split.proofs.answer.take.Goals as goal

pub returns-in_err-below-clause-adds : goal.returns-in_err-below-clause-adds
returns-in_err-below-clause-adds c = adds_fewer _ _ _ _ (omega arith) (c.emit.ensures.adds)

pub returns-in_err-below-clause-full : goal.returns-in_err-below-clause-full
returns-in_err-below-clause-full c e =
    let full = c.emit.ensures.full (handed_on _ _ _ _ c.in_err-below.was c.from_residual.ensures.1 e) in
    omega (arith, full)

pub returns-in_err-done-clause-adds : goal.returns-in_err-done-clause-adds
returns-in_err-done-clause-adds c = adds_fewer _ _ _ _ (omega arith) (adds_twice _ _ _ _ _ c.emit.ensures.adds c.emit-2.ensures.adds)

pub returns-in_err-done-clause-full : goal.returns-in_err-done-clause-full
returns-in_err-done-clause-full c e =
    let most0 = c.emit.ensures.adds.most in
    let full = c.emit-2.ensures.full (handed_on _ _ _ _ c.in_err-done.was c.from_residual-in_err-done.ensures.1 e) in
    omega (arith, most0, full)

pub returns-in_err-waits-clause-adds : goal.returns-in_err-waits-clause-adds
returns-in_err-waits-clause-adds c = adds_fewer _ _ _ _ (omega arith) (adds_twice _ _ _ _ _ (adds_twice _ _ _ _ _ c.emit.ensures.adds c.emit-2.ensures.adds) c.emit_two.ensures.adds)

pub returns-in_err-waits-clause-full : goal.returns-in_err-waits-clause-full
returns-in_err-waits-clause-full c e =
    let most0 = c.emit.ensures.adds.most in
    let most1 = c.emit-2.ensures.adds.most in
    let full = c.emit_two.ensures.full (handed_on _ _ _ _ c.in_err-waits.was c.from_residual-in_err-waits.ensures.1 e) in
    omega (arith, most0, most1, full)

pub returns-clause-adds : goal.returns-clause-adds
returns-clause-adds c = adds_fewer _ _ _ _ (omega arith) (adds_twice _ _ _ _ _ (adds_twice _ _ _ _ _ c.emit.ensures.adds c.emit-2.ensures.adds) c.emit_two.ensures.adds)

pub returns-clause-full : goal.returns-clause-full
returns-clause-full c e = cc

pub emit-requires-2 : goal.emit-requires-2
emit-requires-2 c =
    let e = c.emit.ensures.adds.grows.extends in
    (net_lasts _ _ _ _ e c.requires.part.opens, (net_lasts _ _ _ _ e c.requires.part.above.none, (c.in_ok-below.ensures.net, net_lasts _ _ _ _ e c.requires.part.above.last)))

pub emit_two-requires-clause-b : goal.emit_two-requires-clause-b
emit_two-requires-clause-b c =
    let e = (extends_twice _ _ _ c.emit.ensures.adds.grows.extends c.emit-2.ensures.adds.grows.extends) in
    ((net_lasts _ _ _ _ e c.requires.from.read, net_lasts _ _ _ _ e c.requires.from.write), c.in_ok-done.ensures.net)

pub returns-clause-nets : goal.returns-clause-nets
returns-clause-nets c = record { waits = c.in_ok-waits.ensures.nets.0; above = c.in_ok-waits.ensures.nets.1; below = net_lasts _ _ _ _ (extends_twice _ _ _ c.emit-2.ensures.adds.grows.extends c.emit_two.ensures.adds.grows.extends) c.in_ok-below.ensures.net }

pub returns-clause-below : goal.returns-clause-below
returns-clause-below c cycle v =
    let v1 = c.emit_two.ensures.adds.grows.extends.valuations cycle v in
    let v0 = c.emit-2.ensures.adds.grows.extends.valuations cycle v1 in
    c.in_ok-below.ensures.value cycle v0

pub returns-clause-above : goal.returns-clause-above
returns-clause-above c cycle v =
    let v0 = c.emit_two.ensures.adds.grows.extends.valuations cycle v in
    let done = c.in_ok-done.ensures.value cycle v0 in
    let above = (c.in_ok-waits.ensures.values cycle v).1 in cc

pub returns-clause-waits : goal.returns-clause-waits
returns-clause-waits c cycle v =
    let v0 = c.emit_two.ensures.adds.grows.extends.valuations cycle v in
    let done = c.in_ok-done.ensures.value cycle v0 in
    let waits = (c.in_ok-waits.ensures.values cycle v).0 in cc
