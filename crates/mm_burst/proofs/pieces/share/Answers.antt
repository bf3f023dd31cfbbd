use Rattle.net_parts.specs.Laws.{adds_fewer, adds_twice}
use Rattle.std.proofs.Common.{arith}
use Rattle.net_parts.specs.Refusing.{handed_on}
use Rattle.mm_burst.proofs.pieces.share.Goals as goal

pub returns-in_err-enables-clause-adds : goal.returns-in_err-enables-clause-adds
returns-in_err-enables-clause-adds c = adds_fewer _ _ _ _ (omega arith) c.pick.ensures.adds

pub returns-in_err-enables-clause-full : goal.returns-in_err-enables-clause-full
returns-in_err-enables-clause-full c e =
    let full = c.pick.ensures.full (handed_on _ _ _ _ c.in_err-enables.was c.from_residual.ensures.1 e) in
    omega (arith, full)

pub returns-in_err-more-clause-adds : goal.returns-in_err-more-clause-adds
returns-in_err-more-clause-adds c = adds_fewer _ _ _ _ (omega arith) (adds_twice _ _ _ _ _ c.pick.ensures.adds c.pick-2.ensures.adds)

pub returns-in_err-more-clause-full : goal.returns-in_err-more-clause-full
returns-in_err-more-clause-full c e =
    let most0 = c.pick.ensures.adds.most in
    let full = c.pick-2.ensures.full (handed_on _ _ _ _ c.in_err-more.was c.from_residual-in_err-more.ensures.1 e) in
    omega (arith, most0, full)

pub returns-in_err-tag-clause-adds : goal.returns-in_err-tag-clause-adds
returns-in_err-tag-clause-adds c = adds_fewer _ _ _ _ (omega arith) (adds_twice _ _ _ _ _ (adds_twice _ _ _ _ _ c.pick.ensures.adds c.pick-2.ensures.adds) c.pick-3.ensures.adds)

pub returns-in_err-tag-clause-full : goal.returns-in_err-tag-clause-full
returns-in_err-tag-clause-full c e =
    let most0 = c.pick.ensures.adds.most in
    let most1 = c.pick-2.ensures.adds.most in
    let full = c.pick-3.ensures.full (handed_on _ _ _ _ c.in_err-tag.was c.from_residual-in_err-tag.ensures.1 e) in
    omega (arith, most0, most1, full)

pub returns-clause-adds : goal.returns-clause-adds
returns-clause-adds c = adds_fewer _ _ _ _ (omega arith) (adds_twice _ _ _ _ _ (adds_twice _ _ _ _ _ c.pick.ensures.adds c.pick-2.ensures.adds) c.pick-3.ensures.adds)

pub returns-clause-full : goal.returns-clause-full
returns-clause-full c e = cc

pub returns-clause-enables : goal.returns-clause-enables
returns-clause-enables c cycle v =
    let v1 = c.pick-3.ensures.adds.grows.extends.valuations cycle v in
    let v0 = c.pick-2.ensures.adds.grows.extends.valuations cycle v1 in
    c.in_ok-enables.ensures.value cycle v0

pub returns-clause-more : goal.returns-clause-more
returns-clause-more c cycle v =
    let v1 = c.pick-3.ensures.adds.grows.extends.valuations cycle v in
    c.in_ok-more.ensures.value cycle v1
