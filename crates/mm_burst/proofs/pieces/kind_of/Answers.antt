use Rattle.std.proofs.Common.{◌&&◌, ◌||◌, ap, ◌∙◌, arith}
use Rattle.histories.specs.History.{is_raised}
use Rattle.net_parts.specs.Laws.{adds_fewer, adds_twice}
use Rattle.net_parts.specs.Refusing.{handed_on}
use Rattle.mm_burst.proofs.pieces.kind_of.Goals as goal

pub returns-clause-sends : goal.returns-clause-sends
returns-clause-sends c cycle v =
    let v3 = c.either.ensures.adds.grows.extends.valuations cycle v in
    let v2 = c.both-2.ensures.adds.grows.extends.valuations cycle v3 in
    let v1 = c.unless.ensures.adds.grows.extends.valuations cycle v2 in
    let v0 = c.both.ensures.adds.grows.extends.valuations cycle v1 in
    c.in_ok-sends.ensures.value cycle v1 ∙ ap (λ t. is_raised (cycle.net c.args.registers.now.reads.number) && t) (c.in_ok-some.ensures.value cycle v0)

pub returns-clause-writes : goal.returns-clause-writes
returns-clause-writes c cycle v =
    let v3 = c.either.ensures.adds.grows.extends.valuations cycle v in
    let v2 = c.both-2.ensures.adds.grows.extends.valuations cycle v3 in
    c.in_ok-writes.ensures.value cycle v2

pub returns-clause-old : goal.returns-clause-old
returns-clause-old c cycle v =
    let v3 = c.either.ensures.adds.grows.extends.valuations cycle v in
    let v2 = c.both-2.ensures.adds.grows.extends.valuations cycle v3 in
    let v1 = c.unless.ensures.adds.grows.extends.valuations cycle v2 in
    let v0 = c.both.ensures.adds.grows.extends.valuations cycle v1 in
    c.in_ok-old.ensures.value cycle v
    ∙ ap (λ t. is_raised (cycle.net c.in_ok-sends.sends.number) || t) (c.in_ok-joined.ensures.value cycle v3 ∙ ap (λ t. t && is_raised (cycle.net c.in_ok-writes.writes.number)) (c.in_ok-some.ensures.value cycle v0))

pub returns-in_err-some-clause-adds : goal.returns-in_err-some-clause-adds
returns-in_err-some-clause-adds c = adds_fewer _ _ _ _ (omega arith) c.is_some.ensures.adds

pub returns-in_err-some-clause-full : goal.returns-in_err-some-clause-full
returns-in_err-some-clause-full c e =
    let full = c.is_some.ensures.full (handed_on _ _ _ _ c.in_err-some.was c.from_residual.ensures.1 e) in
    omega (arith, full)

pub returns-in_err-sends-clause-adds : goal.returns-in_err-sends-clause-adds
returns-in_err-sends-clause-adds c = adds_fewer _ _ _ _ (omega arith) (adds_twice _ _ _ _ _ c.is_some.ensures.adds c.both.ensures.adds)

pub returns-in_err-sends-clause-full : goal.returns-in_err-sends-clause-full
returns-in_err-sends-clause-full c e =
    let most0 = c.is_some.ensures.adds.most in
    let full = c.both.ensures.full (handed_on _ _ _ _ c.in_err-sends.was c.from_residual-in_err-sends.ensures.1 e) in
    omega (arith, most0, full)

pub returns-in_err-writes-clause-adds : goal.returns-in_err-writes-clause-adds
returns-in_err-writes-clause-adds c = adds_fewer _ _ _ _ (omega arith) (adds_twice _ _ _ _ _ (adds_twice _ _ _ _ _ c.is_some.ensures.adds c.both.ensures.adds) c.unless.ensures.adds)

pub returns-in_err-writes-clause-full : goal.returns-in_err-writes-clause-full
returns-in_err-writes-clause-full c e =
    let most0 = c.is_some.ensures.adds.most in
    let most1 = c.both.ensures.adds.most in
    let full = c.unless.ensures.full (handed_on _ _ _ _ c.in_err-writes.was c.from_residual-in_err-writes.ensures.1 e) in
    omega (arith, most0, most1, full)

pub returns-in_err-joined-clause-adds : goal.returns-in_err-joined-clause-adds
returns-in_err-joined-clause-adds c = adds_fewer _ _ _ _ (omega arith) (adds_twice _ _ _ _ _ (adds_twice _ _ _ _ _ (adds_twice _ _ _ _ _ c.is_some.ensures.adds c.both.ensures.adds) c.unless.ensures.adds) c.both-2.ensures.adds)

pub returns-in_err-joined-clause-full : goal.returns-in_err-joined-clause-full
returns-in_err-joined-clause-full c e =
    let most0 = c.is_some.ensures.adds.most in
    let most1 = c.both.ensures.adds.most in
    let most2 = c.unless.ensures.adds.most in
    let full = c.both-2.ensures.full (handed_on _ _ _ _ c.in_err-joined.was c.from_residual-in_err-joined.ensures.1 e) in
    omega (arith, most0, most1, most2, full)

pub returns-in_err-old-clause-adds : goal.returns-in_err-old-clause-adds
returns-in_err-old-clause-adds c = adds_fewer _ _ _ _ (omega arith) (adds_twice _ _ _ _ _ (adds_twice _ _ _ _ _ (adds_twice _ _ _ _ _ (adds_twice _ _ _ _ _ c.is_some.ensures.adds c.both.ensures.adds) c.unless.ensures.adds) c.both-2.ensures.adds) c.either.ensures.adds)

pub returns-in_err-old-clause-full : goal.returns-in_err-old-clause-full
returns-in_err-old-clause-full c e =
    let most0 = c.is_some.ensures.adds.most in
    let most1 = c.both.ensures.adds.most in
    let most2 = c.unless.ensures.adds.most in
    let most3 = c.both-2.ensures.adds.most in
    let full = c.either.ensures.full (handed_on _ _ _ _ c.in_err-old.was c.from_residual-in_err-old.ensures.1 e) in
    omega (arith, most0, most1, most2, most3, full)

pub returns-clause-adds : goal.returns-clause-adds
returns-clause-adds c = adds_fewer _ _ _ _ (omega arith) (adds_twice _ _ _ _ _ (adds_twice _ _ _ _ _ (adds_twice _ _ _ _ _ (adds_twice _ _ _ _ _ c.is_some.ensures.adds c.both.ensures.adds) c.unless.ensures.adds) c.both-2.ensures.adds) c.either.ensures.adds)

pub returns-clause-full : goal.returns-clause-full
returns-clause-full c e = cc
