use Rattle.std.proofs.Common.{arith}
use Rattle.stage_core.specs.Groups.{nothing_shown}
use Rattle.net_parts.specs.Laws.{net_lasts, extends_twice, adds_twice, adds_fewer}
use Rattle.stage_core.specs.BeatLaws.{shown_same}
use Rattle.stage_core.specs.Refusing.{handed_on}
use Rattle.st_format.proofs.widen.gather_none.Goals as goal

pub returns-clause-none : goal.returns-clause-none
returns-clause-none c =
    let low = net_lasts _ _ _ _ (extends_twice _ _ _ c.constant-2.ensures.adds.grows.extends (extends_twice _ _ _ c.constant-3.ensures.adds.grows.extends c.constant-4.ensures.adds.grows.extends)) c.in_ok-low.ensures.net in
    record { valid = low; word = (extends_twice _ _ _ c.constant-3.ensures.adds.grows.extends c.constant-4.ensures.adds.grows.extends).nets _ _ c.in_ok-word.ensures.net.is_net; channel = low.is_net; error = c.constant-4.ensures.adds.grows.extends.nets _ _ c.in_ok-error.ensures.net.is_net; first = low; last = low; empty = c.in_ok-empty.ensures.net.is_net }

pub returns-clause-value : goal.returns-clause-value
returns-clause-value c cycle v4 =
    let v3 = c.constant-4.ensures.adds.grows.extends.valuations cycle v4 in
    let v2 = c.constant-3.ensures.adds.grows.extends.valuations cycle v3 in
    let v1 = c.constant-2.ensures.adds.grows.extends.valuations cycle v2 in
    let v0 = c.constant.ensures.adds.grows.extends.valuations cycle v1 in
    let low = c.in_ok-low.ensures.value cycle v1 in
    shown_same _ nothing_shown low (c.in_ok-word.ensures.value cycle v2) low (c.in_ok-error.ensures.value cycle v3) low low (c.in_ok-empty.ensures.value cycle v4)

pub returns-clause-adds : goal.returns-clause-adds
returns-clause-adds c = adds_fewer _ _ _ _ (omega arith) (adds_twice _ _ _ _ _ (adds_twice _ _ _ _ _ (adds_twice _ _ _ _ _ c.constant.ensures.adds c.constant-2.ensures.adds) c.constant-3.ensures.adds) c.constant-4.ensures.adds)

pub returns-in_err-low-clause-adds : goal.returns-in_err-low-clause-adds
returns-in_err-low-clause-adds c = adds_fewer _ _ _ _ (omega arith) c.constant.ensures.adds

pub returns-in_err-word-clause-adds : goal.returns-in_err-word-clause-adds
returns-in_err-word-clause-adds c = adds_fewer _ _ _ _ (omega arith) (adds_twice _ _ _ _ _ c.constant.ensures.adds c.constant-2.ensures.adds)

pub returns-in_err-error-clause-adds : goal.returns-in_err-error-clause-adds
returns-in_err-error-clause-adds c = adds_fewer _ _ _ _ (omega arith) (adds_twice _ _ _ _ _ (adds_twice _ _ _ _ _ c.constant.ensures.adds c.constant-2.ensures.adds) c.constant-3.ensures.adds)

pub returns-in_err-empty-clause-adds : goal.returns-in_err-empty-clause-adds
returns-in_err-empty-clause-adds c = adds_fewer _ _ _ _ (omega arith) (adds_twice _ _ _ _ _ (adds_twice _ _ _ _ _ (adds_twice _ _ _ _ _ c.constant.ensures.adds c.constant-2.ensures.adds) c.constant-3.ensures.adds) c.constant-4.ensures.adds)

pub returns-in_err-low-clause-full : goal.returns-in_err-low-clause-full
returns-in_err-low-clause-full c e = let full = c.constant.ensures.full (handed_on _ _ _ _ c.in_err-low.was c.from_residual.ensures.1 e) in omega (arith, full)

pub returns-in_err-word-clause-full : goal.returns-in_err-word-clause-full
returns-in_err-word-clause-full c e = let most0 = c.constant.ensures.adds.most in let full = c.constant-2.ensures.full (handed_on _ _ _ _ c.in_err-word.was c.from_residual-in_err-word.ensures.1 e) in omega (arith, most0, full)

pub returns-in_err-error-clause-full : goal.returns-in_err-error-clause-full
returns-in_err-error-clause-full c e = let most0 = c.constant.ensures.adds.most in let most1 = c.constant-2.ensures.adds.most in let full = c.constant-3.ensures.full (handed_on _ _ _ _ c.in_err-error.was c.from_residual-in_err-error.ensures.1 e) in omega (arith, most0, most1, full)

pub returns-in_err-empty-clause-full : goal.returns-in_err-empty-clause-full
returns-in_err-empty-clause-full c e = let most0 = c.constant.ensures.adds.most in let most1 = c.constant-2.ensures.adds.most in let most2 = c.constant-3.ensures.adds.most in let full = c.constant-4.ensures.full (handed_on _ _ _ _ c.in_err-empty.was c.from_residual-in_err-empty.ensures.1 e) in omega (arith, most0, most1, most2, full)

pub returns-clause-full : goal.returns-clause-full
returns-clause-full c e = cc
