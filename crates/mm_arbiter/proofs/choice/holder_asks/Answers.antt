use Rattle.std.proofs.Common.{bit_and, if◌then◌else◌, arith, sym, ◌∙◌}
use Rattle.net_parts.specs.Laws.{adds_twice, grows_once, extends_twice, adds_fewer}
use Rattle.mm_arbiter.proofs.Words.{own_level, stays_level}
use Rattle.histories.specs.History.{is_raised}
use Rattle.mm_arbiter.proofs.Same.{same_by_two, same_any}
use Rattle.net_parts.specs.Refusing.{handed_on}
use Rattle.mm_arbiter.proofs.choice.holder_asks.Goals as goal

pub returns-clause-seat_is : goal.returns-clause-seat_is
returns-clause-seat_is c cycle v4 bits k at =
    let v3 = c.both.ensures.adds.grows.extends.valuations cycle v4 in
    let v2 = c.any-2.ensures.extends.valuations cycle v3 in
    let v1 = c.any.ensures.extends.valuations cycle v2 in
    own_level _ _ _ k bits at.asks_are at.holder_is (c.in_ok-seat.ensures.value cycle v1).1

pub returns-clause-stays_is : goal.returns-clause-stays_is
returns-clause-stays_is c cycle v4 bits k at =
    let v3 = c.both.ensures.adds.grows.extends.valuations cycle v4 in
    let v2 = c.any-2.ensures.extends.valuations cycle v3 in
    stays_level _ _ _ _ _ k bits (returns-clause-seat_is c cycle v4 bits k at) (c.in_ok-asking.ensures.value cycle v2).1 (c.in_ok-rest.ensures.value cycle v3).1 (c.in_ok-stays.ensures.value cycle v4)

pub returns-clause-adds : goal.returns-clause-adds
returns-clause-adds c =
    adds_twice 1 3 _ _ _ (grows_once _ _ c.and.ensures.extends c.and.ensures.grows)
    (adds_twice 1 2 _ _ _ (grows_once _ _ c.any.ensures.extends c.any.ensures.grows) (adds_twice 1 1 _ _ _ (grows_once _ _ c.any-2.ensures.extends c.any-2.ensures.grows) c.both.ensures.adds))

pub returns-clause-reads : goal.returns-clause-reads
returns-clause-reads c one other v4 w4 turns asks =
    let v3 = c.both.ensures.adds.grows.extends.valuations one v4 in
    let w3 = c.both.ensures.adds.grows.extends.valuations other w4 in
    let v2 = c.any-2.ensures.extends.valuations one v3 in
    let w2 = c.any-2.ensures.extends.valuations other w3 in
    let v1 = c.any.ensures.extends.valuations one v2 in
    let w1 = c.any.ensures.extends.valuations other w2 in
    let seat = same_by_two bit_and (c.in_ok-seat.ensures.value one v1).1 (c.in_ok-seat.ensures.value other w1).1 asks turns.holder in
    let asking = same_any (c.in_ok-asking.ensures.value one v2).1 (c.in_ok-asking.ensures.value other w2).1 seat in
    let rest = same_any (c.in_ok-rest.ensures.value one v3).1 (c.in_ok-rest.ensures.value other w3).1 turns.left in
    (seat, same_by_two (λ x y. if is_raised x then y else 0) (c.in_ok-stays.ensures.level one v4) (c.in_ok-stays.ensures.level other w4) asking rest)

pub returns-in_err-seat-clause-adds : goal.returns-in_err-seat-clause-adds
returns-in_err-seat-clause-adds c = adds_fewer _ _ _ _ (omega arith) (grows_once _ _ c.and.ensures.extends c.and.ensures.grows)

pub returns-in_err-seat-clause-full : goal.returns-in_err-seat-clause-full
returns-in_err-seat-clause-full c e = let full = c.and.ensures.full.0 (handed_on _ _ _ _ c.in_err-seat.was c.from_residual.ensures.1 e) in omega (arith, full)

pub returns-in_err-asking-clause-adds : goal.returns-in_err-asking-clause-adds
returns-in_err-asking-clause-adds c = adds_fewer _ _ _ _ (omega arith) (adds_twice _ _ _ _ _ (grows_once _ _ c.and.ensures.extends c.and.ensures.grows) (grows_once _ _ c.any.ensures.extends c.any.ensures.grows))

pub returns-in_err-asking-clause-full : goal.returns-in_err-asking-clause-full
returns-in_err-asking-clause-full c e =
    let most0 = c.and.ensures.grows.most in
    let full = c.any.ensures.full.0 (handed_on _ _ _ _ c.in_err-asking.was c.from_residual-in_err-asking.ensures.1 e) in
    omega (arith, most0, full)

pub returns-in_err-rest-clause-adds : goal.returns-in_err-rest-clause-adds
returns-in_err-rest-clause-adds c = adds_fewer _ _ _ _ (omega arith) (adds_twice _ _ _ _ _ (adds_twice _ _ _ _ _ (grows_once _ _ c.and.ensures.extends c.and.ensures.grows) (grows_once _ _ c.any.ensures.extends c.any.ensures.grows)) (grows_once _ _ c.any-2.ensures.extends c.any-2.ensures.grows))

pub returns-in_err-rest-clause-full : goal.returns-in_err-rest-clause-full
returns-in_err-rest-clause-full c e =
    let most0 = c.and.ensures.grows.most in
    let most1 = c.any.ensures.grows.most in
    let full = c.any-2.ensures.full.0 (handed_on _ _ _ _ c.in_err-rest.was c.from_residual-in_err-rest.ensures.1 e) in
    omega (arith, most0, most1, full)

pub returns-in_err-stays-clause-adds : goal.returns-in_err-stays-clause-adds
returns-in_err-stays-clause-adds c = adds_fewer _ _ _ _ (omega arith) (adds_twice _ _ _ _ _ (adds_twice _ _ _ _ _ (adds_twice _ _ _ _ _ (grows_once _ _ c.and.ensures.extends c.and.ensures.grows) (grows_once _ _ c.any.ensures.extends c.any.ensures.grows)) (grows_once _ _ c.any-2.ensures.extends c.any-2.ensures.grows)) c.both.ensures.adds)

pub returns-in_err-stays-clause-full : goal.returns-in_err-stays-clause-full
returns-in_err-stays-clause-full c e =
    let most0 = c.and.ensures.grows.most in
    let most1 = c.any.ensures.grows.most in
    let most2 = c.any-2.ensures.grows.most in
    let full = c.both.ensures.full (handed_on _ _ _ _ c.in_err-stays.was c.from_residual-in_err-stays.ensures.1 e) in
    omega (arith, most0, most1, most2, full)

pub returns-clause-full : goal.returns-clause-full
returns-clause-full c e = cc

pub returns-clause-seat : goal.returns-clause-seat
returns-clause-seat c = record { is_net = (extends_twice _ _ _ c.any.ensures.extends (extends_twice _ _ _ c.any-2.ensures.extends c.both.ensures.adds.grows.extends)).nets _ _ c.in_ok-seat.ensures.net.0; has_width = c.in_ok-seat.ensures.net.1 ∙ c.requires.asks.has_width }

pub returns-clause-stays : goal.returns-clause-stays
returns-clause-stays c = c.in_ok-stays.ensures.net

pub and-requires-clause-a_is : goal.and-requires-clause-a_is
and-requires-clause-a_is c = c.requires.asks.is_net

pub and-requires-clause-b_is : goal.and-requires-clause-b_is
and-requires-clause-b_is c = c.requires.turns.holder.is_net

pub and-requires-clause-widths : goal.and-requires-clause-widths
and-requires-clause-widths c = c.requires.asks.has_width ∙ sym c.requires.turns.holder.has_width

pub any-requires : goal.any-requires
any-requires c = record { a_is = c.in_ok-seat.ensures.net.0 }

pub any-requires-2 : goal.any-requires-2
any-requires-2 c = record { a_is = (extends_twice _ _ _ c.and.ensures.extends c.any.ensures.extends).nets _ _ c.requires.turns.left.is_net }

pub both-requires-clause-a : goal.both-requires-clause-a
both-requires-clause-a c = record { is_net = c.any-2.ensures.extends.nets _ _ c.in_ok-asking.ensures.net.0; has_width = c.in_ok-asking.ensures.net.1 }

pub both-requires-clause-b : goal.both-requires-clause-b
both-requires-clause-b c = record { is_net = c.in_ok-rest.ensures.net.0; has_width = c.in_ok-rest.ensures.net.1 }
