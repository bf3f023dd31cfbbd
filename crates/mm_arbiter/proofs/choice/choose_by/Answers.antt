use Rattle.std.proofs.Common.{arith}
use Rattle.net_parts.specs.Laws.{extends_twice, net_lasts, adds_fewer, adds_twice, grows_once}
use Rattle.net_parts.specs.Refusing.{handed_on}
use Rattle.mm_arbiter.specs.Turns.{turn_nets_last}
use Rattle.mm_arbiter.proofs.choice.choose_by.Goals as goal

pub returns-clause-seat : goal.returns-clause-seat
returns-clause-seat c cycle v3 bits k at =
    let v2 = c.any.ensures.extends.valuations cycle v3 in
    let v1 = c.choose_turn.ensures.adds.grows.extends.valuations cycle v2 in
    c.in_ok-seat.ensures.value cycle v2 bits k at (c.in_ok-own.ensures.seat_is cycle v1 bits k at) (c.in_ok-own.ensures.stays_is cycle v1 bits k at)

pub returns-clause-stays : goal.returns-clause-stays
returns-clause-stays c cycle v3 bits k at =
    let v2 = c.any.ensures.extends.valuations cycle v3 in
    c.in_ok-own.ensures.stays_is cycle (c.choose_turn.ensures.adds.grows.extends.valuations cycle v2) bits k at

pub returns-clause-reads : goal.returns-clause-reads
returns-clause-reads c one other v3 w3 turns asks =
    let v2 = c.any.ensures.extends.valuations one v3 in
    let w2 = c.any.ensures.extends.valuations other w3 in
    let own = c.in_ok-own.ensures.reads one other (c.choose_turn.ensures.adds.grows.extends.valuations one v2) (c.choose_turn.ensures.adds.grows.extends.valuations other w2) turns asks in
    c.in_ok-seat.ensures.reads one other v2 w2 turns asks own.0 own.1

pub returns-in_err-own-clause-adds : goal.returns-in_err-own-clause-adds
returns-in_err-own-clause-adds c = adds_fewer _ _ _ _ (omega arith) c.holder_asks.ensures.adds

pub returns-in_err-own-clause-full : goal.returns-in_err-own-clause-full
returns-in_err-own-clause-full c e = let full = c.holder_asks.ensures.full (handed_on _ _ _ _ c.in_err-own.was c.from_residual.ensures.1 e) in omega (arith, full)

pub returns-in_err-seat-clause-adds : goal.returns-in_err-seat-clause-adds
returns-in_err-seat-clause-adds c = adds_fewer _ _ _ _ (omega arith) (adds_twice _ _ _ _ _ c.holder_asks.ensures.adds c.choose_turn.ensures.adds)

pub returns-in_err-seat-clause-full : goal.returns-in_err-seat-clause-full
returns-in_err-seat-clause-full c e =
    let most0 = c.holder_asks.ensures.adds.most in
    let full = c.choose_turn.ensures.full (handed_on _ _ _ _ c.in_err-seat.was c.from_residual-in_err-seat.ensures.1 e) in
    omega (arith, most0, full)

pub returns-in_err-some-clause-adds : goal.returns-in_err-some-clause-adds
returns-in_err-some-clause-adds c = adds_fewer _ _ _ _ (omega arith) (adds_twice _ _ _ _ _ (adds_twice _ _ _ _ _ c.holder_asks.ensures.adds c.choose_turn.ensures.adds) (grows_once _ _ c.any.ensures.extends c.any.ensures.grows))

pub returns-in_err-some-clause-full : goal.returns-in_err-some-clause-full
returns-in_err-some-clause-full c e =
    let most0 = c.holder_asks.ensures.adds.most in
    let most1 = c.choose_turn.ensures.adds.most in
    let full = c.any.ensures.full.0 (handed_on _ _ _ _ c.in_err-some.was c.from_residual-in_err-some.ensures.1 e) in
    omega (arith, most0, most1, full)

pub returns-clause-adds : goal.returns-clause-adds
returns-clause-adds c = adds_fewer _ _ _ _ (omega arith) (adds_twice _ _ _ _ _ (adds_twice _ _ _ _ _ c.holder_asks.ensures.adds c.choose_turn.ensures.adds) (grows_once _ _ c.any.ensures.extends c.any.ensures.grows))

pub returns-clause-full : goal.returns-clause-full
returns-clause-full c e = cc

pub returns-clause-nets : goal.returns-clause-nets
returns-clause-nets c =
    record {
      seat = net_lasts _ _ _ _ c.any.ensures.extends c.in_ok-seat.ensures.net;
      some = record { is_net = c.in_ok-some.ensures.net.0; has_width = c.in_ok-some.ensures.net.1 };
      stays = net_lasts _ _ _ _ (extends_twice _ _ _ c.choose_turn.ensures.adds.grows.extends c.any.ensures.extends) c.in_ok-own.ensures.stays;
    }

pub holder_asks-requires-clause-turns : goal.holder_asks-requires-clause-turns
holder_asks-requires-clause-turns c = c.requires.turns

pub holder_asks-requires-clause-asks : goal.holder_asks-requires-clause-asks
holder_asks-requires-clause-asks c = c.requires.asks

pub choose_turn-requires-clause-turns : goal.choose_turn-requires-clause-turns
choose_turn-requires-clause-turns c = turn_nets_last _ _ _ _ c.holder_asks.ensures.adds.grows.extends c.requires.turns

pub choose_turn-requires-clause-asks : goal.choose_turn-requires-clause-asks
choose_turn-requires-clause-asks c = net_lasts _ _ _ _ c.holder_asks.ensures.adds.grows.extends c.requires.asks

pub choose_turn-requires-clause-own_seat : goal.choose_turn-requires-clause-own_seat
choose_turn-requires-clause-own_seat c = c.in_ok-own.ensures.seat

pub choose_turn-requires-clause-own_stays : goal.choose_turn-requires-clause-own_stays
choose_turn-requires-clause-own_stays c = c.in_ok-own.ensures.stays

pub choose_turn-requires-clause-some : goal.choose_turn-requires-clause-some
choose_turn-requires-clause-some c = c.requires.some

pub choose_turn-requires-clause-few : goal.choose_turn-requires-clause-few
choose_turn-requires-clause-few c = c.requires.few

pub any-requires : goal.any-requires
any-requires c = record { a_is = c.in_ok-seat.ensures.net.is_net }
