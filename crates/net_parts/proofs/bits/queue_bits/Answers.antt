use Rattle.std.proofs.Common.{◌∙◌, arith}
use Rattle.net_parts.specs.Nets.{IsBit}
use Rattle.net_parts.specs.Laws.{bit_fits, adds_fewer, adds_twice, grows_once}
use Rattle.net_parts.specs.Bits.{high_turned, high_and}
use Rattle.net_parts.proofs.bits.queue_bits.Goals as goal

pub returns-clause-value : goal.returns-clause-value
returns-clause-value c cycle v2 =
    let v1 = c.and.ensures.extends.valuations cycle v2 in
    let v0 = c.not.ensures.extends.valuations cycle v1 in
    let room : IsBit c.not.new.self c.in_ok-room.room = record { is_net = c.in_ok-room.ensures.net.0; has_width = c.in_ok-room.ensures.net.1 ∙ c.requires.last.has_width } in
    record {
      room_is = high_turned c.args.last.width (cycle.net c.args.last.number) (cycle.net c.in_ok-room.room.number) c.requires.last.has_width (bit_fits _ _ c.requires.last cycle v0) (c.in_ok-room.ensures.value cycle v1).1;
      comes_is = high_and (cycle.net c.args.shown.number) (cycle.net c.in_ok-room.room.number) (cycle.net c.in_ok-comes.comes.number) (bit_fits _ _ c.requires.shown cycle v0) (bit_fits _ _ room cycle v1) (c.in_ok-comes.ensures.value cycle v2).1;
    }

pub returns-in_err-room-clause-adds : goal.returns-in_err-room-clause-adds
returns-in_err-room-clause-adds c = adds_fewer _ _ _ _ (omega arith) (grows_once _ _ c.not.ensures.extends c.not.ensures.grows)

pub returns-in_err-comes-clause-adds : goal.returns-in_err-comes-clause-adds
returns-in_err-comes-clause-adds c = adds_fewer _ _ _ _ (omega arith) (adds_twice _ _ _ _ _ (grows_once _ _ c.not.ensures.extends c.not.ensures.grows) (grows_once _ _ c.and.ensures.extends c.and.ensures.grows))

pub returns-clause-adds : goal.returns-clause-adds
returns-clause-adds c = adds_fewer _ _ _ _ (omega arith) (adds_twice _ _ _ _ _ (grows_once _ _ c.not.ensures.extends c.not.ensures.grows) (grows_once _ _ c.and.ensures.extends c.and.ensures.grows))
