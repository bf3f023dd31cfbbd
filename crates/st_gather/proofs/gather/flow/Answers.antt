use Rattle.std.proofs.Common.{◌≡◌, ◌+◌, ◌*◌, ◌==◌, if◌then◌else◌, ap, ◌∙◌, arith}
use Rattle.net_parts.specs.Bits.{high_and}
use Rattle.net_parts.specs.Laws.{adds_fewer, adds_twice, grows_once, extends_twice, net_lasts, bit_fits}
use Rattle.st_gather.proofs.gather.flow.Goals as goal

pub returns-clause-flows : goal.returns-clause-flows
returns-clause-flows c = record {
  picks = λ cycle v5. (
      let v4 = c.and-2.ensures.extends.valuations cycle v5 in
      let v3 = c.and.ensures.extends.valuations cycle v4 in
      let v2 = c.has_room.ensures.adds.grows.extends.valuations cycle v3 in
      let v1 = c.eq.ensures.extends.valuations cycle v2 in
      let v0 = c.constant.ensures.adds.grows.extends.valuations cycle v1 in
      c.in_ok-count.ensures.value cycle v0);
  last_is = λ cycle v5. (
      let v4 = c.and-2.ensures.extends.valuations cycle v5 in
      let v3 = c.and.ensures.extends.valuations cycle v4 in
      let v2 = c.has_room.ensures.adds.grows.extends.valuations cycle v3 in
      let v1 = c.eq.ensures.extends.valuations cycle v2 in
      (c.in_ok-last.ensures.value cycle v2).1 ∙ ap (λ n. if cycle.net c.in_ok-count.count.number == n then 1 else 0) (c.in_ok-most.ensures.value cycle v1));
  room_is = λ cycle v5. (
      let v4 = c.and-2.ensures.extends.valuations cycle v5 in
      let v3 = c.and.ensures.extends.valuations cycle v4 in
      c.in_ok-room.ensures.value cycle v3);
  valid_is = λ cycle v5. (
      let v4 = c.and-2.ensures.extends.valuations cycle v5 in
      let v3 = c.and.ensures.extends.valuations cycle v4 in
      let v2 = c.has_room.ensures.adds.grows.extends.valuations cycle v3 in
      let v1 = c.eq.ensures.extends.valuations cycle v2 in
      let v0 = c.constant.ensures.adds.grows.extends.valuations cycle v1 in
      let first = c.count_of.ensures.adds.grows.extends.valuations cycle v0 in
      let last = (c.in_ok-last.ensures.value cycle v2).0 in
      high_and (cycle.net c.args.from.now.valid.number) (cycle.net c.in_ok-last.last.number) (cycle.net c.in_ok-valid.valid.number) (bit_fits _ _ c.requires.from.valid cycle first) (omega (arith, last)) (c.in_ok-valid.ensures.value cycle v4).1);
  moves_is = λ cycle v5. (
      let v4 = c.and-2.ensures.extends.valuations cycle v5 in
      let v3 = c.and.ensures.extends.valuations cycle v4 in
      let v2 = c.has_room.ensures.adds.grows.extends.valuations cycle v3 in
      let v1 = c.eq.ensures.extends.valuations cycle v2 in
      let v0 = c.constant.ensures.adds.grows.extends.valuations cycle v1 in
      let first = c.count_of.ensures.adds.grows.extends.valuations cycle v0 in
      high_and (cycle.net c.args.from.now.valid.number) (cycle.net c.in_ok-room.room.number) (cycle.net c.in_ok-moves.moves.number) (bit_fits _ _ c.requires.from.valid cycle first) (bit_fits _ _ c.in_ok-room.ensures.net cycle v3) (c.in_ok-moves.ensures.value cycle v5).1);
}

pub returns-clause-nets : goal.returns-clause-nets
returns-clause-nets c =
    let e3 = c.and-2.ensures.extends in
    let e2 = extends_twice _ _ _ c.and.ensures.extends e3 in
    let e1 = extends_twice _ _ _ c.has_room.ensures.adds.grows.extends e2 in
    let e0 = extends_twice _ _ _ c.constant.ensures.adds.grows.extends (extends_twice _ _ _ c.eq.ensures.extends e1) in
    let valid = c.requires.from.valid.has_width in
    record {
      count = net_lasts _ _ _ _ e0 c.in_ok-count.ensures.net;
      is = record {
        last = record { is_net = e1.nets _ _ c.in_ok-last.ensures.net.0; has_width = c.in_ok-last.ensures.net.1 };
        room = net_lasts _ _ _ _ e2 c.in_ok-room.ensures.net;
        valid = record { is_net = e3.nets _ _ c.in_ok-valid.ensures.net.0; has_width = c.in_ok-valid.ensures.net.1 ∙ valid };
        moves = record { is_net = c.in_ok-moves.ensures.net.0; has_width = c.in_ok-moves.ensures.net.1 ∙ valid };
      };
    }

pub returns-clause-adds : goal.returns-clause-adds
returns-clause-adds c =
    let some = c.requires.shape.some_channels in
    adds_fewer _ _ _ _ (omega (arith, some))
    (adds_twice _ _ _ _ _ (adds_twice _ _ _ _ _ (adds_twice _ _ _ _ _ (adds_twice _ _ _ _ _ (adds_twice _ _ _ _ _ c.count_of.ensures.adds c.constant.ensures.adds) (grows_once _ _ c.eq.ensures.extends c.eq.ensures.grows)) c.has_room.ensures.adds) (grows_once _ _ c.and.ensures.extends c.and.ensures.grows)) (grows_once _ _ c.and-2.ensures.extends c.and-2.ensures.grows))

pub count_of-requires-clause-within : goal.count_of-requires-clause-within
count_of-requires-clause-within c =
    let width = c.requires.counts.has_width in
    let none : 0 + c.args.shape.channels ≡ c.args.shape.channels = omega arith in
    let same = ap (λ n. c.args.bits * n) none in
    omega (arith, width, same)

pub returns-in_err-moves-clause-adds : goal.returns-in_err-moves-clause-adds
returns-in_err-moves-clause-adds c =
    let some = c.requires.shape.some_channels in
    adds_fewer _ _ _ _ (omega (arith, some))
    (adds_twice _ _ _ _ _ (adds_twice _ _ _ _ _ (adds_twice _ _ _ _ _ (adds_twice _ _ _ _ _ (adds_twice _ _ _ _ _ c.count_of.ensures.adds c.constant.ensures.adds) (grows_once _ _ c.eq.ensures.extends c.eq.ensures.grows)) c.has_room.ensures.adds) (grows_once _ _ c.and.ensures.extends c.and.ensures.grows)) (grows_once _ _ c.and-2.ensures.extends c.and-2.ensures.grows))
