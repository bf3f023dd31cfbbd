use Rattle.std.proofs.Common.{◌==◌, ◌∙◌, arith}
use Rattle.net_parts.specs.Laws.{net_lasts, extends_twice, adds_fewer, adds_twice}
use Rattle.st_mux.specs.PacketChoices.{shown_in, packet_chosen}
use Rattle.st_mux.proofs.turns.choose_packet.Goals as goal

pub returns-in_err-last-clause-adds : goal.returns-in_err-last-clause-adds
returns-in_err-last-clause-adds c =
    adds_fewer _ _ _ _ (omega arith) (adds_twice _ _ _ _ _ (adds_twice _ _ _ _ _ (adds_twice _ _ _ _ _ c.choose.ensures.adds c.choose-2.ensures.adds) c.choose-3.ensures.adds) c.choose-4.ensures.adds)

pub returns-in_err-empty-clause-adds : goal.returns-in_err-empty-clause-adds
returns-in_err-empty-clause-adds c =
    adds_fewer _ _ _ _ (omega arith)
    (adds_twice _ _ _ _ _ (adds_twice _ _ _ _ _ (adds_twice _ _ _ _ _ (adds_twice _ _ _ _ _ c.choose.ensures.adds c.choose-2.ensures.adds) c.choose-3.ensures.adds) c.choose-4.ensures.adds) c.choose-5.ensures.adds)

pub returns-clause-adds : goal.returns-clause-adds
returns-clause-adds c =
    adds_fewer _ _ _ _ (omega arith)
    (adds_twice _ _ _ _ _ (adds_twice _ _ _ _ _ (adds_twice _ _ _ _ _ (adds_twice _ _ _ _ _ c.choose.ensures.adds c.choose-2.ensures.adds) c.choose-3.ensures.adds) c.choose-4.ensures.adds) c.choose-5.ensures.adds)

pub returns-clause-packet : goal.returns-clause-packet
returns-clause-packet c =
    let e4 = c.choose-5.ensures.adds.grows.extends in
    let e3 = extends_twice _ _ _ c.choose-4.ensures.adds.grows.extends e4 in
    let e2 = extends_twice _ _ _ c.choose-3.ensures.adds.grows.extends e3 in
    let e1 = extends_twice _ _ _ c.choose-2.ensures.adds.grows.extends e2 in
    record {
      valid = net_lasts _ _ _ 1 e1 (record { is_net = c.in_ok-valid.ensures.net.is_net; has_width = c.in_ok-valid.ensures.net.has_width ∙ c.requires.one.valid.has_width });
      word = e2.nets _ _ c.in_ok-word.ensures.net.is_net;
      first = net_lasts _ _ _ 1 e3 (record { is_net = c.in_ok-first.ensures.net.is_net; has_width = c.in_ok-first.ensures.net.has_width ∙ c.requires.one.first.has_width });
      last = net_lasts _ _ _ 1 e4 (record { is_net = c.in_ok-last.ensures.net.is_net; has_width = c.in_ok-last.ensures.net.has_width ∙ c.requires.one.last.has_width });
      empty = c.in_ok-empty.ensures.net.is_net;
    }

pub returns-clause-value : goal.returns-clause-value
returns-clause-value c cycle v5 =
    let v4 = c.choose-5.ensures.adds.grows.extends.valuations cycle v5 in
    let v3 = c.choose-4.ensures.adds.grows.extends.valuations cycle v4 in
    let v2 = c.choose-3.ensures.adds.grows.extends.valuations cycle v3 in
    let v1 = c.choose-2.ensures.adds.grows.extends.valuations cycle v2 in
    packet_chosen (cycle.net c.args.bit.number == 0) _ (shown_in cycle c.args.one.now) (shown_in cycle c.args.other.now)
    (c.in_ok-valid.ensures.value cycle v1) (c.in_ok-word.ensures.value cycle v2) (c.in_ok-first.ensures.value cycle v3) (c.in_ok-last.ensures.value cycle v4) (c.in_ok-empty.ensures.value cycle v5)
