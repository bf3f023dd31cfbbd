use Rattle.std.proofs.Common.{◌*◌, ◌%◌, ◌^◌, ◌∙◌, refl, ap, arith}
use Rattle.net_parts.specs.Laws.{bit_fits, net_lasts, extends_twice, adds_fewer, adds_twice}
use Rattle.command_nets.specs.Groups.{command_lasts}
use Rattle.memory_links.specs.Selects.{repeated}
use Rattle.memory_links.specs.Gathers.{spread}
use Rattle.mm_select.specs.Laws.{sent_read}
use Rattle.mm_gather.proofs.gather.sent_beat.Goals as goal

pub returns-in_err-enables-clause-adds : goal.returns-in_err-enables-clause-adds
returns-in_err-enables-clause-adds c =
    let few = c.requires.few_places in
    let wide = c.width-places.ensures.value in
    adds_fewer _ _ _ _ (omega (arith, few, wide)) (adds_twice _ _ _ _ _ (adds_twice _ _ _ _ _ (adds_twice _ _ _ _ _ c.unless.ensures.adds c.align.ensures.adds) c.repeat.ensures.adds) c.burst_lanes.ensures.adds)

pub returns-in_err-count-clause-adds : goal.returns-in_err-count-clause-adds
returns-in_err-count-clause-adds c =
    let few = c.requires.few_places in
    let wide = c.width-places.ensures.value in
    adds_fewer _ _ _ _ (omega (arith, few, wide)) (adds_twice _ _ _ _ _ (adds_twice _ _ _ _ _ (adds_twice _ _ _ _ _ (adds_twice _ _ _ _ _ c.unless.ensures.adds c.align.ensures.adds) c.repeat.ensures.adds) c.burst_lanes.ensures.adds) c.constant.ensures.adds)

pub returns-clause-adds : goal.returns-clause-adds
returns-clause-adds c =
    let few = c.requires.few_places in
    let wide = c.width-places.ensures.value in
    adds_fewer _ _ _ _ (omega (arith, few, wide)) (adds_twice _ _ _ _ _ (adds_twice _ _ _ _ _ (adds_twice _ _ _ _ _ (adds_twice _ _ _ _ _ c.unless.ensures.adds c.align.ensures.adds) c.repeat.ensures.adds) c.burst_lanes.ensures.adds) c.constant.ensures.adds)

pub returns-clause-sent : goal.returns-clause-sent
returns-clause-sent c =
    let four = c.constant.ensures.adds.grows.extends in
    let three = extends_twice _ _ _ c.burst_lanes.ensures.adds.grows.extends four in
    let two = extends_twice _ _ _ c.repeat.ensures.adds.grows.extends three in
    let one = extends_twice _ _ _ c.align.ensures.adds.grows.extends two in
    let all = extends_twice _ _ _ c.unless.ensures.adds.grows.extends one in
    let wide = c.width-places.ensures.value in
    record {
      read = λ cycle v. sent_read (cycle.net c.args.from.now.read.number) (cycle.net c.args.shut.number) (cycle.net c.in_ok-read.read.number) (bit_fits _ _ c.requires.from.read cycle (all.valuations cycle v)) (bit_fits _ _ c.in_ok-read.ensures.net cycle (one.valuations cycle v)) (c.in_ok-read.ensures.value cycle (one.valuations cycle v));
      write = refl;
      address = λ cycle v. c.in_ok-address.ensures.value cycle (two.valuations cycle v);
      word = λ bytes size cycle v. c.in_ok-word.ensures.value bytes size cycle (three.valuations cycle v) ∙ ap (λ n. repeated bytes (2 ^ n) (cycle.net c.args.from.now.word.number)) wide;
      enables = λ cycle v. c.in_ok-enables.ensures.value cycle (four.valuations cycle v)
          ∙ ap (λ n. (spread c.args.from.now.enables.width (cycle.net c.args.from.now.count.number) (cycle.net c.args.from.now.enables.number) * 2 ^ (c.args.from.now.enables.width * cycle.net c.args.place.number)) % 2 ^ (c.args.from.now.enables.width * 2 ^ n)) wide;
      count = λ cycle v. c.in_ok-count.ensures.value cycle v;
      more = refl;
      tag = refl;
      address_width = c.in_ok-address.ensures.net.has_width;
      word_width = c.in_ok-word.ensures.net.has_width ∙ ap (λ n. c.args.from.now.word.width * 2 ^ n) wide;
      enables_width = c.in_ok-enables.ensures.net.has_width ∙ ap (λ n. c.args.from.now.enables.width * 2 ^ n) wide;
      count_width = c.in_ok-count.ensures.net.has_width;
    }

pub returns-clause-command : goal.returns-clause-command
returns-clause-command c =
    let four = c.constant.ensures.adds.grows.extends in
    let three = extends_twice _ _ _ c.burst_lanes.ensures.adds.grows.extends four in
    let two = extends_twice _ _ _ c.repeat.ensures.adds.grows.extends three in
    let one = extends_twice _ _ _ c.align.ensures.adds.grows.extends two in
    let all = extends_twice _ _ _ c.unless.ensures.adds.grows.extends one in
    let from = command_lasts _ _ _ all c.requires.from in
    record {
      read = net_lasts _ _ _ _ one c.in_ok-read.ensures.net;
      write = from.write;
      address = (net_lasts _ _ _ _ two c.in_ok-address.ensures.net).is_net;
      word = (net_lasts _ _ _ _ three c.in_ok-word.ensures.net).is_net;
      enables = (net_lasts _ _ _ _ four c.in_ok-enables.ensures.net).is_net;
      count = c.in_ok-count.ensures.net.is_net;
      more = from.more;
      tag = from.tag;
    }
