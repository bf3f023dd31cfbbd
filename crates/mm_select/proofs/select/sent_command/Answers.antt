use Rattle.std.proofs.Common.{◌*◌, ◌^◌, ◌∙◌, refl, sym, ap, arith}
use Rattle.net_parts.specs.Laws.{bit_fits, net_lasts, extends_twice, adds_fewer, adds_twice}
use Rattle.net_parts.specs.Refusing.{handed_on}
use Rattle.command_nets.specs.Groups.{command_lasts}
use Rattle.memory_links.specs.Selects.{repeated}
use Rattle.command_nets.specs.Levels.{one_fits}
use Rattle.mm_select.specs.Laws.{sent_read}
use Rattle.mm_select.proofs.select.sent_command.Goals as goal

pub returns-in_err-read-clause-adds : goal.returns-in_err-read-clause-adds
returns-in_err-read-clause-adds c =
    adds_fewer _ _ _ _ (omega arith) c.unless.ensures.adds

pub returns-in_err-read-clause-full : goal.returns-in_err-read-clause-full
returns-in_err-read-clause-full c e =
    let full = c.unless.ensures.full (handed_on _ _ _ _ c.in_err-read.was c.from_residual.ensures.1 e) in
    omega (arith, full)

pub returns-in_err-address-clause-adds : goal.returns-in_err-address-clause-adds
returns-in_err-address-clause-adds c =
    adds_fewer _ _ _ _ (omega arith) (adds_twice _ _ _ _ _ c.unless.ensures.adds c.align.ensures.adds)

pub returns-in_err-address-clause-full : goal.returns-in_err-address-clause-full
returns-in_err-address-clause-full c e =
    let most0 = c.unless.ensures.adds.most in
    let full = c.align.ensures.full (handed_on _ _ _ _ c.in_err-address.was c.from_residual-in_err-address.ensures.1 e) in
    omega (arith, most0, full)

pub returns-in_err-word-clause-adds : goal.returns-in_err-word-clause-adds
returns-in_err-word-clause-adds c =
    let few = c.requires.few_places in
    let wide = c.width-places.ensures.value in
    adds_fewer _ _ _ _ (omega (arith, few, wide)) (adds_twice _ _ _ _ _ (adds_twice _ _ _ _ _ c.unless.ensures.adds c.align.ensures.adds) c.repeat.ensures.adds)

pub returns-in_err-word-clause-full : goal.returns-in_err-word-clause-full
returns-in_err-word-clause-full c e =
    let few = c.requires.few_places in
    let wide = c.width-places.ensures.value in
    let most0 = c.unless.ensures.adds.most in
    let most1 = c.align.ensures.adds.most in
    let full = c.repeat.ensures.full (handed_on _ _ _ _ c.in_err-word.was c.from_residual-in_err-word.ensures.1 e) in
    omega (arith, few, wide, most0, most1, full)

pub returns-in_err-enables-clause-adds : goal.returns-in_err-enables-clause-adds
returns-in_err-enables-clause-adds c =
    let few = c.requires.few_places in
    let wide = c.width-places.ensures.value in
    adds_fewer _ _ _ _ (omega (arith, few, wide)) (adds_twice _ _ _ _ _ (adds_twice _ _ _ _ _ (adds_twice _ _ _ _ _ c.unless.ensures.adds c.align.ensures.adds) c.repeat.ensures.adds) c.raise_to.ensures.adds)

pub returns-in_err-enables-clause-full : goal.returns-in_err-enables-clause-full
returns-in_err-enables-clause-full c e =
    let few = c.requires.few_places in
    let wide = c.width-places.ensures.value in
    let most0 = c.unless.ensures.adds.most in
    let most1 = c.align.ensures.adds.most in
    let most2 = c.repeat.ensures.adds.most in
    let full = c.raise_to.ensures.full (handed_on _ _ _ _ c.in_err-enables.was c.from_residual-in_err-enables.ensures.1 e) in
    omega (arith, few, wide, most0, most1, most2, full)

pub returns-in_err-count-clause-adds : goal.returns-in_err-count-clause-adds
returns-in_err-count-clause-adds c =
    let few = c.requires.few_places in
    let wide = c.width-places.ensures.value in
    adds_fewer _ _ _ _ (omega (arith, few, wide)) (adds_twice _ _ _ _ _ (adds_twice _ _ _ _ _ (adds_twice _ _ _ _ _ (adds_twice _ _ _ _ _ c.unless.ensures.adds c.align.ensures.adds) c.repeat.ensures.adds) c.raise_to.ensures.adds) c.constant.ensures.adds)

pub returns-in_err-count-clause-full : goal.returns-in_err-count-clause-full
returns-in_err-count-clause-full c e =
    let few = c.requires.few_places in
    let wide = c.width-places.ensures.value in
    let most0 = c.unless.ensures.adds.most in
    let most1 = c.align.ensures.adds.most in
    let most2 = c.repeat.ensures.adds.most in
    let most3 = c.raise_to.ensures.adds.most in
    let full = c.constant.ensures.full (handed_on _ _ _ _ c.in_err-count.was c.from_residual-in_err-count.ensures.1 e) in
    omega (arith, few, wide, most0, most1, most2, most3, full)

pub returns-clause-adds : goal.returns-clause-adds
returns-clause-adds c =
    let few = c.requires.few_places in
    let wide = c.width-places.ensures.value in
    adds_fewer _ _ _ _ (omega (arith, few, wide)) (adds_twice _ _ _ _ _ (adds_twice _ _ _ _ _ (adds_twice _ _ _ _ _ (adds_twice _ _ _ _ _ c.unless.ensures.adds c.align.ensures.adds) c.repeat.ensures.adds) c.raise_to.ensures.adds) c.constant.ensures.adds)

pub returns-clause-sent : goal.returns-clause-sent
returns-clause-sent c =
    let four = c.constant.ensures.adds.grows.extends in
    let three = extends_twice _ _ _ c.raise_to.ensures.adds.grows.extends four in
    let two = extends_twice _ _ _ c.repeat.ensures.adds.grows.extends three in
    let one = extends_twice _ _ _ c.align.ensures.adds.grows.extends two in
    let all = extends_twice _ _ _ c.unless.ensures.adds.grows.extends one in
    let wide = c.width-places.ensures.value in
    record {
      read = λ cycle v. sent_read (cycle.net c.args.from.now.read.number) (cycle.net c.args.shut.number) (cycle.net c.in_ok-read.read.number) (bit_fits _ _ c.requires.from.read cycle (all.valuations cycle v)) (bit_fits _ _ c.in_ok-read.ensures.net cycle (one.valuations cycle v)) (c.in_ok-read.ensures.value cycle (one.valuations cycle v));
      write = refl;
      address = λ cycle v. (let aligned = c.in_ok-address.ensures.value cycle (two.valuations cycle v) in cc);
      word = λ bytes size cycle v. c.in_ok-word.ensures.value bytes size cycle (three.valuations cycle v) ∙ ap (λ n. repeated bytes (2 ^ n) (cycle.net c.args.from.now.word.number)) wide;
      enables = λ cycle v. c.in_ok-enables.ensures.value cycle (four.valuations cycle v);
      count = λ cycle v. c.in_ok-count.ensures.value cycle v;
      more = refl;
      tag = refl;
      address_width = let aligned = c.in_ok-address.ensures.net.has_width in cc;
      word_width = c.in_ok-word.ensures.net.has_width ∙ ap (λ n. c.args.from.now.word.width * 2 ^ n) wide;
      enables_width = c.in_ok-enables.ensures.net.has_width ∙ ap (λ n. c.args.from.now.enables.width * 2 ^ n) wide;
      count_width = c.in_ok-count.ensures.net.has_width ∙ c.width-count_bits.ensures.value;
    }

pub returns-clause-command : goal.returns-clause-command
returns-clause-command c =
    let four = c.constant.ensures.adds.grows.extends in
    let three = extends_twice _ _ _ c.raise_to.ensures.adds.grows.extends four in
    let two = extends_twice _ _ _ c.repeat.ensures.adds.grows.extends three in
    let one = extends_twice _ _ _ c.align.ensures.adds.grows.extends two in
    let all = extends_twice _ _ _ c.unless.ensures.adds.grows.extends one in
    let from = command_lasts _ _ _ all c.requires.from in
    record {
      read = net_lasts _ _ _ _ one c.in_ok-read.ensures.net;
      write = from.write;
      address = let aligned = (net_lasts _ _ _ _ two c.in_ok-address.ensures.net).is_net in let above = from.address in cc;
      word = (net_lasts _ _ _ _ three c.in_ok-word.ensures.net).is_net;
      enables = (net_lasts _ _ _ _ four c.in_ok-enables.ensures.net).is_net;
      count = c.in_ok-count.ensures.net.is_net;
      more = from.more;
      tag = from.tag;
    }

pub raise_to-requires-clause-place : goal.raise_to-requires-clause-place
raise_to-requires-clause-place c =
    let wide = c.width-places.ensures.value in
    record { is_net = (extends_twice _ _ _ (extends_twice _ _ _ c.unless.ensures.adds.grows.extends c.align.ensures.adds.grows.extends) c.repeat.ensures.adds.grows.extends).nets _ _ c.requires.place; has_width = sym wide }

pub constant-requires-clause-fits : goal.constant-requires-clause-fits
constant-requires-clause-fits c = one_fits c.width-count_bits.result c.width-count_bits.ensures.bounds.0
