use Rattle.std.proofs.Common.{◌+◌, ◌*◌, ◌/◌, ◌^◌, if◌then◌else◌, refl, sym, ap, ap₂, ◌∙◌, arith}
use Rattle.net_parts.specs.Laws.{extends_twice, adds_twice, adds_fewer, net_lasts, bit_fits}
use Rattle.net_parts.specs.Refusing.{handed_on}
use Rattle.histories.specs.History.{is_raised}
use Rattle.mm_split.specs.Pieces.{lane}
use Rattle.mm_split.proofs.Bits.{bit_is, lanes_of_places, taken_is}
use Rattle.command_nets.specs.Groups.{chosen_raised, command_lasts}
use Rattle.command_nets.specs.Levels.{one_fits}
use Rattle.mm_split.proofs.command.part_below.Goals as goal

pub returns-in_err-read-clause-adds : goal.returns-in_err-read-clause-adds
returns-in_err-read-clause-adds c = let few = c.requires.sizes.few in let bits = c.requires.sizes.few_bits in adds_fewer _ _ _ _ (omega (arith, few, bits)) (c.emit_two.ensures.adds)

pub returns-in_err-read-clause-full : goal.returns-in_err-read-clause-full
returns-in_err-read-clause-full c e =
    let full = c.emit_two.ensures.full (handed_on _ _ _ _ c.in_err-read.was c.from_residual.ensures.1 e) in
    omega (arith, full, c.requires.sizes.few, c.requires.sizes.few_bits)

pub returns-in_err-number-clause-adds : goal.returns-in_err-number-clause-adds
returns-in_err-number-clause-adds c = let few = c.requires.sizes.few in let bits = c.requires.sizes.few_bits in adds_fewer _ _ _ _ (omega (arith, few, bits)) (adds_twice _ _ _ _ _ c.emit_two.ensures.adds c.pick_number.ensures.adds)

pub returns-in_err-number-clause-full : goal.returns-in_err-number-clause-full
returns-in_err-number-clause-full c e =
    let most0 = c.emit_two.ensures.adds.most in
    let full = c.pick_number.ensures.full (handed_on _ _ _ _ c.in_err-number.was c.from_residual-in_err-number.ensures.1 e) in
    omega (arith, most0, full, c.requires.sizes.few, c.requires.sizes.few_bits)

pub returns-in_err-offset-clause-adds : goal.returns-in_err-offset-clause-adds
returns-in_err-offset-clause-adds c = let few = c.requires.sizes.few in let bits = c.requires.sizes.few_bits in adds_fewer _ _ _ _ (omega (arith, few, bits)) (adds_twice _ _ _ _ _ (adds_twice _ _ _ _ _ c.emit_two.ensures.adds c.pick_number.ensures.adds) c.piece_offset.ensures.adds)

pub returns-in_err-offset-clause-full : goal.returns-in_err-offset-clause-full
returns-in_err-offset-clause-full c e =
    let most0 = c.emit_two.ensures.adds.most in
    let most1 = c.pick_number.ensures.adds.most in
    let full = c.piece_offset.ensures.full (handed_on _ _ _ _ c.in_err-offset.was c.from_residual-in_err-offset.ensures.1 e) in
    omega (arith, most0, most1, full, c.requires.sizes.few, c.requires.sizes.few_bits)

pub returns-in_err-address-clause-adds : goal.returns-in_err-address-clause-adds
returns-in_err-address-clause-adds c = let few = c.requires.sizes.few in let bits = c.requires.sizes.few_bits in adds_fewer _ _ _ _ (omega (arith, few, bits)) (adds_twice _ _ _ _ _ (adds_twice _ _ _ _ _ (adds_twice _ _ _ _ _ c.emit_two.ensures.adds c.pick_number.ensures.adds) c.piece_offset.ensures.adds) c.piece_address.ensures.adds)

pub returns-in_err-address-clause-full : goal.returns-in_err-address-clause-full
returns-in_err-address-clause-full c e =
    let most0 = c.emit_two.ensures.adds.most in
    let most1 = c.pick_number.ensures.adds.most in
    let most2 = c.piece_offset.ensures.adds.most in
    let full = c.piece_address.ensures.full (handed_on _ _ _ _ c.in_err-address.was c.from_residual-in_err-address.ensures.1 e) in
    omega (arith, most0, most1, most2, full, c.requires.sizes.few, c.requires.sizes.few_bits)

pub returns-in_err-word-clause-adds : goal.returns-in_err-word-clause-adds
returns-in_err-word-clause-adds c = let few = c.requires.sizes.few in let bits = c.requires.sizes.few_bits in adds_fewer _ _ _ _ (omega (arith, few, bits)) (adds_twice _ _ _ _ _ (adds_twice _ _ _ _ _ (adds_twice _ _ _ _ _ (adds_twice _ _ _ _ _ c.emit_two.ensures.adds c.pick_number.ensures.adds) c.piece_offset.ensures.adds) c.piece_address.ensures.adds) c.piece_word.ensures.adds)

pub returns-in_err-word-clause-full : goal.returns-in_err-word-clause-full
returns-in_err-word-clause-full c e =
    let most0 = c.emit_two.ensures.adds.most in
    let most1 = c.pick_number.ensures.adds.most in
    let most2 = c.piece_offset.ensures.adds.most in
    let most3 = c.piece_address.ensures.adds.most in
    let full = c.piece_word.ensures.full (handed_on _ _ _ _ c.in_err-word.was c.from_residual-in_err-word.ensures.1 e) in
    omega (arith, most0, most1, most2, most3, full, c.requires.sizes.few, c.requires.sizes.few_bits)

pub returns-in_err-enables-clause-adds : goal.returns-in_err-enables-clause-adds
returns-in_err-enables-clause-adds c = let few = c.requires.sizes.few in let bits = c.requires.sizes.few_bits in adds_fewer _ _ _ _ (omega (arith, few, bits)) (adds_twice _ _ _ _ _ (adds_twice _ _ _ _ _ (adds_twice _ _ _ _ _ (adds_twice _ _ _ _ _ (adds_twice _ _ _ _ _ c.emit_two.ensures.adds c.pick_number.ensures.adds) c.piece_offset.ensures.adds) c.piece_address.ensures.adds) c.piece_word.ensures.adds) c.take_place.ensures.adds)

pub returns-in_err-enables-clause-full : goal.returns-in_err-enables-clause-full
returns-in_err-enables-clause-full c e =
    let most0 = c.emit_two.ensures.adds.most in
    let most1 = c.pick_number.ensures.adds.most in
    let most2 = c.piece_offset.ensures.adds.most in
    let most3 = c.piece_address.ensures.adds.most in
    let most4 = c.piece_word.ensures.adds.most in
    let full = c.take_place.ensures.full (handed_on _ _ _ _ c.in_err-enables.was c.from_residual-in_err-enables.ensures.1 e) in
    omega (arith, most0, most1, most2, most3, most4, full, c.requires.sizes.few, c.requires.sizes.few_bits)

pub returns-in_err-count-clause-adds : goal.returns-in_err-count-clause-adds
returns-in_err-count-clause-adds c = let few = c.requires.sizes.few in let bits = c.requires.sizes.few_bits in adds_fewer _ _ _ _ (omega (arith, few, bits)) (adds_twice _ _ _ _ _ (adds_twice _ _ _ _ _ (adds_twice _ _ _ _ _ (adds_twice _ _ _ _ _ (adds_twice _ _ _ _ _ (adds_twice _ _ _ _ _ c.emit_two.ensures.adds c.pick_number.ensures.adds) c.piece_offset.ensures.adds) c.piece_address.ensures.adds) c.piece_word.ensures.adds) c.take_place.ensures.adds) c.constant.ensures.adds)

pub returns-in_err-count-clause-full : goal.returns-in_err-count-clause-full
returns-in_err-count-clause-full c e =
    let most0 = c.emit_two.ensures.adds.most in
    let most1 = c.pick_number.ensures.adds.most in
    let most2 = c.piece_offset.ensures.adds.most in
    let most3 = c.piece_address.ensures.adds.most in
    let most4 = c.piece_word.ensures.adds.most in
    let most5 = c.take_place.ensures.adds.most in
    let full = c.constant.ensures.full (handed_on _ _ _ _ c.in_err-count.was c.from_residual-in_err-count.ensures.1 e) in
    omega (arith, most0, most1, most2, most3, most4, most5, full, c.requires.sizes.few, c.requires.sizes.few_bits)

pub returns-in_err-one-clause-adds : goal.returns-in_err-one-clause-adds
returns-in_err-one-clause-adds c = let few = c.requires.sizes.few in let bits = c.requires.sizes.few_bits in adds_fewer _ _ _ _ (omega (arith, few, bits)) (adds_twice _ _ _ _ _ (adds_twice _ _ _ _ _ (adds_twice _ _ _ _ _ (adds_twice _ _ _ _ _ (adds_twice _ _ _ _ _ (adds_twice _ _ _ _ _ (adds_twice _ _ _ _ _ c.emit_two.ensures.adds c.pick_number.ensures.adds) c.piece_offset.ensures.adds) c.piece_address.ensures.adds) c.piece_word.ensures.adds) c.take_place.ensures.adds) c.constant.ensures.adds) c.level.ensures.adds)

pub returns-in_err-one-clause-full : goal.returns-in_err-one-clause-full
returns-in_err-one-clause-full c e =
    let most0 = c.emit_two.ensures.adds.most in
    let most1 = c.pick_number.ensures.adds.most in
    let most2 = c.piece_offset.ensures.adds.most in
    let most3 = c.piece_address.ensures.adds.most in
    let most4 = c.piece_word.ensures.adds.most in
    let most5 = c.take_place.ensures.adds.most in
    let most6 = c.constant.ensures.adds.most in
    let full = c.level.ensures.full (handed_on _ _ _ _ c.in_err-one.was c.from_residual-in_err-one.ensures.1 e) in
    omega (arith, most0, most1, most2, most3, most4, most5, most6, full, c.requires.sizes.few, c.requires.sizes.few_bits)

pub returns-in_err-more-clause-adds : goal.returns-in_err-more-clause-adds
returns-in_err-more-clause-adds c = let few = c.requires.sizes.few in let bits = c.requires.sizes.few_bits in adds_fewer _ _ _ _ (omega (arith, few, bits)) (adds_twice _ _ _ _ _ (adds_twice _ _ _ _ _ (adds_twice _ _ _ _ _ (adds_twice _ _ _ _ _ (adds_twice _ _ _ _ _ (adds_twice _ _ _ _ _ (adds_twice _ _ _ _ _ (adds_twice _ _ _ _ _ c.emit_two.ensures.adds c.pick_number.ensures.adds) c.piece_offset.ensures.adds) c.piece_address.ensures.adds) c.piece_word.ensures.adds) c.take_place.ensures.adds) c.constant.ensures.adds) c.level.ensures.adds) c.choose.ensures.adds)

pub returns-in_err-more-clause-full : goal.returns-in_err-more-clause-full
returns-in_err-more-clause-full c e =
    let most0 = c.emit_two.ensures.adds.most in
    let most1 = c.pick_number.ensures.adds.most in
    let most2 = c.piece_offset.ensures.adds.most in
    let most3 = c.piece_address.ensures.adds.most in
    let most4 = c.piece_word.ensures.adds.most in
    let most5 = c.take_place.ensures.adds.most in
    let most6 = c.constant.ensures.adds.most in
    let most7 = c.level.ensures.adds.most in
    let full = c.choose.ensures.full (handed_on _ _ _ _ c.in_err-more.was c.from_residual-in_err-more.ensures.1 e) in
    omega (arith, most0, most1, most2, most3, most4, most5, most6, most7, full, c.requires.sizes.few, c.requires.sizes.few_bits)

pub returns-clause-adds : goal.returns-clause-adds
returns-clause-adds c = let few = c.requires.sizes.few in let bits = c.requires.sizes.few_bits in adds_fewer _ _ _ _ (omega (arith, few, bits)) (adds_twice _ _ _ _ _ (adds_twice _ _ _ _ _ (adds_twice _ _ _ _ _ (adds_twice _ _ _ _ _ (adds_twice _ _ _ _ _ (adds_twice _ _ _ _ _ (adds_twice _ _ _ _ _ (adds_twice _ _ _ _ _ c.emit_two.ensures.adds c.pick_number.ensures.adds) c.piece_offset.ensures.adds) c.piece_address.ensures.adds) c.piece_word.ensures.adds) c.take_place.ensures.adds) c.constant.ensures.adds) c.level.ensures.adds) c.choose.ensures.adds)

pub returns-clause-full : goal.returns-clause-full
returns-clause-full c e = cc

pub pick_number-requires-clause-mask : goal.pick_number-requires-clause-mask
pick_number-requires-clause-mask c = c.emit_two.ensures.adds.grows.extends.nets _ _ c.requires.here.is_net

pub piece_word-requires-clause-from : goal.piece_word-requires-clause-from
piece_word-requires-clause-from c = command_lasts _ _ _ (extends_twice _ _ _ c.emit_two.ensures.adds.grows.extends (extends_twice _ _ _ c.pick_number.ensures.adds.grows.extends (extends_twice _ _ _ c.piece_offset.ensures.adds.grows.extends c.piece_address.ensures.adds.grows.extends))) c.requires.from

pub piece_word-requires-clause-number : goal.piece_word-requires-clause-number
piece_word-requires-clause-number c = net_lasts _ _ _ _ (extends_twice _ _ _ c.piece_offset.ensures.adds.grows.extends c.piece_address.ensures.adds.grows.extends) c.in_ok-number.ensures.net

pub take_place-requires-clause-wide : goal.take_place-requires-clause-wide
take_place-requires-clause-wide c = record {
  is_net = (extends_twice _ _ _ c.emit_two.ensures.adds.grows.extends (extends_twice _ _ _ c.pick_number.ensures.adds.grows.extends (extends_twice _ _ _ c.piece_offset.ensures.adds.grows.extends (extends_twice _ _ _ c.piece_address.ensures.adds.grows.extends c.piece_word.ensures.adds.grows.extends)))).nets _ _ c.requires.from.enables;
  has_width = c.requires.enables ∙ sym (lanes_of_places _ _ _ _ c.requires.sizes.pieces c.requires.sizes.whole);
}

pub take_place-requires-clause-few : goal.take_place-requires-clause-few
take_place-requires-clause-few c = let whole = lanes_of_places _ _ _ _ c.requires.sizes.pieces c.requires.sizes.whole in let few = c.requires.sizes.few_bytes in omega (arith, whole, few)

pub take_place-requires-clause-place : goal.take_place-requires-clause-place
take_place-requires-clause-place c = net_lasts _ _ _ _ (extends_twice _ _ _ c.piece_offset.ensures.adds.grows.extends (extends_twice _ _ _ c.piece_address.ensures.adds.grows.extends c.piece_word.ensures.adds.grows.extends)) c.in_ok-number.ensures.net

pub width-width-requires : goal.width-width-requires
width-width-requires c = (extends_twice _ _ _ c.emit_two.ensures.adds.grows.extends (extends_twice _ _ _ c.pick_number.ensures.adds.grows.extends (extends_twice _ _ _ c.piece_offset.ensures.adds.grows.extends (extends_twice _ _ _ c.piece_address.ensures.adds.grows.extends (extends_twice _ _ _ c.piece_word.ensures.adds.grows.extends c.take_place.ensures.adds.grows.extends))))).nets _ _ c.requires.from.count

pub constant-requires-clause-fits : goal.constant-requires-clause-fits
constant-requires-clause-fits c = one_fits _ c.width-width.ensures.bounds.0

pub choose-requires-clause-bit : goal.choose-requires-clause-bit
choose-requires-clause-bit c = net_lasts _ _ _ _ (extends_twice _ _ _ c.emit_two.ensures.adds.grows.extends (extends_twice _ _ _ c.pick_number.ensures.adds.grows.extends (extends_twice _ _ _ c.piece_offset.ensures.adds.grows.extends (extends_twice _ _ _ c.piece_address.ensures.adds.grows.extends (extends_twice _ _ _ c.piece_word.ensures.adds.grows.extends (extends_twice _ _ _ c.take_place.ensures.adds.grows.extends (extends_twice _ _ _ c.constant.ensures.adds.grows.extends c.level.ensures.adds.grows.extends))))))) c.requires.above.last

pub choose-requires-clause-one : goal.choose-requires-clause-one
choose-requires-clause-one c =
    let more = net_lasts _ _ _ _ (extends_twice _ _ _ c.emit_two.ensures.adds.grows.extends (extends_twice _ _ _ c.pick_number.ensures.adds.grows.extends (extends_twice _ _ _ c.piece_offset.ensures.adds.grows.extends (extends_twice _ _ _ c.piece_address.ensures.adds.grows.extends (extends_twice _ _ _ c.piece_word.ensures.adds.grows.extends (extends_twice _ _ _ c.take_place.ensures.adds.grows.extends (extends_twice _ _ _ c.constant.ensures.adds.grows.extends c.level.ensures.adds.grows.extends))))))) c.requires.from.more in
    let one = c.in_ok-one.ensures.net in cc

pub choose-requires-clause-other : goal.choose-requires-clause-other
choose-requires-clause-other c =
    let more = net_lasts _ _ _ _ (extends_twice _ _ _ c.emit_two.ensures.adds.grows.extends (extends_twice _ _ _ c.pick_number.ensures.adds.grows.extends (extends_twice _ _ _ c.piece_offset.ensures.adds.grows.extends (extends_twice _ _ _ c.piece_address.ensures.adds.grows.extends (extends_twice _ _ _ c.piece_word.ensures.adds.grows.extends (extends_twice _ _ _ c.take_place.ensures.adds.grows.extends (extends_twice _ _ _ c.constant.ensures.adds.grows.extends c.level.ensures.adds.grows.extends))))))) c.requires.from.more in
    let one = c.in_ok-one.ensures.net in cc

pub returns-clause-command : goal.returns-clause-command
returns-clause-command c = record {
  read = net_lasts _ _ _ _ (extends_twice _ _ _ c.pick_number.ensures.adds.grows.extends (extends_twice _ _ _ c.piece_offset.ensures.adds.grows.extends (extends_twice _ _ _ c.piece_address.ensures.adds.grows.extends (extends_twice _ _ _ c.piece_word.ensures.adds.grows.extends (extends_twice _ _ _ c.take_place.ensures.adds.grows.extends (extends_twice _ _ _ c.constant.ensures.adds.grows.extends (extends_twice _ _ _ c.level.ensures.adds.grows.extends c.choose.ensures.adds.grows.extends))))))) c.in_ok-read.ensures.nets.0;
  write = net_lasts _ _ _ _ (extends_twice _ _ _ c.pick_number.ensures.adds.grows.extends (extends_twice _ _ _ c.piece_offset.ensures.adds.grows.extends (extends_twice _ _ _ c.piece_address.ensures.adds.grows.extends (extends_twice _ _ _ c.piece_word.ensures.adds.grows.extends (extends_twice _ _ _ c.take_place.ensures.adds.grows.extends (extends_twice _ _ _ c.constant.ensures.adds.grows.extends (extends_twice _ _ _ c.level.ensures.adds.grows.extends c.choose.ensures.adds.grows.extends))))))) c.in_ok-read.ensures.nets.1;
  address = (extends_twice _ _ _ c.piece_word.ensures.adds.grows.extends (extends_twice _ _ _ c.take_place.ensures.adds.grows.extends (extends_twice _ _ _ c.constant.ensures.adds.grows.extends (extends_twice _ _ _ c.level.ensures.adds.grows.extends c.choose.ensures.adds.grows.extends)))).nets _ _ c.in_ok-address.ensures.net.is_net;
  word = (extends_twice _ _ _ c.take_place.ensures.adds.grows.extends (extends_twice _ _ _ c.constant.ensures.adds.grows.extends (extends_twice _ _ _ c.level.ensures.adds.grows.extends c.choose.ensures.adds.grows.extends))).nets _ _ c.in_ok-word.ensures.net.is_net;
  enables = (extends_twice _ _ _ c.constant.ensures.adds.grows.extends (extends_twice _ _ _ c.level.ensures.adds.grows.extends c.choose.ensures.adds.grows.extends)).nets _ _ c.in_ok-enables.ensures.net.is_net;
  count = (extends_twice _ _ _ c.level.ensures.adds.grows.extends c.choose.ensures.adds.grows.extends).nets _ _ c.in_ok-count.ensures.net.is_net;
  more = record { is_net = c.in_ok-more.ensures.net.is_net; has_width = let one = c.in_ok-one.ensures.net.has_width in let above = c.requires.from.more.has_width in let more = c.in_ok-more.ensures.net.has_width in cc };
  tag = (extends_twice _ _ _ c.emit_two.ensures.adds.grows.extends (extends_twice _ _ _ c.pick_number.ensures.adds.grows.extends (extends_twice _ _ _ c.piece_offset.ensures.adds.grows.extends (extends_twice _ _ _ c.piece_address.ensures.adds.grows.extends (extends_twice _ _ _ c.piece_word.ensures.adds.grows.extends (extends_twice _ _ _ c.take_place.ensures.adds.grows.extends (extends_twice _ _ _ c.constant.ensures.adds.grows.extends (extends_twice _ _ _ c.level.ensures.adds.grows.extends c.choose.ensures.adds.grows.extends)))))))).nets _ _ c.requires.from.tag;
}

pub returns-clause-widths : goal.returns-clause-widths
returns-clause-widths c =
    let address = c.in_ok-address.ensures.net.has_width in
    let word = c.in_ok-word.ensures.net.has_width in
    let enables = c.in_ok-enables.ensures.net.has_width in
    let count = c.in_ok-count.ensures.net.has_width ∙ c.width-width.ensures.value in
    rw (address, word, enables, count) refl

pub returns-clause-value : goal.returns-clause-value
returns-clause-value c cycle v7 =
    let v6 = c.choose.ensures.adds.grows.extends.valuations cycle v7 in
    let v5 = c.level.ensures.adds.grows.extends.valuations cycle v6 in
    let v4 = c.constant.ensures.adds.grows.extends.valuations cycle v5 in
    let v3 = c.take_place.ensures.adds.grows.extends.valuations cycle v4 in
    let v2 = c.piece_word.ensures.adds.grows.extends.valuations cycle v3 in
    let v1 = c.piece_address.ensures.adds.grows.extends.valuations cycle v2 in
    let v = c.piece_offset.ensures.adds.grows.extends.valuations cycle v1 in
    let v0 = c.pick_number.ensures.adds.grows.extends.valuations cycle v in
    let shown = c.in_ok-read.ensures.values cycle v0 in
    let number = c.in_ok-number.ensures.value cycle v in
    let offset = c.in_ok-offset.ensures.value cycle v1 ∙ ap (λ x. x * c.args.sizes.now.narrow_bytes) number in
    record {
      read = bit_is _ _ (bit_fits _ _ c.in_ok-read.ensures.nets.0 cycle v0) shown.0;
      write = bit_is _ _ (bit_fits _ _ c.in_ok-read.ensures.nets.1 cycle v0) shown.1;
      address = c.in_ok-address.ensures.value cycle v2 ∙ ap₂ (λ x y. cycle.net c.args.from.now.address.number / 2 ^ x * 2 ^ x + y) c.in_ok-offset.ensures.net.has_width offset;
      word = c.in_ok-word.ensures.value cycle v3 ∙ ap (λ n. if is_raised (cycle.net c.args.from.now.write.number) then lane (c.args.sizes.now.narrow_bytes * 8) (cycle.net c.args.from.now.word.number) n else 0) number;
      enables = c.in_ok-enables.ensures.value cycle v4 ∙ taken_is c.args.sizes.now.narrow_bytes (cycle.net c.args.from.now.enables.number) (cycle.net c.in_ok-number.number.number) ∙ ap (lane c.args.sizes.now.narrow_bytes (cycle.net c.args.from.now.enables.number)) number;
      count = c.in_ok-count.ensures.value cycle v5;
      more = let one = c.in_ok-one.ensures.value cycle v6 in let chosen = chosen_raised (cycle.net c.args.above.now.last.number) (cycle.net c.args.from.now.more.number) (cycle.net c.in_ok-one.one.number) in let more = c.in_ok-more.ensures.value cycle v7 in cc;
      tag = refl;
    }
