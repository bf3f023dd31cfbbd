use Rattle.std.proofs.Common.{◌-◌, ◌*◌, suc, nat_lt, sym, ap, ap₂, ◌∙◌, arith}
use Rattle.net_parts.specs.Laws.{extends_twice, adds_twice, adds_fewer, net_lasts, width_fits}
use Rattle.net_parts.specs.Refusing.{handed_on}
use Rattle.mm_split.proofs.Bits.{place_is, fit_two}
use Rattle.mm_split.specs.Pieces.{is_marked, fill}
use Rattle.mm_split.specs.Parts.{here_of}
use Rattle.mm_split.proofs.answer.come.Goals as goal

pub returns-in_err-zeros-clause-adds : goal.returns-in_err-zeros-clause-adds
returns-in_err-zeros-clause-adds c = adds_fewer _ _ _ _ (omega (arith, fit_two c.args.sizes.now.place_bits 5, c.requires.sizes.few)) (c.constant.ensures.adds)

pub returns-in_err-zeros-clause-full : goal.returns-in_err-zeros-clause-full
returns-in_err-zeros-clause-full c e =
    let full = c.constant.ensures.full (handed_on _ _ _ _ c.in_err-zeros.was c.from_residual.ensures.1 e) in
    omega (arith, full, fit_two c.args.sizes.now.place_bits 5, c.requires.sizes.few)

pub returns-in_err-place-clause-adds : goal.returns-in_err-place-clause-adds
returns-in_err-place-clause-adds c = adds_fewer _ _ _ _ (omega (arith, fit_two c.args.sizes.now.place_bits 5, c.requires.sizes.few)) (adds_twice _ _ _ _ _ c.constant.ensures.adds c.fit_bits.ensures.adds)

pub returns-in_err-place-clause-full : goal.returns-in_err-place-clause-full
returns-in_err-place-clause-full c e =
    let most0 = c.constant.ensures.adds.most in
    let full = c.fit_bits.ensures.full (handed_on _ _ _ _ c.in_err-place.was c.from_residual-in_err-place.ensures.1 e) in
    omega (arith, most0, full, fit_two c.args.sizes.now.place_bits 5, c.requires.sizes.few)

pub returns-in_err-found-clause-adds : goal.returns-in_err-found-clause-adds
returns-in_err-found-clause-adds c = adds_fewer _ _ _ _ (omega (arith, fit_two c.args.sizes.now.place_bits 5, c.requires.sizes.few)) (adds_twice _ _ _ _ _ (adds_twice _ _ _ _ _ c.constant.ensures.adds c.fit_bits.ensures.adds) c.find.ensures.adds)

pub returns-in_err-found-clause-full : goal.returns-in_err-found-clause-full
returns-in_err-found-clause-full c e =
    let most0 = c.constant.ensures.adds.most in
    let most1 = c.fit_bits.ensures.adds.most in
    let full = c.find.ensures.full (handed_on _ _ _ _ c.in_err-found.was c.from_residual-in_err-found.ensures.1 e) in
    omega (arith, most0, most1, full, fit_two c.args.sizes.now.place_bits 5, c.requires.sizes.few)

pub returns-in_err-completes-clause-adds : goal.returns-in_err-completes-clause-adds
returns-in_err-completes-clause-adds c = adds_fewer _ _ _ _ (omega (arith, fit_two c.args.sizes.now.place_bits 5, c.requires.sizes.few)) (adds_twice _ _ _ _ _ (adds_twice _ _ _ _ _ (adds_twice _ _ _ _ _ c.constant.ensures.adds c.fit_bits.ensures.adds) c.find.ensures.adds) c.completes.ensures.adds)

pub returns-in_err-completes-clause-full : goal.returns-in_err-completes-clause-full
returns-in_err-completes-clause-full c e =
    let most0 = c.constant.ensures.adds.most in
    let most1 = c.fit_bits.ensures.adds.most in
    let most2 = c.find.ensures.adds.most in
    let full = c.completes.ensures.full (handed_on _ _ _ _ c.in_err-completes.was c.from_residual-in_err-completes.ensures.1 e) in
    omega (arith, most0, most1, most2, full, fit_two c.args.sizes.now.place_bits 5, c.requires.sizes.few)

pub returns-in_err-gathered-clause-adds : goal.returns-in_err-gathered-clause-adds
returns-in_err-gathered-clause-adds c = adds_fewer _ _ _ _ (omega (arith, fit_two c.args.sizes.now.place_bits 5, c.requires.sizes.few)) (adds_twice _ _ _ _ _ (adds_twice _ _ _ _ _ (adds_twice _ _ _ _ _ (adds_twice _ _ _ _ _ c.constant.ensures.adds c.fit_bits.ensures.adds) c.find.ensures.adds) c.completes.ensures.adds) c.fill_word.ensures.adds)

pub returns-in_err-gathered-clause-full : goal.returns-in_err-gathered-clause-full
returns-in_err-gathered-clause-full c e =
    let most0 = c.constant.ensures.adds.most in
    let most1 = c.fit_bits.ensures.adds.most in
    let most2 = c.find.ensures.adds.most in
    let most3 = c.completes.ensures.adds.most in
    let full = c.fill_word.ensures.full (handed_on _ _ _ _ c.in_err-gathered.was c.from_residual-in_err-gathered.ensures.1 e) in
    omega (arith, most0, most1, most2, most3, full, fit_two c.args.sizes.now.place_bits 5, c.requires.sizes.few)

pub returns-in_err-code-clause-adds : goal.returns-in_err-code-clause-adds
returns-in_err-code-clause-adds c = adds_fewer _ _ _ _ (omega (arith, fit_two c.args.sizes.now.place_bits 5, c.requires.sizes.few)) (adds_twice _ _ _ _ _ (adds_twice _ _ _ _ _ (adds_twice _ _ _ _ _ (adds_twice _ _ _ _ _ (adds_twice _ _ _ _ _ c.constant.ensures.adds c.fit_bits.ensures.adds) c.find.ensures.adds) c.completes.ensures.adds) c.fill_word.ensures.adds) c.greater.ensures.adds)

pub returns-in_err-code-clause-full : goal.returns-in_err-code-clause-full
returns-in_err-code-clause-full c e =
    let most0 = c.constant.ensures.adds.most in
    let most1 = c.fit_bits.ensures.adds.most in
    let most2 = c.find.ensures.adds.most in
    let most3 = c.completes.ensures.adds.most in
    let most4 = c.fill_word.ensures.adds.most in
    let full = c.greater.ensures.full (handed_on _ _ _ _ c.in_err-code.was c.from_residual-in_err-code.ensures.1 e) in
    omega (arith, most0, most1, most2, most3, most4, full, fit_two c.args.sizes.now.place_bits 5, c.requires.sizes.few)

pub returns-clause-adds : goal.returns-clause-adds
returns-clause-adds c = adds_fewer _ _ _ _ (omega (arith, fit_two c.args.sizes.now.place_bits 5, c.requires.sizes.few)) (adds_twice _ _ _ _ _ (adds_twice _ _ _ _ _ (adds_twice _ _ _ _ _ (adds_twice _ _ _ _ _ (adds_twice _ _ _ _ _ c.constant.ensures.adds c.fit_bits.ensures.adds) c.find.ensures.adds) c.completes.ensures.adds) c.fill_word.ensures.adds) c.greater.ensures.adds)

pub returns-clause-full : goal.returns-clause-full
returns-clause-full c e = cc

pub find-requires-clause-search : goal.find-requires-clause-search
find-requires-clause-search c = record {
  mask = (extends_twice _ _ _ c.constant.ensures.adds.grows.extends c.fit_bits.ensures.adds.grows.extends).nets _ _ c.requires.registers.set.is_net;
  place = c.in_ok-place.ensures.net;
  zeros = record { net = net_lasts _ _ _ _ c.fit_bits.ensures.adds.grows.extends c.in_ok-zeros.ensures.net; value = λ cycle v. c.in_ok-zeros.ensures.value cycle (c.fit_bits.ensures.adds.grows.extends.valuations cycle v) };
}

pub greater-requires-clause-one : goal.greater-requires-clause-one
greater-requires-clause-one c = (extends_twice _ _ _ c.constant.ensures.adds.grows.extends (extends_twice _ _ _ c.fit_bits.ensures.adds.grows.extends (extends_twice _ _ _ c.find.ensures.adds.grows.extends (extends_twice _ _ _ c.completes.ensures.adds.grows.extends c.fill_word.ensures.adds.grows.extends)))).nets _ _ c.requires.registers.code.is_net

pub greater-requires-clause-other : goal.greater-requires-clause-other
greater-requires-clause-other c =
    let code = net_lasts _ _ _ _ (extends_twice _ _ _ c.constant.ensures.adds.grows.extends (extends_twice _ _ _ c.fit_bits.ensures.adds.grows.extends (extends_twice _ _ _ c.find.ensures.adds.grows.extends (extends_twice _ _ _ c.completes.ensures.adds.grows.extends c.fill_word.ensures.adds.grows.extends)))) c.requires.answer.code in
    record { is_net = code.is_net; has_width = code.has_width ∙ sym c.requires.registers.code.has_width }

pub returns-clause-nets : goal.returns-clause-nets
returns-clause-nets c = record {
  word = net_lasts _ _ _ _ c.greater.ensures.adds.grows.extends c.in_ok-gathered.ensures.word_net;
  low = net_lasts _ _ _ _ c.greater.ensures.adds.grows.extends c.in_ok-gathered.ensures.low_net;
  code = record { is_net = c.in_ok-code.ensures.net.is_net; has_width = c.in_ok-code.ensures.net.has_width ∙ c.requires.registers.code.has_width };
  completes = net_lasts _ _ _ _ (extends_twice _ _ _ c.fill_word.ensures.adds.grows.extends c.greater.ensures.adds.grows.extends) c.in_ok-completes.ensures.net;
}

pub returns-clause-value : goal.returns-clause-value
returns-clause-value c cycle v =
    let v4 = c.greater.ensures.adds.grows.extends.valuations cycle v in
    let v3 = c.fill_word.ensures.adds.grows.extends.valuations cycle v4 in
    let v2 = c.completes.ensures.adds.grows.extends.valuations cycle v3 in
    let v1 = c.find.ensures.adds.grows.extends.valuations cycle v2 in
    let v0 = c.fit_bits.ensures.adds.grows.extends.valuations cycle v1 in
    let place = place_is _ _ _ c.requires.sizes.few_bits (width_fits _ _ _ (net_lasts _ _ _ _ c.constant.ensures.adds.grows.extends c.requires.registers.come) cycle v0) (c.in_ok-place.ensures.value cycle v1) in
    let here = (c.in_ok-found.ensures.value cycle v2).here_is ∙ ap (here_of c.args.sizes.now (cycle.net c.args.registers.now.set.number)) place in
    let count = (c.in_ok-found.ensures.value cycle v2).count_is in
    record {
      completes = c.in_ok-completes.ensures.value cycle v3 ∙ ap₂ (λ x y. nat_lt x (suc (suc y))) count place;
      word = c.in_ok-gathered.ensures.word cycle v4;
      low = c.in_ok-gathered.ensures.low cycle v4 ∙ ap (λ m. fill (is_marked m) (c.args.sizes.now.narrow_bytes * 8) (cycle.net c.args.registers.now.word.number) (cycle.net c.args.answer.now.word.number) (c.args.sizes.now.pieces - 1)) here;
      code = c.in_ok-code.ensures.value cycle v;
    }
