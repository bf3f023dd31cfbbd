use Rattle.std.proofs.Common.{suc, nat_eq, ap, ap₂, ◌∙◌, arith}
use Rattle.net_parts.specs.Laws.{extends_twice, adds_twice, adds_fewer, net_lasts, width_fits}
use Rattle.net_parts.specs.Refusing.{handed_on}
use Rattle.histories.specs.History.{is_raised}
use Rattle.mm_split.proofs.Bits.{place_is, place_small, fit_two}
use Rattle.command_nets.specs.Groups.{command_lasts}
use Rattle.mm_split.specs.Pieces.{is_marked, count_of, or_first_mask}
use Rattle.mm_split.specs.Parts.{here_of, part_count, shows_part}
use Rattle.command_nets.specs.Nets.{raw_in}
use Rattle.mm_split.proofs.command.look.Goals as goal

pub returns-in_err-mask-clause-adds : goal.returns-in_err-mask-clause-adds
returns-in_err-mask-clause-adds c = adds_fewer _ _ _ _ (omega (arith, fit_two c.args.sizes.now.place_bits 5, c.requires.sizes.few)) (c.touched_mask.ensures.adds)

pub returns-in_err-mask-clause-full : goal.returns-in_err-mask-clause-full
returns-in_err-mask-clause-full c e =
    let full = c.touched_mask.ensures.full (handed_on _ _ _ _ c.in_err-mask.was c.from_residual.ensures.1 e) in
    omega (arith, full, fit_two c.args.sizes.now.place_bits 5, c.requires.sizes.few)

pub returns-in_err-zeros-clause-adds : goal.returns-in_err-zeros-clause-adds
returns-in_err-zeros-clause-adds c = adds_fewer _ _ _ _ (omega (arith, fit_two c.args.sizes.now.place_bits 5, c.requires.sizes.few)) (adds_twice _ _ _ _ _ c.touched_mask.ensures.adds c.constant.ensures.adds)

pub returns-in_err-zeros-clause-full : goal.returns-in_err-zeros-clause-full
returns-in_err-zeros-clause-full c e =
    let most0 = c.touched_mask.ensures.adds.most in
    let full = c.constant.ensures.full (handed_on _ _ _ _ c.in_err-zeros.was c.from_residual-in_err-zeros.ensures.1 e) in
    omega (arith, most0, full, fit_two c.args.sizes.now.place_bits 5, c.requires.sizes.few)

pub returns-in_err-place-clause-adds : goal.returns-in_err-place-clause-adds
returns-in_err-place-clause-adds c = adds_fewer _ _ _ _ (omega (arith, fit_two c.args.sizes.now.place_bits 5, c.requires.sizes.few)) (adds_twice _ _ _ _ _ (adds_twice _ _ _ _ _ c.touched_mask.ensures.adds c.constant.ensures.adds) c.fit_bits.ensures.adds)

pub returns-in_err-place-clause-full : goal.returns-in_err-place-clause-full
returns-in_err-place-clause-full c e =
    let most0 = c.touched_mask.ensures.adds.most in
    let most1 = c.constant.ensures.adds.most in
    let full = c.fit_bits.ensures.full (handed_on _ _ _ _ c.in_err-place.was c.from_residual-in_err-place.ensures.1 e) in
    omega (arith, most0, most1, full, fit_two c.args.sizes.now.place_bits 5, c.requires.sizes.few)

pub returns-in_err-found-clause-adds : goal.returns-in_err-found-clause-adds
returns-in_err-found-clause-adds c = adds_fewer _ _ _ _ (omega (arith, fit_two c.args.sizes.now.place_bits 5, c.requires.sizes.few)) (adds_twice _ _ _ _ _ (adds_twice _ _ _ _ _ (adds_twice _ _ _ _ _ c.touched_mask.ensures.adds c.constant.ensures.adds) c.fit_bits.ensures.adds) c.find.ensures.adds)

pub returns-in_err-found-clause-full : goal.returns-in_err-found-clause-full
returns-in_err-found-clause-full c e =
    let most0 = c.touched_mask.ensures.adds.most in
    let most1 = c.constant.ensures.adds.most in
    let most2 = c.fit_bits.ensures.adds.most in
    let full = c.find.ensures.full (handed_on _ _ _ _ c.in_err-found.was c.from_residual-in_err-found.ensures.1 e) in
    omega (arith, most0, most1, most2, full, fit_two c.args.sizes.now.place_bits 5, c.requires.sizes.few)

pub returns-in_err-asked-clause-adds : goal.returns-in_err-asked-clause-adds
returns-in_err-asked-clause-adds c = adds_fewer _ _ _ _ (omega (arith, fit_two c.args.sizes.now.place_bits 5, c.requires.sizes.few)) (adds_twice _ _ _ _ _ (adds_twice _ _ _ _ _ (adds_twice _ _ _ _ _ (adds_twice _ _ _ _ _ c.touched_mask.ensures.adds c.constant.ensures.adds) c.fit_bits.ensures.adds) c.find.ensures.adds) c.asked_mask.ensures.adds)

pub returns-in_err-asked-clause-full : goal.returns-in_err-asked-clause-full
returns-in_err-asked-clause-full c e =
    let most0 = c.touched_mask.ensures.adds.most in
    let most1 = c.constant.ensures.adds.most in
    let most2 = c.fit_bits.ensures.adds.most in
    let most3 = c.find.ensures.adds.most in
    let full = c.asked_mask.ensures.full (handed_on _ _ _ _ c.in_err-asked.was c.from_residual-in_err-asked.ensures.1 e) in
    omega (arith, most0, most1, most2, most3, full, fit_two c.args.sizes.now.place_bits 5, c.requires.sizes.few)

pub returns-in_err-opens-clause-adds : goal.returns-in_err-opens-clause-adds
returns-in_err-opens-clause-adds c = adds_fewer _ _ _ _ (omega (arith, fit_two c.args.sizes.now.place_bits 5, c.requires.sizes.few)) (adds_twice _ _ _ _ _ (adds_twice _ _ _ _ _ (adds_twice _ _ _ _ _ (adds_twice _ _ _ _ _ (adds_twice _ _ _ _ _ c.touched_mask.ensures.adds c.constant.ensures.adds) c.fit_bits.ensures.adds) c.find.ensures.adds) c.asked_mask.ensures.adds) c.opens.ensures.adds)

pub returns-in_err-opens-clause-full : goal.returns-in_err-opens-clause-full
returns-in_err-opens-clause-full c e =
    let most0 = c.touched_mask.ensures.adds.most in
    let most1 = c.constant.ensures.adds.most in
    let most2 = c.fit_bits.ensures.adds.most in
    let most3 = c.find.ensures.adds.most in
    let most4 = c.asked_mask.ensures.adds.most in
    let full = c.opens.ensures.full (handed_on _ _ _ _ c.in_err-opens.was c.from_residual-in_err-opens.ensures.1 e) in
    omega (arith, most0, most1, most2, most3, most4, full, fit_two c.args.sizes.now.place_bits 5, c.requires.sizes.few)

pub returns-in_err-parts-clause-adds : goal.returns-in_err-parts-clause-adds
returns-in_err-parts-clause-adds c = adds_fewer _ _ _ _ (omega (arith, fit_two c.args.sizes.now.place_bits 5, c.requires.sizes.few)) (adds_twice _ _ _ _ _ (adds_twice _ _ _ _ _ (adds_twice _ _ _ _ _ (adds_twice _ _ _ _ _ (adds_twice _ _ _ _ _ (adds_twice _ _ _ _ _ c.touched_mask.ensures.adds c.constant.ensures.adds) c.fit_bits.ensures.adds) c.find.ensures.adds) c.asked_mask.ensures.adds) c.opens.ensures.adds) c.count_parts.ensures.adds)

pub returns-in_err-parts-clause-full : goal.returns-in_err-parts-clause-full
returns-in_err-parts-clause-full c e =
    let most0 = c.touched_mask.ensures.adds.most in
    let most1 = c.constant.ensures.adds.most in
    let most2 = c.fit_bits.ensures.adds.most in
    let most3 = c.find.ensures.adds.most in
    let most4 = c.asked_mask.ensures.adds.most in
    let most5 = c.opens.ensures.adds.most in
    let full = c.count_parts.ensures.full (handed_on _ _ _ _ c.in_err-parts.was c.from_residual-in_err-parts.ensures.1 e) in
    omega (arith, most0, most1, most2, most3, most4, most5, full, fit_two c.args.sizes.now.place_bits 5, c.requires.sizes.few)

pub returns-in_err-above-clause-adds : goal.returns-in_err-above-clause-adds
returns-in_err-above-clause-adds c = adds_fewer _ _ _ _ (omega (arith, fit_two c.args.sizes.now.place_bits 5, c.requires.sizes.few)) (adds_twice _ _ _ _ _ (adds_twice _ _ _ _ _ (adds_twice _ _ _ _ _ (adds_twice _ _ _ _ _ (adds_twice _ _ _ _ _ (adds_twice _ _ _ _ _ (adds_twice _ _ _ _ _ c.touched_mask.ensures.adds c.constant.ensures.adds) c.fit_bits.ensures.adds) c.find.ensures.adds) c.asked_mask.ensures.adds) c.opens.ensures.adds) c.count_parts.ensures.adds) c.look_above.ensures.adds)

pub returns-in_err-above-clause-full : goal.returns-in_err-above-clause-full
returns-in_err-above-clause-full c e =
    let most0 = c.touched_mask.ensures.adds.most in
    let most1 = c.constant.ensures.adds.most in
    let most2 = c.fit_bits.ensures.adds.most in
    let most3 = c.find.ensures.adds.most in
    let most4 = c.asked_mask.ensures.adds.most in
    let most5 = c.opens.ensures.adds.most in
    let most6 = c.count_parts.ensures.adds.most in
    let full = c.look_above.ensures.full (handed_on _ _ _ _ c.in_err-above.was c.from_residual-in_err-above.ensures.1 e) in
    omega (arith, most0, most1, most2, most3, most4, most5, most6, full, fit_two c.args.sizes.now.place_bits 5, c.requires.sizes.few)

pub returns-clause-adds : goal.returns-clause-adds
returns-clause-adds c = adds_fewer _ _ _ _ (omega (arith, fit_two c.args.sizes.now.place_bits 5, c.requires.sizes.few)) (adds_twice _ _ _ _ _ (adds_twice _ _ _ _ _ (adds_twice _ _ _ _ _ (adds_twice _ _ _ _ _ (adds_twice _ _ _ _ _ (adds_twice _ _ _ _ _ (adds_twice _ _ _ _ _ c.touched_mask.ensures.adds c.constant.ensures.adds) c.fit_bits.ensures.adds) c.find.ensures.adds) c.asked_mask.ensures.adds) c.opens.ensures.adds) c.count_parts.ensures.adds) c.look_above.ensures.adds)

pub returns-clause-full : goal.returns-clause-full
returns-clause-full c e = cc

pub find-requires-clause-search : goal.find-requires-clause-search
find-requires-clause-search c = record {
  mask = (extends_twice _ _ _ c.constant.ensures.adds.grows.extends c.fit_bits.ensures.adds.grows.extends).nets _ _ c.in_ok-mask.ensures.net.is_net;
  place = c.in_ok-place.ensures.net;
  zeros = record { net = net_lasts _ _ _ _ c.fit_bits.ensures.adds.grows.extends c.in_ok-zeros.ensures.net; value = λ cycle v. c.in_ok-zeros.ensures.value cycle (c.fit_bits.ensures.adds.grows.extends.valuations cycle v) };
}

pub count_parts-requires-clause-from : goal.count_parts-requires-clause-from
count_parts-requires-clause-from c = command_lasts _ _ _ (extends_twice _ _ _ c.touched_mask.ensures.adds.grows.extends (extends_twice _ _ _ c.constant.ensures.adds.grows.extends (extends_twice _ _ _ c.fit_bits.ensures.adds.grows.extends (extends_twice _ _ _ c.find.ensures.adds.grows.extends (extends_twice _ _ _ c.asked_mask.ensures.adds.grows.extends c.opens.ensures.adds.grows.extends))))) c.requires.from

pub count_parts-requires-clause-touched : goal.count_parts-requires-clause-touched
count_parts-requires-clause-touched c = net_lasts _ _ _ _ (extends_twice _ _ _ c.asked_mask.ensures.adds.grows.extends c.opens.ensures.adds.grows.extends) c.in_ok-found.ensures.count_net

pub look_above-requires-clause-from : goal.look_above-requires-clause-from
look_above-requires-clause-from c = command_lasts _ _ _ (extends_twice _ _ _ c.touched_mask.ensures.adds.grows.extends (extends_twice _ _ _ c.constant.ensures.adds.grows.extends (extends_twice _ _ _ c.fit_bits.ensures.adds.grows.extends (extends_twice _ _ _ c.find.ensures.adds.grows.extends (extends_twice _ _ _ c.asked_mask.ensures.adds.grows.extends (extends_twice _ _ _ c.opens.ensures.adds.grows.extends c.count_parts.ensures.adds.grows.extends)))))) c.requires.from

pub look_above-requires-clause-place : goal.look_above-requires-clause-place
look_above-requires-clause-place c = net_lasts _ _ _ _ (extends_twice _ _ _ c.find.ensures.adds.grows.extends (extends_twice _ _ _ c.asked_mask.ensures.adds.grows.extends (extends_twice _ _ _ c.opens.ensures.adds.grows.extends c.count_parts.ensures.adds.grows.extends))) c.in_ok-place.ensures.net

pub look_above-requires-clause-small : goal.look_above-requires-clause-small
look_above-requires-clause-small c cycle v =
    let v2 = (extends_twice _ _ _ c.find.ensures.adds.grows.extends (extends_twice _ _ _ c.asked_mask.ensures.adds.grows.extends (extends_twice _ _ _ c.opens.ensures.adds.grows.extends c.count_parts.ensures.adds.grows.extends))).valuations cycle v in
    let v1 = c.fit_bits.ensures.adds.grows.extends.valuations cycle v2 in
    let fits = width_fits _ _ _ (net_lasts _ _ _ _ (extends_twice _ _ _ c.touched_mask.ensures.adds.grows.extends c.constant.ensures.adds.grows.extends) c.requires.registers.place) cycle v1 in
    let e = place_is _ _ _ c.requires.sizes.few_bits fits (c.in_ok-place.ensures.value cycle v2) in
    let small = place_small _ _ c.requires.sizes.few_bits fits in
    omega (arith, e, small)

pub returns-clause-here_net : goal.returns-clause-here_net
returns-clause-here_net c = net_lasts _ _ _ _ (extends_twice _ _ _ c.asked_mask.ensures.adds.grows.extends (extends_twice _ _ _ c.opens.ensures.adds.grows.extends (extends_twice _ _ _ c.count_parts.ensures.adds.grows.extends c.look_above.ensures.adds.grows.extends))) c.in_ok-found.ensures.here_net

pub returns-clause-asked_net : goal.returns-clause-asked_net
returns-clause-asked_net c = net_lasts _ _ _ _ (extends_twice _ _ _ c.opens.ensures.adds.grows.extends (extends_twice _ _ _ c.count_parts.ensures.adds.grows.extends c.look_above.ensures.adds.grows.extends)) c.in_ok-asked.ensures.net

pub returns-clause-opens_net : goal.returns-clause-opens_net
returns-clause-opens_net c = net_lasts _ _ _ _ (extends_twice _ _ _ c.count_parts.ensures.adds.grows.extends c.look_above.ensures.adds.grows.extends) c.in_ok-opens.ensures.net

pub returns-clause-above_nets : goal.returns-clause-above_nets
returns-clause-above_nets c = record { shows = c.in_ok-above.ensures.shows_net; last = c.in_ok-above.ensures.last_net; none = c.in_ok-above.ensures.none_net }

pub returns-clause-here : goal.returns-clause-here
returns-clause-here c cycle v =
    let v6 = c.look_above.ensures.adds.grows.extends.valuations cycle v in
    let v5 = c.count_parts.ensures.adds.grows.extends.valuations cycle v6 in
    let v4 = c.opens.ensures.adds.grows.extends.valuations cycle v5 in
    let v3 = c.asked_mask.ensures.adds.grows.extends.valuations cycle v4 in
    let v2 = c.find.ensures.adds.grows.extends.valuations cycle v3 in
    let v1 = c.fit_bits.ensures.adds.grows.extends.valuations cycle v2 in
    let v0 = c.constant.ensures.adds.grows.extends.valuations cycle v1 in
    let mask = c.in_ok-mask.ensures.value cycle v0 in
    let place = place_is _ _ _ c.requires.sizes.few_bits (width_fits _ _ _ (net_lasts _ _ _ _ (extends_twice _ _ _ c.touched_mask.ensures.adds.grows.extends c.constant.ensures.adds.grows.extends) c.requires.registers.place) cycle v1) (c.in_ok-place.ensures.value cycle v2) in
    (c.in_ok-found.ensures.value cycle v3).here_is ∙ ap₂ (λ x y. here_of c.args.sizes.now x y) mask place

pub returns-clause-above : goal.returns-clause-above
returns-clause-above c cycle v =
    let v6 = c.look_above.ensures.adds.grows.extends.valuations cycle v in
    let v5 = c.count_parts.ensures.adds.grows.extends.valuations cycle v6 in
    let v4 = c.opens.ensures.adds.grows.extends.valuations cycle v5 in
    let v3 = c.asked_mask.ensures.adds.grows.extends.valuations cycle v4 in
    let v2 = c.find.ensures.adds.grows.extends.valuations cycle v3 in
    let v1 = c.fit_bits.ensures.adds.grows.extends.valuations cycle v2 in
    let v0 = c.constant.ensures.adds.grows.extends.valuations cycle v1 in
    let mask = c.in_ok-mask.ensures.value cycle v0 in
    let place = place_is _ _ _ c.requires.sizes.few_bits (width_fits _ _ _ (net_lasts _ _ _ _ (extends_twice _ _ _ c.touched_mask.ensures.adds.grows.extends c.constant.ensures.adds.grows.extends) c.requires.registers.place) cycle v1) (c.in_ok-place.ensures.value cycle v2) in
    let count = (c.in_ok-found.ensures.value cycle v3).count_is ∙ ap (λ x. count_of (is_marked x) c.args.sizes.now.pieces) mask in
    let parts = c.in_ok-parts.ensures.value cycle v6 ∙ ap (part_count (raw_in cycle c.args.from.now)) count in
    record {
      asked_is = c.in_ok-asked.ensures.value cycle v4 ∙ ap or_first_mask mask;
      opens_is = c.in_ok-opens.ensures.value cycle v5;
      shows_is = c.in_ok-above.ensures.shows cycle v ∙ ap₂ (λ x y. shows_part (raw_in cycle c.args.from.now) (is_raised (cycle.net c.in_ok-opens.opens.number)) x y) place parts;
      last_is = c.in_ok-above.ensures.last cycle v ∙ ap₂ (λ x y. nat_eq (suc x) y) place parts;
      none_is = c.in_ok-above.ensures.none cycle v ∙ ap (λ y. nat_eq y 0) parts;
    }
