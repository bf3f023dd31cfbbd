use Rattle.std.proofs.Common.{◌^◌, ◌∙◌, arith, sym}
use Rattle.histories.specs.History.{is_raised, one_if}
use Rattle.netlist.specs.Runs.{Always}
use Rattle.net_parts.specs.Laws.{if_ok, bit_fits, adds_fewer, grows_once, adds_twice, net_lasts}
use Rattle.net_parts.specs.Refusing.{handed_on}
use Rattle.net_parts.specs.Nets.{IsNetOfWidth}
use Rattle.mm_route.specs.Backward.{IsNextOwed}
use Rattle.mm_route.proofs.Levels.{owed_level}
use Rattle.mm_route.proofs.next.next_owed.Goals as goal
use Rattle.net_parts.specs.Fitting.{fits_in_two}

pub returns-clause-value : goal.returns-clause-value
returns-clause-value c =
    if_ok c.sub.result _ (λ next. Always c.sub.new.self (λ cycle. IsNextOwed (2 ^ c.args.room_bits) (cycle.net c.args.owed.number) (cycle.net c.args.asked.number) (one_if (is_raised (cycle.net c.args.valid.number))) (cycle.net next.number)))
    (λ next value cycle v3. (
    let v2 = c.sub.ensures.extends.valuations cycle v3 in
    let v1 = c.in_ok-word.ensures.adds.grows.extends.valuations cycle v2 in
    let v0 = c.in_ok-sum.ensures.extends.valuations cycle v1 in
    owed_level c.args.room_bits c.args.owed.width c.in_ok-sum.sum.width _ _ _ _ _ _ c.requires.some c.requires.owed.has_width (c.in_ok-sum.ensures.net.1 ∙ c.requires.owed.has_width) (bit_fits _ _ c.requires.valid cycle v0)
    (c.in_ok-sum.ensures.value cycle v1).1 (c.in_ok-word.ensures.value cycle v2) (value cycle v3).1))
    c.sub.ensures.value

pub returns-in_err-sum-clause-adds : goal.returns-in_err-sum-clause-adds
returns-in_err-sum-clause-adds c = let few = fits_in_two 1 c.args.room_bits in adds_fewer _ _ _ _ (omega (arith, few)) (grows_once _ _ c.add.ensures.extends c.add.ensures.grows)

pub returns-in_err-sum-clause-full : goal.returns-in_err-sum-clause-full
returns-in_err-sum-clause-full c e = let few = fits_in_two 1 c.args.room_bits in let full = c.add.ensures.full.0 (handed_on _ _ _ _ c.in_err-sum.was c.from_residual.ensures.1 e) in omega (arith, few, full)

pub returns-in_err-word-clause-adds : goal.returns-in_err-word-clause-adds
returns-in_err-word-clause-adds c = let few = fits_in_two 1 c.args.room_bits in adds_fewer _ _ _ _ (omega (arith, few)) (adds_twice _ _ _ _ _ (grows_once _ _ c.add.ensures.extends c.add.ensures.grows) c.fit_bits.ensures.adds)

pub returns-in_err-word-clause-full : goal.returns-in_err-word-clause-full
returns-in_err-word-clause-full c e = let few = fits_in_two 1 c.args.room_bits in let most = c.add.ensures.grows.most in let full = c.fit_bits.ensures.full (handed_on _ _ _ _ c.in_err-word.was c.from_residual-in_err-word.ensures.1 e) in omega (arith, few, most, full)

pub returns-clause-adds : goal.returns-clause-adds
returns-clause-adds c = let few = fits_in_two 1 c.args.room_bits in adds_fewer _ _ _ _ (omega (arith, few)) (adds_twice _ _ _ _ _ (adds_twice _ _ _ _ _ (grows_once _ _ c.add.ensures.extends c.add.ensures.grows) c.fit_bits.ensures.adds) (grows_once _ _ c.sub.ensures.extends c.sub.ensures.grows))

pub returns-clause-full : goal.returns-clause-full
returns-clause-full c e = let few = fits_in_two 1 c.args.room_bits in let most = c.add.ensures.grows.most in let most2 = c.fit_bits.ensures.adds.most in let full = c.sub.ensures.full.0 e in omega (arith, few, most, most2, full)

pub add-requires-clause-a_is : goal.add-requires-clause-a_is
add-requires-clause-a_is c = c.requires.owed.is_net

pub add-requires-clause-b_is : goal.add-requires-clause-b_is
add-requires-clause-b_is c = c.requires.asked.is_net

pub add-requires-clause-widths : goal.add-requires-clause-widths
add-requires-clause-widths c = c.requires.owed.has_width ∙ sym c.requires.asked.has_width

pub fit_bits-requires-clause-net : goal.fit_bits-requires-clause-net
fit_bits-requires-clause-net c = net_lasts _ _ _ 1 c.add.ensures.extends c.requires.valid

pub sub-requires-clause-a_is : goal.sub-requires-clause-a_is
sub-requires-clause-a_is c = c.fit_bits.ensures.adds.grows.extends.nets _ _ c.in_ok-sum.ensures.net.0

pub sub-requires-clause-b_is : goal.sub-requires-clause-b_is
sub-requires-clause-b_is c = c.in_ok-word.ensures.net.is_net

pub sub-requires-clause-widths : goal.sub-requires-clause-widths
sub-requires-clause-widths c = c.in_ok-sum.ensures.net.1 ∙ c.requires.owed.has_width ∙ sym c.in_ok-word.ensures.net.has_width

pub returns-clause-net : goal.returns-clause-net
returns-clause-net c = if_ok c.sub.result _ (λ next. IsNetOfWidth c.sub.new.self next c.args.room_bits) (λ next net. record { is_net = net.0; has_width = net.1 ∙ (c.in_ok-sum.ensures.net.1 ∙ c.requires.owed.has_width) }) c.sub.ensures.net
