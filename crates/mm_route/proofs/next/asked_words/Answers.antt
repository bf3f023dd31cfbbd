use Rattle.std.proofs.Common.{◌≡◌, ◌%◌, ◌^◌, if◌then◌else◌, arith, sym, ◌∙◌}
use Rattle.histories.specs.History.{is_raised}
use Rattle.netlist.specs.Runs.{Always}
use Rattle.net_parts.specs.Laws.{if_ok, bit_fits, adds_fewer, adds_twice, extends_twice, net_lasts}
use Rattle.net_parts.specs.Refusing.{handed_on}
use Rattle.net_parts.specs.Nets.{IsNetOfWidth}
use Rattle.mm_route.proofs.Levels.{asked_level}
use Rattle.mm_route.proofs.next.asked_words.Goals as goal
use Rattle.net_parts.specs.Fitting.{fits_in_two}

pub returns-clause-value : goal.returns-clause-value
returns-clause-value c =
    if_ok c.choose.result _ (λ asked. Always c.choose.new.builder (λ cycle. cycle.net asked.number ≡ (if is_raised (cycle.net c.args.taken.number) then cycle.net c.args.count.number else 0) % 2 ^ c.args.room_bits))
    (λ asked value cycle v3. (
    let v2 = c.choose.ensures.adds.grows.extends.valuations cycle v3 in
    let v1 = c.in_ok-none.ensures.adds.grows.extends.valuations cycle v2 in
    let v0 = c.in_ok-words.ensures.adds.grows.extends.valuations cycle v1 in
    asked_level c.args.room_bits (cycle.net c.args.taken.number) (cycle.net c.args.count.number) _ _ _ c.requires.some (bit_fits _ _ c.requires.taken cycle v0) (c.in_ok-words.ensures.value cycle v1) (c.in_ok-none.ensures.value cycle v2) (value cycle v3)))
    c.choose.ensures.value

pub returns-in_err-words-clause-adds : goal.returns-in_err-words-clause-adds
returns-in_err-words-clause-adds c = let few = fits_in_two c.width-bits.result c.args.room_bits in adds_fewer _ _ _ _ (omega (arith, few)) c.fit_bits.ensures.adds

pub returns-in_err-words-clause-full : goal.returns-in_err-words-clause-full
returns-in_err-words-clause-full c e = let few = fits_in_two c.width-bits.result c.args.room_bits in let full = c.fit_bits.ensures.full (handed_on _ _ _ _ c.in_err-words.was c.from_residual.ensures.1 e) in omega (arith, few, full)

pub returns-in_err-none-clause-adds : goal.returns-in_err-none-clause-adds
returns-in_err-none-clause-adds c = let few = fits_in_two c.width-bits.result c.args.room_bits in adds_fewer _ _ _ _ (omega (arith, few)) (adds_twice _ _ _ _ _ c.fit_bits.ensures.adds c.constant.ensures.adds)

pub returns-in_err-none-clause-full : goal.returns-in_err-none-clause-full
returns-in_err-none-clause-full c e = let few = fits_in_two c.width-bits.result c.args.room_bits in let most = c.fit_bits.ensures.adds.most in let full = c.constant.ensures.full (handed_on _ _ _ _ c.in_err-none.was c.from_residual-in_err-none.ensures.1 e) in omega (arith, few, most, full)

pub returns-clause-adds : goal.returns-clause-adds
returns-clause-adds c = let few = fits_in_two c.width-bits.result c.args.room_bits in adds_fewer _ _ _ _ (omega (arith, few)) (adds_twice _ _ _ _ _ (adds_twice _ _ _ _ _ c.fit_bits.ensures.adds c.constant.ensures.adds) c.choose.ensures.adds)

pub returns-clause-full : goal.returns-clause-full
returns-clause-full c e = let few = fits_in_two c.width-bits.result c.args.room_bits in let most = c.fit_bits.ensures.adds.most in let most2 = c.constant.ensures.adds.most in let full = c.choose.ensures.full e in omega (arith, few, most, most2, full)

pub choose-requires-clause-bit : goal.choose-requires-clause-bit
choose-requires-clause-bit c = net_lasts _ _ _ 1 (extends_twice _ _ _ c.fit_bits.ensures.adds.grows.extends c.constant.ensures.adds.grows.extends) c.requires.taken

pub choose-requires-clause-one : goal.choose-requires-clause-one
choose-requires-clause-one c = c.constant.ensures.adds.grows.extends.nets _ _ c.in_ok-words.ensures.net.is_net

pub choose-requires-clause-other : goal.choose-requires-clause-other
choose-requires-clause-other c = c.in_ok-none.ensures.net.is_net

pub choose-requires-clause-widths : goal.choose-requires-clause-widths
choose-requires-clause-widths c = c.in_ok-words.ensures.net.has_width ∙ sym c.in_ok-none.ensures.net.has_width

pub returns-clause-net : goal.returns-clause-net
returns-clause-net c = if_ok c.choose.result _ (λ asked. IsNetOfWidth c.choose.new.builder asked c.args.room_bits) (λ asked net. record { is_net = net.is_net; has_width = net.has_width ∙ c.in_ok-words.ensures.net.has_width }) c.choose.ensures.net
