use Rattle.std.proofs.Common.{◌≡◌, ◌*◌, ◌∙◌, arith, sym}
use Rattle.netlist.specs.Runs.{Always}
use Rattle.net_parts.specs.Nets.{IsNetOfWidth}
use Rattle.net_parts.specs.Laws.{grows_once, adds_twice, adds_fewer, if_ok, extends_twice}
use Rattle.st_format.specs.WidenNets.{part_at}
use Rattle.st_format.proofs.WidenLemmas.{coming_at, old_bits}
use Rattle.stage_core.specs.Refusing.{handed_on}
use Rattle.st_format.proofs.widen.lay_part.Goals as goal

pub returns-clause-net : goal.returns-clause-net
returns-clause-net c = if_ok c.mux.result _ (λ laid. IsNetOfWidth c.mux.new.self laid (c.args.sizes.now.bits * c.args.sizes.now.symbols)) (λ laid net. record { is_net = net.0; has_width = net.1 ∙ c.requires.coming.has_width }) c.mux.ensures.net

pub returns-clause-value : goal.returns-clause-value
returns-clause-value c =
    if_ok c.mux.result _ (λ laid. Always c.mux.new.self (λ cycle. cycle.net laid.number ≡ part_at c.args.sizes.now.bits c.args.sizes.now.symbols c.args.sizes.now.parts (cycle.net c.args.held.number) (cycle.net c.args.coming.number) (cycle.net c.args.gathered.number) c.args.part))
    (λ laid value cycle v4. (
    let v3 = c.mux.ensures.extends.valuations cycle v4 in
    let v2 = c.slice.ensures.extends.valuations cycle v3 in
    let v1 = c.eq.ensures.extends.valuations cycle v2 in
    let v0 = c.constant.ensures.adds.grows.extends.valuations cycle v1 in
    coming_at (cycle.net c.args.gathered.number) _ _ _ _ _ _ _ (c.in_ok-place.ensures.value cycle v1 ∙ c.symbols_before.ensures.value) (c.in_ok-here.ensures.value cycle v2).1
    ((c.in_ok-old.ensures.value cycle v3).1 ∙ old_bits c.args.sizes.now (cycle.net c.args.held.number) _ _ c.args.part c.bits_below-low.ensures.value c.narrow_bits.ensures.value c.narrow_bits.ensures.some) (value cycle v4).1))
    c.mux.ensures.value

pub returns-clause-adds : goal.returns-clause-adds
returns-clause-adds c = adds_fewer _ _ _ _ (omega arith) (adds_twice _ _ _ _ _ (adds_twice _ _ _ _ _ (adds_twice _ _ _ _ _ c.constant.ensures.adds (grows_once _ _ c.eq.ensures.extends c.eq.ensures.grows)) (grows_once _ _ c.slice.ensures.extends c.slice.ensures.grows)) (grows_once _ _ c.mux.ensures.extends c.mux.ensures.grows))

pub mux-requires-clause-s_is : goal.mux-requires-clause-s_is
mux-requires-clause-s_is c = c.slice.ensures.extends.nets _ _ c.in_ok-here.ensures.net.0

pub mux-requires-clause-a_is : goal.mux-requires-clause-a_is
mux-requires-clause-a_is c = (extends_twice _ _ _ c.constant.ensures.adds.grows.extends (extends_twice _ _ _ c.eq.ensures.extends c.slice.ensures.extends)).nets _ _ c.requires.coming.is_net

pub mux-requires-clause-b_is : goal.mux-requires-clause-b_is
mux-requires-clause-b_is c = c.in_ok-old.ensures.net.0

pub returns-in_err-place-clause-adds : goal.returns-in_err-place-clause-adds
returns-in_err-place-clause-adds c = adds_fewer _ _ _ _ (omega arith) c.constant.ensures.adds

pub returns-in_err-here-clause-adds : goal.returns-in_err-here-clause-adds
returns-in_err-here-clause-adds c = adds_fewer _ _ _ _ (omega arith) (adds_twice _ _ _ _ _ c.constant.ensures.adds (grows_once _ _ c.eq.ensures.extends c.eq.ensures.grows))

pub returns-in_err-old-clause-adds : goal.returns-in_err-old-clause-adds
returns-in_err-old-clause-adds c = adds_fewer _ _ _ _ (omega arith) (adds_twice _ _ _ _ _ (adds_twice _ _ _ _ _ c.constant.ensures.adds (grows_once _ _ c.eq.ensures.extends c.eq.ensures.grows)) (grows_once _ _ c.slice.ensures.extends c.slice.ensures.grows))

pub returns-in_err-place-clause-full : goal.returns-in_err-place-clause-full
returns-in_err-place-clause-full c e = let full = c.constant.ensures.full (handed_on _ _ _ _ c.in_err-place.was c.from_residual.ensures.1 e) in omega (arith, full)

pub returns-in_err-here-clause-full : goal.returns-in_err-here-clause-full
returns-in_err-here-clause-full c e = let most0 = c.constant.ensures.adds.most in let full = c.eq.ensures.full.0 (handed_on _ _ _ _ c.in_err-here.was c.from_residual-in_err-here.ensures.1 e) in omega (arith, most0, full)

pub returns-in_err-old-clause-full : goal.returns-in_err-old-clause-full
returns-in_err-old-clause-full c e = let most0 = c.constant.ensures.adds.most in let most1 = c.eq.ensures.grows.most in let full = c.slice.ensures.full.0 (handed_on _ _ _ _ c.in_err-old.was c.from_residual-in_err-old.ensures.1 e) in omega (arith, most0, most1, full)

pub returns-clause-full : goal.returns-clause-full
returns-clause-full c e = let most0 = c.constant.ensures.adds.most in let most1 = c.eq.ensures.grows.most in let most2 = c.slice.ensures.grows.most in let full = c.mux.ensures.full.0 e in omega (arith, most0, most1, most2, full)

pub eq-requires-clause-a_is : goal.eq-requires-clause-a_is
eq-requires-clause-a_is c = c.constant.ensures.adds.grows.extends.nets _ _ c.requires.gathered.is_net

pub eq-requires-clause-b_is : goal.eq-requires-clause-b_is
eq-requires-clause-b_is c = c.in_ok-place.ensures.net.is_net

pub eq-requires-clause-widths : goal.eq-requires-clause-widths
eq-requires-clause-widths c = c.requires.gathered.has_width ∙ sym c.in_ok-place.ensures.net.has_width

pub slice-requires-clause-a_is : goal.slice-requires-clause-a_is
slice-requires-clause-a_is c = (extends_twice _ _ _ c.constant.ensures.adds.grows.extends c.eq.ensures.extends).nets _ _ c.requires.held.is_net

pub slice-requires-clause-order : goal.slice-requires-clause-order
slice-requires-clause-order c = let some = c.narrow_bits.ensures.some in omega (arith, some)

pub slice-requires-clause-inside : goal.slice-requires-clause-inside
slice-requires-clause-inside c = let wide = c.requires.held.has_width in let inside = c.bits_below-low.ensures.inside in let value = c.narrow_bits.ensures.value in let some = c.narrow_bits.ensures.some in omega (arith, wide, inside, value, some)
