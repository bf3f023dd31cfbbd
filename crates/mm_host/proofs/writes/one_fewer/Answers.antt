use Rattle.std.proofs.Common.{◌≡◌, ◌-◌, arith, sym, ◌∙◌}
use Rattle.netlist.specs.Runs.{Always}
use Rattle.net_parts.specs.Laws.{width_fits, if_ok, extends_twice, adds_fewer, adds_twice, grows_once}
use Rattle.mm_host.proofs.Levels.{fewer_is}
use Rattle.net_parts.specs.Refusing.{handed_on}
use Rattle.net_parts.specs.Nets.{IsNetOfWidth}
use Rattle.mm_host.proofs.writes.one_fewer.Goals as goal
use Rattle.net_parts.specs.Fitting.{fits_in_two}

pub returns-clause-value : goal.returns-clause-value
returns-clause-value c =
    if_ok c.sub.result _ (λ fewer. Always c.sub.new.self (λ cycle. cycle.net fewer.number ≡ cycle.net c.args.net.number - 1))
    (λ fewer value cycle v3. (
    let v2 = c.sub.ensures.extends.valuations cycle v3 in
    let v1 = c.fit_bits.ensures.adds.grows.extends.valuations cycle v2 in
    let v0 = c.any.ensures.extends.valuations cycle v1 in
    fewer_is _ c.args.bits _ _ _ c.requires.some (width_fits _ _ _ c.requires.net cycle v0) (c.in_ok-some.ensures.value cycle v1).1 (c.in_ok-one.ensures.value cycle v2) (rw c.requires.net.has_width at (value cycle v3).1)))
    c.sub.ensures.value

pub fit_bits-requires-clause-net : goal.fit_bits-requires-clause-net
fit_bits-requires-clause-net c = record { is_net = c.in_ok-some.ensures.net.0; has_width = c.in_ok-some.ensures.net.1 }

pub sub-requires-clause-a_is : goal.sub-requires-clause-a_is
sub-requires-clause-a_is c = (extends_twice _ _ _ c.any.ensures.extends c.fit_bits.ensures.adds.grows.extends).nets _ _ c.requires.net.is_net

pub sub-requires-clause-b_is : goal.sub-requires-clause-b_is
sub-requires-clause-b_is c = c.in_ok-one.ensures.net.is_net

pub sub-requires-clause-widths : goal.sub-requires-clause-widths
sub-requires-clause-widths c = c.requires.net.has_width ∙ sym c.in_ok-one.ensures.net.has_width

pub returns-clause-net : goal.returns-clause-net
returns-clause-net c =
    if_ok c.sub.result _ (λ fewer. IsNetOfWidth c.sub.new.self fewer c.args.bits) (λ fewer net. record { is_net = net.0; has_width = net.1 ∙ c.requires.net.has_width }) c.sub.ensures.net

pub returns-in_err-some-clause-adds : goal.returns-in_err-some-clause-adds
returns-in_err-some-clause-adds c = adds_fewer _ _ _ _ (omega arith) (grows_once _ _ c.any.ensures.extends c.any.ensures.grows)

pub returns-in_err-some-clause-full : goal.returns-in_err-some-clause-full
returns-in_err-some-clause-full c e = let full = c.any.ensures.full.0 (handed_on _ _ _ _ c.in_err-some.was c.from_residual.ensures.1 e) in omega (arith, full)

pub returns-in_err-one-clause-adds : goal.returns-in_err-one-clause-adds
returns-in_err-one-clause-adds c = adds_fewer _ _ _ _ (let few = fits_in_two 1 c.args.bits in omega (arith, few)) (adds_twice _ _ _ _ _ (grows_once _ _ c.any.ensures.extends c.any.ensures.grows) c.fit_bits.ensures.adds)

pub returns-in_err-one-clause-full : goal.returns-in_err-one-clause-full
returns-in_err-one-clause-full c e =
    let few = fits_in_two 1 c.args.bits in
    let most0 = c.any.ensures.grows.most in
    let full = c.fit_bits.ensures.full (handed_on _ _ _ _ c.in_err-one.was c.from_residual-in_err-one.ensures.1 e) in
    omega (arith, few, most0, full)

pub returns-clause-adds : goal.returns-clause-adds
returns-clause-adds c = adds_fewer _ _ _ _ (let few = fits_in_two 1 c.args.bits in omega (arith, few)) (adds_twice _ _ _ _ _ (adds_twice _ _ _ _ _ (grows_once _ _ c.any.ensures.extends c.any.ensures.grows) c.fit_bits.ensures.adds) (grows_once _ _ c.sub.ensures.extends c.sub.ensures.grows))

pub returns-clause-full : goal.returns-clause-full
returns-clause-full c e =
    let few = fits_in_two 1 c.args.bits in
    let most0 = c.any.ensures.grows.most in
    let most1 = c.fit_bits.ensures.adds.most in
    let full = c.sub.ensures.full.0 e in
    omega (arith, few, most0, most1, full)
