use Rattle.std.proofs.Common.{◌≡◌, ◌*◌, ◌/◌, ◌^◌, ◌<◌, subst, arith}
use Rattle.netlist.specs.Runs.{Always}
use Rattle.net_parts.specs.Laws.{net_fits, if_ok, adds_fewer, adds_twice, grows_once}
use Rattle.net_parts.specs.Refusing.{handed_on}
use Rattle.mm_select.specs.Laws.{aligned_none, aligned}
use Rattle.mm_select.proofs.select.align.Goals as goal

pub returns-in_err-low-clause-adds : goal.returns-in_err-low-clause-adds
returns-in_err-low-clause-adds c =
    adds_fewer _ _ _ _ (omega arith) c.constant.ensures.adds

pub returns-in_err-low-clause-full : goal.returns-in_err-low-clause-full
returns-in_err-low-clause-full c e =
    let full = c.constant.ensures.full (handed_on _ _ _ _ c.in_err-low.was c.from_residual.ensures.1 e) in
    omega (arith, full)

pub returns-in_err-high-clause-adds : goal.returns-in_err-high-clause-adds
returns-in_err-high-clause-adds c =
    adds_fewer _ _ _ _ (omega arith) (adds_twice _ _ _ _ _ c.constant.ensures.adds (grows_once _ _ c.slice.ensures.extends c.slice.ensures.grows))

pub returns-in_err-high-clause-full : goal.returns-in_err-high-clause-full
returns-in_err-high-clause-full c e =
    let most0 = c.constant.ensures.adds.most in
    let full = c.slice.ensures.full.0 (handed_on _ _ _ _ c.in_err-high.was c.from_residual-in_err-high.ensures.1 e) in
    omega (arith, most0, full)

pub returns-clause-adds : goal.returns-clause-adds
returns-clause-adds c =
    adds_fewer _ _ _ _ (omega arith) (adds_twice _ _ _ _ _ (adds_twice _ _ _ _ _ c.constant.ensures.adds (grows_once _ _ c.slice.ensures.extends c.slice.ensures.grows)) (grows_once _ _ c.concat.ensures.extends c.concat.ensures.grows))

pub returns-clause-full : goal.returns-clause-full
returns-clause-full c e =
    let most0 = c.constant.ensures.adds.most in
    let most1 = c.slice.ensures.grows.most in
    let full = c.concat.ensures.full.0 e in
    omega (arith, most0, most1, full)

pub returns-then-lanes-width-clause-adds : goal.returns-then-lanes-width-clause-adds
returns-then-lanes-width-clause-adds c = adds_fewer _ _ _ _ (omega arith) c.constant.ensures.adds

pub returns-then-lanes-width-clause-value : goal.returns-then-lanes-width-clause-value
returns-then-lanes-width-clause-value c cycle v =
    let wide = c.width-width.ensures.value in
    let same = c.if-lanes-width.true in
    aligned_none c.args.lanes (cycle.net c.args.address.number) (cycle.net c.in_ok-low.low.number) (subst (λ n. cycle.net c.args.address.number < 2 ^ n) (omega (arith, wide, same)) (net_fits _ _ c.requires.address cycle (c.constant.ensures.adds.grows.extends.valuations cycle v))) (c.in_ok-low.ensures.value cycle v)

pub returns-clause-value : goal.returns-clause-value
returns-clause-value c =
    if_ok c.concat.result _ (λ made. Always c.concat.new.self (λ cycle. cycle.net made.number ≡ cycle.net c.args.address.number / 2 ^ c.args.lanes * 2 ^ c.args.lanes))
    (λ made value cycle v3. (
    let v2 = c.concat.ensures.extends.valuations cycle v3 in
    let v1 = c.slice.ensures.extends.valuations cycle v2 in
    let v0 = c.constant.ensures.adds.grows.extends.valuations cycle v1 in
    let wide = c.width-width.ensures.value in
    let reach = c.requires.reach in
    let other = c.if-lanes-width.false in
    aligned c.args.address.width c.width-width.result c.args.lanes c.in_ok-low.low.width (cycle.net c.args.address.number) (cycle.net c.in_ok-high.high.number) (cycle.net c.in_ok-low.low.number) (cycle.net made.number) wide (omega (arith, wide, reach, other)) c.in_ok-low.ensures.net.has_width
    (net_fits _ _ c.requires.address cycle v0) (c.in_ok-high.ensures.value cycle v2).1 (c.in_ok-low.ensures.value cycle v1) (value cycle v3).1))
    c.concat.ensures.value
