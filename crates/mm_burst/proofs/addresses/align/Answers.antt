use Rattle.std.proofs.Common.{◌≡◌, ◌-◌, ◌%◌, ◌^◌, ◌<◌, subst, arith}
use Rattle.netlist.specs.Runs.{Always}
use Rattle.net_parts.specs.Laws.{if_ok, net_fits}
use Rattle.mm_burst.proofs.Levels.{aligned, aligned_none}
use Rattle.mm_burst.proofs.addresses.align.Goals as goal

pub returns-then-lanes-width-clause-value : goal.returns-then-lanes-width-clause-value
returns-then-lanes-width-clause-value c =
    if_ok c.constant.result _ (λ made. Always c.constant.new.builder (λ cycle. cycle.net made.number ≡ cycle.net c.args.address.number - cycle.net c.args.address.number % 2 ^ c.args.lanes))
    (λ made value cycle v. (
    let wide = c.width-width.ensures.value in
    let same = c.if-lanes-width.true in
    aligned_none c.args.lanes (cycle.net c.args.address.number) (cycle.net made.number) (subst (λ n. cycle.net c.args.address.number < 2 ^ n) (omega (arith, wide, same)) (net_fits _ _ c.requires.address cycle (c.constant.ensures.adds.grows.extends.valuations cycle v))) (value cycle v)))
    c.constant.ensures.value

pub returns-clause-value : goal.returns-clause-value
returns-clause-value c =
    if_ok c.raise.result _ (λ made. Always c.raise.new.builder (λ cycle. cycle.net made.number ≡ cycle.net c.args.address.number - cycle.net c.args.address.number % 2 ^ c.args.lanes))
    (λ made value cycle v. (
    let v0 = c.raise.ensures.adds.grows.extends.valuations cycle v in
    let before = c.slice.ensures.extends.valuations cycle v0 in
    let wide = c.width-width.ensures.value in
    let reach = c.requires.reach in
    let other = c.if-lanes-width.false in
    aligned c.args.address.width c.width-width.result c.args.lanes (cycle.net c.args.address.number) (cycle.net c.in_ok-high.high.number) (cycle.net made.number) wide (omega (arith, wide, reach, other)) (net_fits _ _ c.requires.address cycle before) (c.in_ok-high.ensures.value cycle v0).1 (value cycle v)))
    c.raise.ensures.value
