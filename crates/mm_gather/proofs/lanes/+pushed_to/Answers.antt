use Rattle.std.proofs.Common.{◌≡◌, ◌*◌, ◌^◌, ◌%◌, ◌<◌, subst, ap, ◌∙◌, arith}
use Rattle.netlist.specs.Runs.{Always}
use Rattle.net_parts.specs.Laws.{width_fits, if_ok, adds_fewer, adds_twice, grows_once}
use Rattle.mm_gather.proofs.LaneLaws.{pushed_once, pushed_on, step_is_half}
use Rattle.mm_gather.proofs.lanes.+pushed_to.Goals as goal

pub pushed-requires-clause-less : goal.pushed-requires-clause-less
pushed-requires-clause-less t c =
    let half = step_is_half c.args.lanes c.args.bits c.requires.lanes c.requires.some in
    let some = c.requires.lanes in
    let within = c.requires.within in
    omega (arith, half, some, within)

pub overflow_mul-lanes : goal.overflow_mul-lanes
overflow_mul-lanes t c =
    let half = step_is_half c.args.lanes c.args.bits c.requires.lanes c.requires.some in
    let few = c.requires.few in
    omega (arith, half, few)

pub returns-then-bits-eq1-clause-value : goal.returns-then-bits-eq1-clause-value
returns-then-bits-eq1-clause-value t c cycle v =
    let v0 = c.pushed.ensures.adds.grows.extends.valuations cycle v in
    let before = c.slice.ensures.extends.valuations cycle v0 in
    let one = c.if-bits-eq1.true in
    pushed_once (cycle.net c.args.net.number) c.args.lanes (cycle.net c.args.place.number) (cycle.net c.in_ok-bit.bit.number) c.args.net.width _
    (subst (λ n. cycle.net c.args.place.number < 2 ^ n) one (width_fits _ _ _ c.requires.place cycle before)) (c.in_ok-bit.ensures.value cycle v0).1 (c.in_ok-moved.ensures.value cycle v)

pub returns-clause-value : goal.returns-clause-value
returns-clause-value t c =
    if_ok c.pushed_to.result _ (λ made. Always c.pushed_to.new.builder (λ cycle. cycle.net made.number ≡ (cycle.net c.args.net.number * 2 ^ (c.args.lanes * cycle.net c.args.place.number)) % 2 ^ c.args.net.width))
    (λ made value cycle v. (
    let v2 = c.pushed_to.ensures.adds.grows.extends.valuations cycle v in
    let v1 = c.slice-2.ensures.extends.valuations cycle v2 in
    let v0 = c.pushed.ensures.adds.grows.extends.valuations cycle v1 in
    let before = c.slice.ensures.extends.valuations cycle v0 in
    let some = c.requires.some in
    let more = c.if-bits-eq1.false in
    pushed_on (cycle.net c.args.net.number) c.args.lanes c.args.bits (cycle.net c.args.place.number) (cycle.net c.in_ok-bit.bit.number) (cycle.net c.in_ok-rest.rest.number) c.args.net.width (cycle.net c.in_ok-moved.moved.number) (cycle.net made.number)
    (omega (arith, some, more)) (width_fits _ _ _ c.requires.place cycle before) (c.in_ok-bit.ensures.value cycle v0).1 (c.in_ok-rest.ensures.value cycle v2).1 (c.in_ok-moved.ensures.value cycle v1)
    (value cycle v ∙ ap (λ n. (cycle.net c.in_ok-moved.moved.number * 2 ^ (2 * c.args.lanes * cycle.net c.in_ok-rest.rest.number)) % 2 ^ n) c.in_ok-moved.ensures.net.has_width)))
    c.pushed_to.ensures.value

pub returns-clause-adds : goal.returns-clause-adds
returns-clause-adds t c =
    let some = c.requires.some in
    adds_fewer _ _ _ _ (omega (arith, some))
    (adds_twice _ _ _ _ _ (adds_twice _ _ _ _ _ (adds_twice _ _ _ _ _ (grows_once _ _ c.slice.ensures.extends c.slice.ensures.grows) c.pushed.ensures.adds) (grows_once _ _ c.slice-2.ensures.extends c.slice-2.ensures.grows)) c.pushed_to.ensures.adds)
