use Rattle.std.proofs.Common.{◌≡◌, ◌*◌, ◌/◌, ◌%◌, ◌^◌, ap, ◌∙◌, arith}
use Rattle.netlist.specs.Runs.{Always}
use Rattle.net_parts.specs.Laws.{width_fits, if_ok, adds_fewer, adds_twice, grows_once, extends_twice}
use Rattle.mm_select.proofs.PlaceLaws.{half_is, taken_on}
use Rattle.mm_select.proofs.places.+take_place.Goals as goal

pub take_half-requires-2-clause-net : goal.take_half-requires-2-clause-net
take_half-requires-2-clause-net t c =
    let all = c.width-half.ensures.value in
    let parts = half_is c.args.width c.args.bits c.args.wide.width (c.width-half.result / 2) c.requires.some c.requires.wide.has_width (ap (λ n. n / 2) all) in
    record { is_net = (extends_twice _ _ _ c.slice.ensures.extends c.slice-2.ensures.extends).nets _ _ c.requires.wide.is_net; has_width = parts.1 }

pub take_place-requires : goal.take_place-requires
take_place-requires t c =
    let some = c.requires.some in
    let more = c.if-bits-eq1.false in
    let d = c.decreases in
    let all = c.width-half.ensures.value in
    let parts = half_is c.args.width c.args.bits c.args.wide.width (c.width-half.result / 2) some c.requires.wide.has_width (ap (λ n. n / 2) all) in
    let half = parts.0 in
    let twice = parts.1 in
    let wide = c.requires.wide.has_width in
    let few = c.requires.few in
    let rest = c.in_ok-rest.ensures.net.1 in (
      omega (arith, d, some),
      (
        record { is_net = c.in_ok-taken.ensures.net.is_net; has_width = c.in_ok-taken.ensures.net.has_width ∙ half },
        (
          omega (arith, half, twice, wide, few),
          (
            c.requires.width,
            (record { is_net = c.take_half-2.ensures.adds.grows.extends.nets _ _ c.in_ok-rest.ensures.net.0; has_width = omega (arith, rest, some, more) }, omega (arith, some, more)),
          ),
        ),
      ),
    )

pub returns-clause-value : goal.returns-clause-value
returns-clause-value t c =
    if_ok c.take_place.result _ (λ made. Always c.take_place.new.builder (λ cycle. cycle.net made.number ≡ cycle.net c.args.wide.number / 2 ^ (c.args.width * cycle.net c.args.place.number) % 2 ^ c.args.width))
    (λ made value cycle v4. (
    let v3 = c.take_place.ensures.adds.grows.extends.valuations cycle v4 in
    let v2 = c.take_half-2.ensures.adds.grows.extends.valuations cycle v3 in
    let v1 = c.slice-2.ensures.extends.valuations cycle v2 in
    let v0 = c.slice.ensures.extends.valuations cycle v1 in
    let some = c.requires.some in
    let more = c.if-bits-eq1.false in
    let all = c.width-half.ensures.value in
    let parts = half_is c.args.width c.args.bits c.args.wide.width (c.width-half.result / 2) some c.requires.wide.has_width (ap (λ n. n / 2) all) in
    taken_on (cycle.net c.args.wide.number) c.args.width c.args.bits (c.width-half.result / 2) (cycle.net c.args.place.number) (cycle.net c.in_ok-top.top.number) (cycle.net c.in_ok-rest.rest.number) (cycle.net c.in_ok-taken.taken.number) (cycle.net made.number)
    (omega (arith, some, more)) (width_fits _ _ _ c.requires.place cycle v0) parts.0 (c.in_ok-top.ensures.value cycle v1).1 (c.in_ok-rest.ensures.value cycle v2).1 (c.in_ok-taken.ensures.value cycle v3) (value cycle v4)))
    c.take_place.ensures.value

pub returns-clause-adds : goal.returns-clause-adds
returns-clause-adds t c =
    let some = c.requires.some in
    adds_fewer _ _ _ _ (omega (arith, some))
    (adds_twice _ _ _ _ _ (adds_twice _ _ _ _ _ (adds_twice _ _ _ _ _ (grows_once _ _ c.slice.ensures.extends c.slice.ensures.grows) (grows_once _ _ c.slice-2.ensures.extends c.slice-2.ensures.grows)) c.take_half-2.ensures.adds) c.take_place.ensures.adds)
