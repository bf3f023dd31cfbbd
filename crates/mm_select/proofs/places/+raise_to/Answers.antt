use Rattle.std.proofs.Common.{◌≡◌, ◌-◌, ◌*◌, ◌^◌, ◌≤◌, sym, subst, ap, ◌∙◌, arith}
use Rattle.netlist.specs.Runs.{Always}
use Rattle.net_parts.specs.Nets.{IsNetOfWidth}
use Rattle.net_parts.specs.Laws.{width_fits, if_ok, adds_fewer, adds_twice, grows_once}
use Rattle.mm_select.proofs.PlaceLaws.{double_fits, double_width, raised_on}
use Rattle.mm_select.proofs.places.+raise_to.Goals as goal

pub raise_once-requires-2-clause-few : goal.raise_once-requires-2-clause-few
raise_once-requires-2-clause-few t c = double_fits c.args.net.width c.args.bits c.requires.some c.requires.few

pub raise_to-requires : goal.raise_to-requires
raise_to-requires t c =
    let some = c.requires.some in
    let more = c.if-bits-eq1.false in
    let d = c.decreases in
    let width = c.in_ok-raised.ensures.net.has_width in
    let rest = c.in_ok-rest.ensures.net.1 in (
      omega (arith, d, some),
      (
        c.in_ok-raised.ensures.net.is_net,
        (
          record { is_net = c.raise_once-2.ensures.adds.grows.extends.nets _ _ c.in_ok-rest.ensures.net.0; has_width = omega (arith, rest, some, more) },
          (omega (arith, some, more), subst (λ n. n ≤ 128) (sym (ap (λ n. n * 2 ^ (c.args.bits - 1)) width ∙ double_width c.args.net.width c.args.bits some)) c.requires.few),
        ),
      ),
    )

pub returns-clause-net : goal.returns-clause-net
returns-clause-net t c =
    if_ok c.raise_to.result _ (λ made. IsNetOfWidth c.raise_to.new.builder made (c.args.net.width * 2 ^ c.args.bits))
    (λ made net. record { is_net = net.is_net; has_width = net.has_width ∙ ap (λ n. n * 2 ^ (c.args.bits - 1)) c.in_ok-raised.ensures.net.has_width ∙ double_width c.args.net.width c.args.bits c.requires.some }) c.raise_to.ensures.net

pub returns-clause-value : goal.returns-clause-value
returns-clause-value t c =
    if_ok c.raise_to.result _ (λ made. Always c.raise_to.new.builder (λ cycle. cycle.net made.number ≡ cycle.net c.args.net.number * 2 ^ (c.args.net.width * cycle.net c.args.place.number)))
    (λ made value cycle v4. (
    let v3 = c.raise_to.ensures.adds.grows.extends.valuations cycle v4 in
    let v2 = c.raise_once-2.ensures.adds.grows.extends.valuations cycle v3 in
    let v1 = c.slice-2.ensures.extends.valuations cycle v2 in
    let v0 = c.slice.ensures.extends.valuations cycle v1 in
    let some = c.requires.some in
    let more = c.if-bits-eq1.false in
    raised_on (cycle.net c.args.net.number) c.args.net.width c.args.bits (cycle.net c.args.place.number) (cycle.net c.in_ok-low.low.number) (cycle.net c.in_ok-rest.rest.number) (cycle.net c.in_ok-raised.raised.number) (cycle.net made.number)
    (omega (arith, some, more)) (width_fits _ _ _ c.requires.place cycle v0) (c.in_ok-low.ensures.value cycle v1).1 (c.in_ok-rest.ensures.value cycle v2).1 (c.in_ok-raised.ensures.value cycle v3)
    (value cycle v4 ∙ ap (λ n. cycle.net c.in_ok-raised.raised.number * 2 ^ (n * cycle.net c.in_ok-rest.rest.number)) c.in_ok-raised.ensures.net.has_width)))
    c.raise_to.ensures.value

pub returns-clause-adds : goal.returns-clause-adds
returns-clause-adds t c =
    let some = c.requires.some in
    adds_fewer _ _ _ _ (omega (arith, some))
    (adds_twice _ _ _ _ _ (adds_twice _ _ _ _ _ (adds_twice _ _ _ _ _ (grows_once _ _ c.slice.ensures.extends c.slice.ensures.grows) (grows_once _ _ c.slice-2.ensures.extends c.slice-2.ensures.grows)) c.raise_once-2.ensures.adds) c.raise_to.ensures.adds)
