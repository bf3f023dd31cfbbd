use Rattle.std.proofs.Common.{◌≡◌, ◌+◌, ◌-◌, ◌*◌, ◌^◌, ◌==◌, ◌&&◌, subst, ap, ◌∙◌, arith}
use Rattle.netlist.specs.Runs.{Always}
use Rattle.net_parts.specs.Nets.{IsNetOfWidth}
use Rattle.net_parts.specs.Laws.{if_ok, adds_fewer, adds_twice, grows_once, extends_twice, net_lasts, bit_fits, width_fits}
use Rattle.st_gather.specs.Counts.{field, AreLater}
use Rattle.st_gather.proofs.Counting.{later_one, later_more, later_here}
use Rattle.st_gather.proofs.Keeping.{whole_bits}
use Rattle.st_gather.proofs.counts.+later_counts.Goals as goal

pub returns-then-highest-eq0-clause-value : goal.returns-then-highest-eq0-clause-value
returns-then-highest-eq0-clause-value t c cycle v =
    let v1 = c.choose.ensures.adds.grows.extends.valuations cycle v in
    let v0 = c.count_at.ensures.adds.grows.extends.valuations cycle v1 in
    let some = c.requires.some_channels in
    later_one c.args.counts c.args.moves c.args.channel c.args.next c.args.bits c.args.channels (c.args.channels - 1) c.in_ok-later.later cycle (omega (arith, some)) c.if-highest-eq0.true
    (width_fits _ _ _ (record { is_net = c.in_ok-later.ensures.net.is_net; has_width = c.in_ok-later.ensures.net.has_width ∙ c.requires.next.has_width }) cycle v)
    (later_here (cycle.net c.in_ok-here.here.number) (cycle.net c.in_ok-kept.kept.number) (cycle.net c.args.next.number) (cycle.net c.in_ok-later.later.number) (field c.args.bits (c.args.channels - 1) (cycle.net c.args.counts.number))
    ((cycle.net c.args.moves.number == 1) && (cycle.net c.args.channel.number == c.args.channels - 1))
    (bit_fits _ _ c.in_ok-here.ensures.net cycle v0) (c.in_ok-later.ensures.value cycle v) (c.in_ok-here.ensures.value cycle v0) (c.in_ok-kept.ensures.value cycle v1))

pub later_counts-requires : goal.later_counts-requires
later_counts-requires t c =
    let d = c.decreases in
    let e = extends_twice _ _ _ c.shown_on.ensures.adds.grows.extends (extends_twice _ _ _ c.count_at.ensures.adds.grows.extends c.choose.ensures.adds.grows.extends) in
    let some = c.requires.some_channels in
    let more = c.if-highest-eq0.false in
    let within = c.requires.within in
    let few = c.requires.few_channels in
    let fits = c.requires.fits in
    let whole = whole_bits c.args.bits c.args.channels some in (
      omega (arith, d, some),
      (
        e.nets _ _ c.requires.counts,
        (
          omega (arith, whole, within),
          (
            c.requires.some,
            (
              c.requires.few,
              (
                net_lasts _ _ _ _ e c.requires.moves,
                (
                  net_lasts _ _ _ _ e c.requires.channel,
                  (
                    c.requires.some_channel,
                    (c.requires.few_channel, (net_lasts _ _ _ _ e c.requires.next, (omega (arith, more), (omega (arith, few), omega (arith, fits))))),
                  ),
                ),
              ),
            ),
          ),
        ),
      ),
    )

pub returns-clause-net : goal.returns-clause-net
returns-clause-net t c =
    let later = c.in_ok-later.ensures.net.has_width in
    let next = c.requires.next.has_width in
    let lower = c.in_ok-lower.ensures.net.has_width in
    let whole = whole_bits c.args.bits c.args.channels c.requires.some_channels in
    if_ok c.concat.result _ (λ made. IsNetOfWidth c.concat.new.self made (c.args.bits * c.args.channels))
    (λ made net. record { is_net = net.0; has_width = (let wide = net.1 in omega (arith, wide, later, next, lower, whole)) })
    c.concat.ensures.net

pub returns-clause-value : goal.returns-clause-value
returns-clause-value t c =
    let some = c.requires.some_channels in
    let count : c.args.channels - 1 + 1 ≡ c.args.channels = omega (arith, some) in
    if_ok c.concat.result _ (λ made. Always c.concat.new.self (AreLater c.args.counts c.args.moves c.args.channel c.args.next c.args.bits c.args.channels made))
    (λ made value cycle v4. (
    let v3 = c.concat.ensures.extends.valuations cycle v4 in
    let v2 = c.later_counts.ensures.adds.grows.extends.valuations cycle v3 in
    let v1 = c.choose.ensures.adds.grows.extends.valuations cycle v2 in
    let v0 = c.count_at.ensures.adds.grows.extends.valuations cycle v1 in
    subst (λ n. AreLater c.args.counts c.args.moves c.args.channel c.args.next c.args.bits n made cycle) count
    (later_more c.args.counts c.args.moves c.args.channel c.args.next c.args.bits (c.args.channels - 1) c.in_ok-lower.lower made cycle (cycle.net c.in_ok-later.later.number)
    (width_fits _ _ _ c.in_ok-lower.ensures.net cycle v3)
    (width_fits _ _ _ (record { is_net = c.in_ok-later.ensures.net.is_net; has_width = c.in_ok-later.ensures.net.has_width ∙ c.requires.next.has_width }) cycle v2)
    ((value cycle v4).1 ∙ ap (λ n. cycle.net c.in_ok-later.later.number * 2 ^ n + cycle.net c.in_ok-lower.lower.number) c.in_ok-lower.ensures.net.has_width)
    (later_here (cycle.net c.in_ok-here.here.number) (cycle.net c.in_ok-kept.kept.number) (cycle.net c.args.next.number) (cycle.net c.in_ok-later.later.number) (field c.args.bits (c.args.channels - 1) (cycle.net c.args.counts.number))
    ((cycle.net c.args.moves.number == 1) && (cycle.net c.args.channel.number == c.args.channels - 1))
    (bit_fits _ _ c.in_ok-here.ensures.net cycle v0) (c.in_ok-later.ensures.value cycle v2) (c.in_ok-here.ensures.value cycle v0) (c.in_ok-kept.ensures.value cycle v1))
    (c.in_ok-lower.ensures.value cycle v3))))
    c.concat.ensures.value

pub returns-clause-adds : goal.returns-clause-adds
returns-clause-adds t c =
    let more = c.if-highest-eq0.false in
    adds_fewer _ _ _ _ (omega (arith, more))
    (adds_twice _ _ _ _ _ (adds_twice _ _ _ _ _ (adds_twice _ _ _ _ _ (adds_twice _ _ _ _ _ c.shown_on.ensures.adds c.count_at.ensures.adds) c.choose.ensures.adds) c.later_counts.ensures.adds) (grows_once _ _ c.concat.ensures.extends c.concat.ensures.grows))
