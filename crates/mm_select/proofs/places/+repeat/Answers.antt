use Rattle.std.proofs.Common.{◌≡◌, ℕ, ◌+◌, ◌-◌, ◌*◌, ◌^◌, ◌≤◌, sym, subst, ap, ◌∙◌, arith}
use Rattle.netlist.specs.Runs.{Always}
use Rattle.net_parts.specs.Nets.{IsNetOfWidth}
use Rattle.net_parts.specs.Laws.{net_fits, if_ok}
use Rattle.memory_links.specs.Gathers.{spread}
use Rattle.memory_links.specs.Selects.{repeated}
use Rattle.mm_select.proofs.PlaceLaws.{double_fits, double_width, repeated_on, once_repeated, spread_on, once_spread}
use Rattle.mm_select.proofs.places.+repeat.Goals as goal

pub returns-then-times-eq0-clause-value : goal.returns-then-times-eq0-clause-value
returns-then-times-eq0-clause-value t c bytes size cycle v =
    once_repeated bytes c.args.word.width (cycle.net c.args.word.number) c.args.times c.if-times-eq0.true size (net_fits _ _ c.requires.word cycle v)

pub concat-requires-clause-widths : goal.concat-requires-clause-widths
concat-requires-clause-widths t c = let some = c.if-times-eq0.false in double_fits c.args.word.width c.args.times (omega (arith, some)) c.requires.few

pub repeat-requires : goal.repeat-requires
repeat-requires t c =
    let some = c.if-times-eq0.false in
    let d = c.decreases in (
      omega (arith, d, some),
      (c.in_ok-twice.ensures.net.0, subst (λ n. n ≤ 128) (sym (ap (λ n. n * 2 ^ (c.args.times - 1)) c.in_ok-twice.ensures.net.1 ∙ double_width c.args.word.width c.args.times (omega (arith, some)))) c.requires.few),
    )

pub returns-clause-net : goal.returns-clause-net
returns-clause-net t c =
    let some = c.if-times-eq0.false in
    if_ok c.repeat.result _ (λ made. IsNetOfWidth c.repeat.new.builder made (c.args.word.width * 2 ^ c.args.times))
    (λ made net. record { is_net = net.is_net; has_width = net.has_width ∙ ap (λ n. n * 2 ^ (c.args.times - 1)) c.in_ok-twice.ensures.net.1 ∙ double_width c.args.word.width c.args.times (omega (arith, some)) }) c.repeat.ensures.net

pub returns-clause-value : goal.returns-clause-value
returns-clause-value t c =
    let some = c.if-times-eq0.false in
    if_ok c.repeat.result _ (λ made. (bytes : ℕ) → c.args.word.width ≡ bytes * 8 → Always c.repeat.new.builder (λ cycle. cycle.net made.number ≡ repeated bytes (2 ^ c.args.times) (cycle.net c.args.word.number)))
    (λ made value bytes size cycle v2. (
    let v1 = c.repeat.ensures.adds.grows.extends.valuations cycle v2 in
    let v0 = c.concat.ensures.extends.valuations cycle v1 in
    let twice = c.in_ok-twice.ensures.net.1 in
    repeated_on bytes c.args.times c.args.word.width (cycle.net c.args.word.number) (cycle.net c.in_ok-twice.twice.number) (cycle.net made.number) (omega (arith, some)) size (net_fits _ _ c.requires.word cycle v0)
    (c.in_ok-twice.ensures.value cycle v1).1 (value (bytes + bytes) (omega (arith, twice, size)) cycle v2)))
    c.repeat.ensures.value

pub returns-then-times-eq0-clause-spread : goal.returns-then-times-eq0-clause-spread
returns-then-times-eq0-clause-spread t c cycle v =
    once_spread c.args.word.width (cycle.net c.args.word.number) c.args.times c.if-times-eq0.true

pub returns-clause-spread : goal.returns-clause-spread
returns-clause-spread t c =
    let some = c.if-times-eq0.false in
    if_ok c.repeat.result _ (λ made. Always c.repeat.new.builder (λ cycle. cycle.net made.number ≡ spread c.args.word.width (2 ^ c.args.times) (cycle.net c.args.word.number)))
    (λ made value cycle v. (
    let v1 = c.repeat.ensures.adds.grows.extends.valuations cycle v in
    spread_on c.args.times c.args.word.width (cycle.net c.args.word.number) c.in_ok-twice.twice.width (cycle.net c.in_ok-twice.twice.number) (cycle.net made.number) (omega (arith, some)) c.in_ok-twice.ensures.net.1
    (c.in_ok-twice.ensures.value cycle v1).1 (value cycle v)))
    c.repeat.ensures.spread
