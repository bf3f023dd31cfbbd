use Rattle.std.proofs.Common.{◌≡◌, ◌-◌, ◌*◌, ◌^◌, ◌∙◌, arith}
use Rattle.netlist.specs.Runs.{Always}
use Rattle.net_parts.specs.Nets.{IsNetOfWidth}
use Rattle.net_parts.specs.Laws.{width_fits, if_ok, adds_fewer, adds_twice, grows_once}
use Rattle.mm_gather.proofs.LaneLaws.{low_words_are, width_doubles, doubled_fits}
use Rattle.mm_gather.proofs.lanes.+low_words.Goals as goal

pub returns-clause-value : goal.returns-clause-value
returns-clause-value t c =
    if_ok c.more_words.result _ (λ made. Always c.more_words.new.builder (λ cycle. cycle.net made.number ≡ 2 ^ (c.args.lanes * cycle.net c.args.count.number) - 1))
    (λ made value cycle v. (
    let v2 = c.more_words.ensures.adds.grows.extends.valuations cycle v in
    let v1 = c.low_words.ensures.adds.grows.extends.valuations cycle v2 in
    let v0 = c.slice-2.ensures.extends.valuations cycle v1 in
    let before = c.slice.ensures.extends.valuations cycle v0 in
    let some = c.requires.some in
    let more = c.if-bits-eq1.false in
    low_words_are c.args.lanes c.args.bits (cycle.net c.args.count.number) (cycle.net c.in_ok-top.top.number) (cycle.net c.in_ok-rest.rest.number) c.in_ok-low.low.width (cycle.net c.in_ok-low.low.number) (cycle.net made.number)
    (omega (arith, some, more)) (width_fits _ _ _ c.requires.count cycle before) (c.in_ok-top.ensures.value cycle v0).1 (c.in_ok-rest.ensures.value cycle v1).1 c.in_ok-low.ensures.net.has_width (c.in_ok-low.ensures.value cycle v2) (value cycle v)))
    c.more_words.ensures.value

pub more_words-requires-clause-few : goal.more_words-requires-clause-few
more_words-requires-clause-few t c =
    let some = c.requires.some in
    let more = c.if-bits-eq1.false in
    doubled_fits c.args.lanes c.args.bits (omega (arith, some, more)) c.in_ok-low.low.width c.in_ok-low.ensures.net.has_width c.requires.few

pub returns-clause-net : goal.returns-clause-net
returns-clause-net t c =
    let some = c.requires.some in
    let more = c.if-bits-eq1.false in
    if_ok c.more_words.result _ (λ made. IsNetOfWidth c.more_words.new.builder made (c.args.lanes * (2 ^ c.args.bits - 1)))
    (λ made net. record { is_net = net.is_net; has_width = net.has_width ∙ width_doubles c.args.lanes c.args.bits (omega (arith, some, more)) c.in_ok-low.low.width c.in_ok-low.ensures.net.has_width }) c.more_words.ensures.net

pub returns-clause-adds : goal.returns-clause-adds
returns-clause-adds t c =
    let some = c.requires.some in
    adds_fewer _ _ _ _ (omega (arith, some))
    (adds_twice _ _ _ _ _ (adds_twice _ _ _ _ _ (adds_twice _ _ _ _ _ (grows_once _ _ c.slice.ensures.extends c.slice.ensures.grows) (grows_once _ _ c.slice-2.ensures.extends c.slice-2.ensures.grows)) c.low_words.ensures.adds) c.more_words.ensures.adds)
