use Rattle.std.proofs.Common.{◌≡◌, ◌+◌, ◌%◌, ◌^◌, ◌==◌, if◌then◌else◌, ap, ◌∙◌, arith}
use Rattle.netlist.specs.Runs.{Always}
use Rattle.net_parts.specs.Bits.{chosen_high}
use Rattle.net_parts.specs.Laws.{bit_fits, if_ok, adds_fewer, adds_twice, grows_once}
use Rattle.st_gather.proofs.Counting.{one_fits}
use Rattle.st_gather.proofs.counts.next_count.Goals as goal

pub returns-clause-value : goal.returns-clause-value
returns-clause-value c =
    if_ok c.choose.result _ (λ next. Always c.choose.new.builder (λ cycle. cycle.net next.number ≡ (if cycle.net c.args.last.number == 1 then 0 else (cycle.net c.args.count.number + 1) % 2 ^ c.args.bits)))
    (λ next value cycle v3. (
    let v2 = c.choose.ensures.adds.grows.extends.valuations cycle v3 in
    let v1 = c.constant-2.ensures.adds.grows.extends.valuations cycle v2 in
    let v0 = c.add.ensures.extends.valuations cycle v1 in
    let before = c.constant.ensures.adds.grows.extends.valuations cycle v0 in
    value cycle v3
    ∙ chosen_high (cycle.net c.args.last.number) (cycle.net c.in_ok-none.none.number) (cycle.net c.in_ok-more.more.number) (bit_fits _ _ c.requires.last cycle before)
    ∙ ap (λ n. if cycle.net c.args.last.number == 1 then n else cycle.net c.in_ok-more.more.number) (c.in_ok-none.ensures.value cycle v2)
    ∙ ap (λ n. if cycle.net c.args.last.number == 1 then 0 else n)
    ((c.in_ok-more.ensures.value cycle v1).1
    ∙ ap (λ n. (cycle.net c.args.count.number + n) % 2 ^ c.args.count.width) (c.in_ok-one.ensures.value cycle v0)
    ∙ ap (λ w. (cycle.net c.args.count.number + 1) % 2 ^ w) c.requires.count.has_width)))
    c.choose.ensures.value

pub constant-requires-clause-fits : goal.constant-requires-clause-fits
constant-requires-clause-fits c = one_fits c.args.bits c.requires.some

pub returns-clause-adds : goal.returns-clause-adds
returns-clause-adds c =
    adds_fewer _ _ _ _ (omega arith)
    (adds_twice _ _ _ _ _ (adds_twice _ _ _ _ _ (adds_twice _ _ _ _ _ c.constant.ensures.adds (grows_once _ _ c.add.ensures.extends c.add.ensures.grows)) c.constant-2.ensures.adds) c.choose.ensures.adds)
