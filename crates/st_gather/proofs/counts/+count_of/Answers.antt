use Rattle.std.proofs.Common.{◌≡◌, ◌+◌, ◌-◌, ◌*◌, ◌/◌, ◌%◌, ◌^◌, ◌≤◌, suc, subst, ap, ◌∙◌, arith}
use Rattle.std.proofs.lemmas.Nat.{pow_pos}
use Rattle.netlist.specs.Runs.{Always}
use Rattle.net_parts.specs.Laws.{if_ok, adds_fewer, adds_twice, grows_once}
use Rattle.st_gather.specs.Counts.{field, Picks}
use Rattle.st_gather.proofs.Counting.{two_halves, picks_fewer, picks_halves}
use Rattle.st_gather.proofs.counts.+count_of.Goals as goal

pub returns-then-channels-half-clause-value : goal.returns-then-channels-half-clause-value
returns-then-channels-half-clause-value t c =
    let some = c.if-index_bits-eq0.false in
    let back : suc (c.args.index_bits - 1) ≡ c.args.index_bits = omega (arith, some) in
    if_ok c.count_of.result _ (λ count. Always c.count_of.new.builder (λ cycle. Picks (λ k. field c.args.bits k (cycle.net c.args.counts.number)) (cycle.net c.args.index.number) c.args.index_bits c.args.from c.args.channels (cycle.net count.number)))
    (λ count value cycle v.
    subst (λ b. Picks (λ k. field c.args.bits k (cycle.net c.args.counts.number)) (cycle.net c.args.index.number) b c.args.from c.args.channels (cycle.net count.number)) back
    (picks_fewer (λ k. field c.args.bits k (cycle.net c.args.counts.number)) (cycle.net c.args.index.number) (c.args.index_bits - 1) c.args.from c.args.channels (cycle.net count.number)
    (let few = c.if-channels-half.true in let half = c.half_of-half.ensures in omega (arith, few, half)) (value cycle v)))
    c.count_of.ensures.value

pub count_of-requires-3 : goal.count_of-requires-3
count_of-requires-3 t c =
    let d = c.decreases in
    let some = c.if-index_bits-eq0.false in
    let within = c.requires.within in
    let index_within = c.requires.index_within in
    let few_index = c.requires.few_index in
    let few_channels = c.requires.few_channels in
    let fits = c.requires.fits in
    let more = c.if-channels-half.false in
    let half = c.half_of-half.ensures in
    let back : suc (c.args.index_bits - 1) ≡ c.args.index_bits = omega (arith, some) in
    let twice = two_halves (c.args.index_bits - 1) in
    let whole = ap (λ n. 2 ^ n) back in
    let same : c.args.from + c.half_of-half.result + (c.args.channels - c.half_of-half.result) ≡ c.args.from + c.args.channels = omega (arith, more) in
    let all = ap (λ n. c.args.bits * n) same in (
      omega (arith, d, some),
      (
        c.count_of-2.ensures.adds.grows.extends.nets _ _ c.requires.counts,
        (
          omega (arith, all, within),
          (
            c.requires.some,
            (
              c.requires.few,
              (
                c.count_of-2.ensures.adds.grows.extends.nets _ _ c.requires.index,
                (
                  omega (arith, index_within),
                  (
                    omega (arith, few_index),
                    (omega (arith, more), (omega (arith, same, few_channels), omega (arith, fits, twice, whole, half))),
                  ),
                ),
              ),
            ),
          ),
        ),
      ),
    )

pub returns-clause-value : goal.returns-clause-value
returns-clause-value t c =
    let some = c.if-index_bits-eq0.false in
    let back : suc (c.args.index_bits - 1) ≡ c.args.index_bits = omega (arith, some) in
    let one : c.args.index_bits - 1 - (c.args.index_bits - 1) + 1 ≡ 1 = omega arith in
    if_ok c.choose.result _ (λ count. Always c.choose.new.builder (λ cycle. Picks (λ k. field c.args.bits k (cycle.net c.args.counts.number)) (cycle.net c.args.index.number) c.args.index_bits c.args.from c.args.channels (cycle.net count.number)))
    (λ count value cycle v4. (
    let v3 = c.choose.ensures.adds.grows.extends.valuations cycle v4 in
    let v2 = c.slice.ensures.extends.valuations cycle v3 in
    let v1 = c.count_of-3.ensures.adds.grows.extends.valuations cycle v2 in
    subst (λ b. Picks (λ k. field c.args.bits k (cycle.net c.args.counts.number)) (cycle.net c.args.index.number) b c.args.from c.args.channels (cycle.net count.number)) back
    (picks_halves (λ k. field c.args.bits k (cycle.net c.args.counts.number)) (cycle.net c.args.index.number) (c.args.index_bits - 1) c.args.from c.args.channels
    (cycle.net c.in_ok-bit.bit.number) (cycle.net c.in_ok-low.low.number) (cycle.net c.in_ok-high.high.number) (cycle.net count.number)
    ((c.in_ok-bit.ensures.value cycle v3).1 ∙ ap (λ n. cycle.net c.args.index.number / 2 ^ (c.args.index_bits - 1) % 2 ^ n) one)
    (value cycle v4)
    (subst (λ n. Picks (λ k. field c.args.bits k (cycle.net c.args.counts.number)) (cycle.net c.args.index.number) (c.args.index_bits - 1) c.args.from n (cycle.net c.in_ok-low.low.number)) c.half_of-half.ensures (c.in_ok-low.ensures.value cycle v1))
    (subst (λ n. Picks (λ k. field c.args.bits k (cycle.net c.args.counts.number)) (cycle.net c.args.index.number) (c.args.index_bits - 1) (c.args.from + n) (c.args.channels - n) (cycle.net c.in_ok-high.high.number)) c.half_of-half.ensures (c.in_ok-high.ensures.value cycle v2)))))
    c.choose.ensures.value

pub returns-clause-adds : goal.returns-clause-adds
returns-clause-adds t c =
    let more = c.if-channels-half.false in
    let half = c.half_of-half.ensures in
    let some : 1 ≤ 2 ^ (c.args.index_bits - 1) = pow_pos (c.args.index_bits - 1) in
    adds_fewer _ _ _ _ (omega (arith, more, half, some))
    (adds_twice _ _ _ _ _ (adds_twice _ _ _ _ _ (adds_twice _ _ _ _ _ c.count_of-2.ensures.adds c.count_of-3.ensures.adds) (grows_once _ _ c.slice.ensures.extends c.slice.ensures.grows)) c.choose.ensures.adds)
