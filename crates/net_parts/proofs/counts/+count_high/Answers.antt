use Rattle.std.proofs.Common.{◌≡◌, ◌+◌, ◌-◌, ◌/◌, ◌%◌, ◌^◌, ◌<◌, suc, subst, ap, ◌∙◌, arith}
use Rattle.std.specs.Int.{bit_at}
use Rattle.netlist.specs.Runs.{Always}
use Rattle.net_parts.specs.Laws.{extends_twice, if_ok, adds_fewer, adds_twice, grows_once, net_lasts}
use Rattle.net_parts.specs.Counts.{high_bits}
use Rattle.net_parts.specs.Counts.{zeros_last}
use Rattle.net_parts.proofs.counts.+count_high.Goals as goal

pub add_bit-requires-clause-zeros : goal.add_bit-requires-clause-zeros
add_bit-requires-clause-zeros t c = zeros_last _ _ _ c.slice.ensures.extends c.requires.zeros

pub add_bit-requires-clause-small : goal.add_bit-requires-clause-small
add_bit-requires-clause-small t c cycle v =
    let small = c.requires.small cycle (c.slice.ensures.extends.valuations cycle v) in
    let some = c.if-count-eq0.false in
    omega (arith, small, some)

pub count_high-requires : goal.count_high-requires
count_high-requires t c =
    let more = extends_twice _ _ _ c.slice.ensures.extends c.add_bit.ensures.adds.grows.extends in
    let some = c.if-count-eq0.false in
    let one : c.args.count - 1 - (c.args.count - 1) + 1 ≡ 1 = omega arith in
    let d = c.decreases in (
      omega (arith, d, some),
      (
        zeros_last _ _ _ more c.requires.zeros,
        (
          c.in_ok-more.ensures.net,
          (
            (λ cycle v. (
                let v1 = c.add_bit.ensures.adds.grows.extends.valuations cycle v in
                let small = c.requires.small cycle (c.slice.ensures.extends.valuations cycle v1) in
                let bit : cycle.net c.in_ok-highest.highest.number < 2 ^ 1 = subst (λ n. cycle.net c.in_ok-highest.highest.number < 2 ^ n) one (c.in_ok-highest.ensures.value cycle v1).0 in
                let sum = c.in_ok-more.ensures.value cycle v in
                omega (arith, small, bit, sum, some))),
            (more.nets _ _ c.requires.bits, (let few = c.requires.count in omega (arith, few))),
          ),
        ),
      ),
    )

pub returns-clause-value : goal.returns-clause-value
returns-clause-value t c =
    let back : c.args.count ≡ suc (c.args.count - 1) = (let some = c.if-count-eq0.false in omega (arith, some)) in
    let one : c.args.count - 1 - (c.args.count - 1) + 1 ≡ 1 = omega arith in
    if_ok c.count_high.result _ (λ total. Always c.count_high.new.builder (λ cycle. cycle.net total.number ≡ cycle.net c.args.sum.number + high_bits c.args.count (cycle.net c.args.bits.number)))
    (λ total value cycle v3. (
    let v2 = c.count_high.ensures.adds.grows.extends.valuations cycle v3 in
    let v1 = c.add_bit.ensures.adds.grows.extends.valuations cycle v2 in
    let highest : cycle.net c.in_ok-highest.highest.number ≡ bit_at (cycle.net c.args.bits.number) (c.args.count - 1) =
    (c.in_ok-highest.ensures.value cycle v1).1 ∙ ap (λ n. cycle.net c.args.bits.number / 2 ^ (c.args.count - 1) % 2 ^ n) one in
    let split : high_bits c.args.count (cycle.net c.args.bits.number) ≡ high_bits (c.args.count - 1) (cycle.net c.args.bits.number) + bit_at (cycle.net c.args.bits.number) (c.args.count - 1) =
    ap (λ n. high_bits n (cycle.net c.args.bits.number)) back in
    let more = c.in_ok-more.ensures.value cycle v2 in
    let all = value cycle v3 in
    omega (arith, highest, split, more, all)))
    c.count_high.ensures.value

pub returns-in_err-highest-clause-adds : goal.returns-in_err-highest-clause-adds
returns-in_err-highest-clause-adds t c = adds_fewer _ _ _ _ (omega arith) (grows_once _ _ c.slice.ensures.extends c.slice.ensures.grows)

pub returns-in_err-more-clause-adds : goal.returns-in_err-more-clause-adds
returns-in_err-more-clause-adds t c = adds_fewer _ _ _ _ (omega arith) (adds_twice _ _ _ _ _ (grows_once _ _ c.slice.ensures.extends c.slice.ensures.grows) c.add_bit.ensures.adds)

pub returns-clause-adds : goal.returns-clause-adds
returns-clause-adds t c = adds_fewer _ _ _ _ (omega arith) (adds_twice _ _ _ _ _ (adds_twice _ _ _ _ _ (grows_once _ _ c.slice.ensures.extends c.slice.ensures.grows) c.add_bit.ensures.adds) c.count_high.ensures.adds)

pub add_bit-requires-clause-sum : goal.add_bit-requires-clause-sum
add_bit-requires-clause-sum t c = net_lasts _ _ _ _ c.slice.ensures.extends c.requires.sum
