use Rattle.std.proofs.Common.{◌≡◌, ◌+◌, ◌-◌, ◌/◌, ◌%◌, ◌^◌, ◌≤◌, suc, List, take, drop, sym, subst, ap, ◌∙◌, arith}
use Rattle.std.proofs.lemmas.Nat.{pow_pos}
use Rattle.netlist.specs.Nets.{NetValue}
use Rattle.netlist.specs.Runs.{Always}
use Rattle.net_parts.specs.Laws.{if_ok, adds_fewer, adds_twice, grows_once}
use Rattle.st_mux.specs.Selecting.{AreBits, Selects, bits_behind, bits_last, two_halves, selects_fewer, selects_halves}
use Rattle.st_mux.proofs.select.+select_bit.Goals as goal

pub returns-then-nets-half-clause-value : goal.returns-then-nets-half-clause-value
returns-then-nets-half-clause-value t c =
    let some = c.if-bits-eq0.false in
    let back : suc (c.args.bits - 1) ≡ c.args.bits = omega (arith, some) in
    if_ok c.select_bit.result _ (λ net. Always c.select_bit.new.builder (λ cycle. Selects (λ (item : NetValue). cycle.net item.number) (cycle.net c.args.index.number) c.args.bits c.args.nets.now net))
    (λ net value cycle v.
    subst (λ b. Selects (λ (item : NetValue). cycle.net item.number) (cycle.net c.args.index.number) b c.args.nets.now net) back
    (selects_fewer (λ (item : NetValue). cycle.net item.number) (cycle.net c.args.index.number) (c.args.bits - 1) c.args.nets.now net
    (let few = c.if-nets-half.true in let half = (c.from-half.ensures ∙ c.half_of.ensures) in omega (arith, few, half)) (value cycle v)))
    c.select_bit.ensures.value

pub select_bit-requires-3 : goal.select_bit-requires-3
select_bit-requires-3 t c =
    let d = c.decreases in
    let some = c.if-bits-eq0.false in
    let within = c.requires.within in
    let few_bits = c.requires.few_bits in
    let few = c.requires.few in
    let more = c.if-nets-half.false in
    let half = (c.from-half.ensures ∙ c.half_of.ensures) in
    let rest = c.split_at.ensures.back_len in
    let twice = two_halves c.args.bits (omega (arith, some)) in (
      omega (arith, d, some),
      (
        c.select_bit-2.ensures.adds.grows.extends.nets _ _ c.requires.index,
        (
          omega (arith, within),
          (
            omega (arith, few_bits),
            (
              subst (AreBits c.select_bit-2.new.builder) (sym c.split_at.ensures.back)
                  (bits_last _ _ _ c.select_bit-2.ensures.adds.grows.extends (bits_behind _ _ _ c.requires.nets)),
              (omega (arith, rest, more), omega (arith, rest, few, half, twice)),
            ),
          ),
        ),
      ),
    )

pub returns-clause-value : goal.returns-clause-value
returns-clause-value t c =
    let some = c.if-bits-eq0.false in
    let back : suc (c.args.bits - 1) ≡ c.args.bits = omega (arith, some) in
    let one : c.args.bits - 1 - (c.args.bits - 1) + 1 ≡ 1 = omega arith in
    let front : c.split_at.result.0.now ≡ take (2 ^ (c.args.bits - 1)) c.args.nets.now = c.split_at.ensures.front ∙ ap (λ n. take n c.args.nets.now) (c.from-half.ensures ∙ c.half_of.ensures) in
    let rest : c.split_at.result.1.now ≡ drop (2 ^ (c.args.bits - 1)) c.args.nets.now = c.split_at.ensures.back ∙ ap (λ n. drop n c.args.nets.now) (c.from-half.ensures ∙ c.half_of.ensures) in
    if_ok c.choose.result _ (λ net. Always c.choose.new.builder (λ cycle. Selects (λ (item : NetValue). cycle.net item.number) (cycle.net c.args.index.number) c.args.bits c.args.nets.now net))
    (λ net value cycle v4. (
    let v3 = c.choose.ensures.adds.grows.extends.valuations cycle v4 in
    let v2 = c.slice.ensures.extends.valuations cycle v3 in
    let v1 = c.select_bit-3.ensures.adds.grows.extends.valuations cycle v2 in
    subst (λ b. Selects (λ (item : NetValue). cycle.net item.number) (cycle.net c.args.index.number) b c.args.nets.now net) back
    (selects_halves (λ (item : NetValue). cycle.net item.number) (cycle.net c.args.index.number) (c.args.bits - 1) c.args.nets.now (cycle.net c.in_ok-bit.bit.number) c.in_ok-low.low c.in_ok-high.high net
    ((c.in_ok-bit.ensures.value cycle v3).1 ∙ ap (λ n. cycle.net c.args.index.number / 2 ^ (c.args.bits - 1) % 2 ^ n) one)
    (value cycle v4)
    (subst (λ (nets : List NetValue). Selects (λ (item : NetValue). cycle.net item.number) (cycle.net c.args.index.number) (c.args.bits - 1) nets c.in_ok-low.low) front (c.in_ok-low.ensures.value cycle v1))
    (subst (λ (nets : List NetValue). Selects (λ (item : NetValue). cycle.net item.number) (cycle.net c.args.index.number) (c.args.bits - 1) nets c.in_ok-high.high) rest (c.in_ok-high.ensures.value cycle v2)))))
    c.choose.ensures.value

pub returns-clause-adds : goal.returns-clause-adds
returns-clause-adds t c =
    let front = c.split_at.ensures.front_len in
    let rest = c.split_at.ensures.back_len in
    let more = c.if-nets-half.false in
    let half = (c.from-half.ensures ∙ c.half_of.ensures) in
    let some : 1 ≤ 2 ^ (c.args.bits - 1) = pow_pos (c.args.bits - 1) in
    adds_fewer _ _ _ _ (omega (arith, front, rest, more, half, some))
    (adds_twice _ _ _ _ _ (adds_twice _ _ _ _ _ (adds_twice _ _ _ _ _ c.select_bit-2.ensures.adds c.select_bit-3.ensures.adds) (grows_once _ _ c.slice.ensures.extends c.slice.ensures.grows)) c.choose.ensures.adds)
