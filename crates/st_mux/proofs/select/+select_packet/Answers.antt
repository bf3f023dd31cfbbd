use Rattle.std.proofs.Common.{◌≡◌, ◌+◌, ◌-◌, ◌/◌, ◌%◌, ◌^◌, ◌≤◌, suc, List, take, drop, sym, subst, ap, ◌∙◌, arith}
use Rattle.std.proofs.lemmas.Nat.{pow_pos}
use Rattle.netlist.specs.Runs.{Always}
use Rattle.net_parts.specs.Laws.{if_ok, adds_fewer, adds_twice, grows_once}
use Rattle.st_mux.specs.declared.packet.PacketNets.{PacketNets}
use Rattle.st_mux.specs.PacketChoices.{shown_in, AreAlike, IsLike, alike_last, alike_behind, like_front, like_both, like_through}
use Rattle.st_mux.specs.Selecting.{Selects, two_halves, selects_fewer, selects_halves}
use Rattle.st_mux.proofs.select.+select_packet.Goals as goal

pub returns-then-packets-half-clause-value : goal.returns-then-packets-half-clause-value
returns-then-packets-half-clause-value t c =
    let some = c.if-bits-eq0.false in
    let back : suc (c.args.bits - 1) ≡ c.args.bits = omega (arith, some) in
    if_ok c.select_packet.result _ (λ made. Always c.select_packet.new.builder (λ cycle. Selects (shown_in cycle) (cycle.net c.args.index.number) c.args.bits c.args.packets.now made))
    (λ made value cycle v.
    subst (λ b. Selects (shown_in cycle) (cycle.net c.args.index.number) b c.args.packets.now made) back
    (selects_fewer (shown_in cycle) (cycle.net c.args.index.number) (c.args.bits - 1) c.args.packets.now made
    (let few = c.if-packets-half.true in let half = (c.from-half.ensures ∙ c.half_of.ensures) in omega (arith, few, half)) (value cycle v)))
    c.select_packet.ensures.value

pub select_packet-requires-3 : goal.select_packet-requires-3
select_packet-requires-3 t c =
    let d = c.decreases in
    let some = c.if-bits-eq0.false in
    let within = c.requires.within in
    let few_bits = c.requires.few_bits in
    let few = c.requires.few in
    let more = c.if-packets-half.false in
    let half = (c.from-half.ensures ∙ c.half_of.ensures) in
    let rest = c.split_at.ensures.back_len in
    let twice = two_halves c.args.bits (omega (arith, some)) in (
      omega (arith, d, some),
      (
        c.select_packet-2.ensures.adds.grows.extends.nets _ _ c.requires.index,
        (
          omega (arith, within),
          (
            omega (arith, few_bits),
            (
              subst (AreAlike c.select_packet-2.new.builder) (sym c.split_at.ensures.back)
                  (alike_last _ _ _ c.select_packet-2.ensures.adds.grows.extends (alike_behind _ _ _ c.requires.packets)),
              (omega (arith, rest, more), omega (arith, rest, few, half, twice)),
            ),
          ),
        ),
      ),
    )

pub choose_packet-requires-clause-widths : goal.choose_packet-requires-clause-widths
choose_packet-requires-clause-widths t c =
    let more = c.if-packets-half.false in
    let half = (c.from-half.ensures ∙ c.half_of.ensures) in
    let some : 1 ≤ 2 ^ (c.args.bits - 1) = pow_pos (c.args.bits - 1) in
    like_both _ c.args.packets.now c.from-half.result c.in_ok-low.low c.in_ok-high.high c.requires.packets (omega (arith, half, some)) (omega (arith, more))
    (subst (IsLike c.in_ok-low.low) c.split_at.ensures.front c.in_ok-low.ensures.widths)
    (subst (IsLike c.in_ok-high.high) c.split_at.ensures.back c.in_ok-high.ensures.widths)

pub returns-clause-widths : goal.returns-clause-widths
returns-clause-widths t c =
    let more = c.if-packets-half.false in
    if_ok c.choose_packet.result _ (λ made. IsLike made c.args.packets.now)
    (λ made widths. like_through made c.in_ok-high.high c.args.packets.now widths
    (like_front _ c.args.packets.now c.from-half.result c.in_ok-high.high c.requires.packets (omega (arith, more)) (subst (IsLike c.in_ok-high.high) c.split_at.ensures.back c.in_ok-high.ensures.widths)))
    c.choose_packet.ensures.widths

pub returns-clause-value : goal.returns-clause-value
returns-clause-value t c =
    let some = c.if-bits-eq0.false in
    let back : suc (c.args.bits - 1) ≡ c.args.bits = omega (arith, some) in
    let one : c.args.bits - 1 - (c.args.bits - 1) + 1 ≡ 1 = omega arith in
    let front : c.split_at.result.0.now ≡ take (2 ^ (c.args.bits - 1)) c.args.packets.now = c.split_at.ensures.front ∙ ap (λ n. take n c.args.packets.now) (c.from-half.ensures ∙ c.half_of.ensures) in
    let rest : c.split_at.result.1.now ≡ drop (2 ^ (c.args.bits - 1)) c.args.packets.now = c.split_at.ensures.back ∙ ap (λ n. drop n c.args.packets.now) (c.from-half.ensures ∙ c.half_of.ensures) in
    if_ok c.choose_packet.result _ (λ made. Always c.choose_packet.new.builder (λ cycle. Selects (shown_in cycle) (cycle.net c.args.index.number) c.args.bits c.args.packets.now made))
    (λ made value cycle v4. (
    let v3 = c.choose_packet.ensures.adds.grows.extends.valuations cycle v4 in
    let v2 = c.slice.ensures.extends.valuations cycle v3 in
    let v1 = c.select_packet-3.ensures.adds.grows.extends.valuations cycle v2 in
    subst (λ b. Selects (shown_in cycle) (cycle.net c.args.index.number) b c.args.packets.now made) back
    (selects_halves (shown_in cycle) (cycle.net c.args.index.number) (c.args.bits - 1) c.args.packets.now (cycle.net c.in_ok-top.top.number) c.in_ok-low.low c.in_ok-high.high made
    ((c.in_ok-top.ensures.value cycle v3).1 ∙ ap (λ n. cycle.net c.args.index.number / 2 ^ (c.args.bits - 1) % 2 ^ n) one)
    (value cycle v4)
    (subst (λ (packets : List PacketNets). Selects (shown_in cycle) (cycle.net c.args.index.number) (c.args.bits - 1) packets c.in_ok-low.low) front (c.in_ok-low.ensures.value cycle v1))
    (subst (λ (packets : List PacketNets). Selects (shown_in cycle) (cycle.net c.args.index.number) (c.args.bits - 1) packets c.in_ok-high.high) rest (c.in_ok-high.ensures.value cycle v2)))))
    c.choose_packet.ensures.value

pub returns-clause-adds : goal.returns-clause-adds
returns-clause-adds t c =
    let front = c.split_at.ensures.front_len in
    let rest = c.split_at.ensures.back_len in
    let more = c.if-packets-half.false in
    let half = (c.from-half.ensures ∙ c.half_of.ensures) in
    let some : 1 ≤ 2 ^ (c.args.bits - 1) = pow_pos (c.args.bits - 1) in
    adds_fewer _ _ _ _ (omega (arith, front, rest, more, half, some))
    (adds_twice _ _ _ _ _ (adds_twice _ _ _ _ _ (adds_twice _ _ _ _ _ c.select_packet-2.ensures.adds c.select_packet-3.ensures.adds) (grows_once _ _ c.slice.ensures.extends c.slice.ensures.grows)) c.choose_packet.ensures.adds)
