use Rattle.std.proofs.Common.{◌≡◌, ◌==◌, if◌then◌else◌, length, List, ap, ◌∙◌, arith}
use Rattle.netlist.specs.Nets.{NetValue}
use Rattle.netlist.specs.Runs.{Always}
use Rattle.net_parts.specs.Laws.{bit_fits, adds_fewer, adds_twice, if_ok}
use Rattle.net_parts.specs.Bits.{chosen_high}
use Rattle.st_mux.specs.Choosing.{is_set, some_set, first_set}
use Rattle.st_mux.specs.Chosen.{IsChosen, is_chosen}
use Rattle.st_mux.proofs.turns.choose_input.Goals as goal

-- as many nets as inputs that come behind the holder
pub returns-in_err-next-clause-adds : goal.returns-in_err-next-clause-adds
returns-in_err-next-clause-adds c =
    let size = c.in_ok-behind.ensures.each.lengths in
    let one = ap (λ (nets : List NetValue). length nets) c.as_slice.ensures.value in
    let two = ap (λ (nets : List NetValue). length nets) c.as_slice-2.ensures.value in
    adds_fewer _ _ _ _ (omega (arith, size, one, two, c.requires.some))
    (adds_twice _ _ _ _ _ (adds_twice _ _ _ _ _ (adds_twice _ _ _ _ _ (adds_twice _ _ _ _ _ c.behind_each.ensures.adds c.any_high.ensures.adds) c.first_high.ensures.adds) c.first_high-2.ensures.adds) c.choose.ensures.adds)

pub returns-clause-adds : goal.returns-clause-adds
returns-clause-adds c =
    let size = c.in_ok-behind.ensures.each.lengths in
    let one = ap (λ (nets : List NetValue). length nets) c.as_slice.ensures.value in
    let two = ap (λ (nets : List NetValue). length nets) c.as_slice-2.ensures.value in
    adds_fewer _ _ _ _ (omega (arith, size, one, two, c.requires.some))
    (adds_twice _ _ _ _ _ (adds_twice _ _ _ _ _ (adds_twice _ _ _ _ _ (adds_twice _ _ _ _ _ (adds_twice _ _ _ _ _ c.behind_each.ensures.adds c.any_high.ensures.adds) c.first_high.ensures.adds) c.first_high-2.ensures.adds)
    c.choose.ensures.adds) c.choose-2.ensures.adds)

pub returns-clause-value : goal.returns-clause-value
returns-clause-value c =
    let each = c.in_ok-behind.ensures.each in
    let list = c.as_slice.ensures.value in
    if_ok c.choose-2.result _ (λ net. Always c.choose-2.new.builder (λ cycle. IsChosen (length c.args.asks.now) (cycle.net c.args.holder.number) (is_set cycle c.args.asks.now) (cycle.net c.args.locked.number == 1) (cycle.net net.number)))
    (λ net value cycle v5. (
    let v4 = c.choose-2.ensures.adds.grows.extends.valuations cycle v5 in
    let v3 = c.choose.ensures.adds.grows.extends.valuations cycle v4 in
    let v2 = c.first_high-2.ensures.adds.grows.extends.valuations cycle v3 in
    let v1 = c.first_high.ensures.adds.grows.extends.valuations cycle v2 in
    let v0 = c.any_high.ensures.adds.grows.extends.valuations cycle v1 in
    let old = c.behind_each.ensures.adds.grows.extends.valuations cycle v0 in
    let next : cycle.net c.in_ok-next.next.number ≡ (if some_set cycle c.in_ok-behind.behind.items then first_set cycle c.in_ok-behind.behind.items 0 else first_set cycle c.args.asks.now 0) =
    c.in_ok-next.ensures.value cycle v4
    ∙ chosen_high (cycle.net c.in_ok-some_behind.some_behind.number) _ _ (bit_fits _ _ c.in_ok-some_behind.ensures.net cycle v1)
    ∙ ap (λ b. if b then cycle.net c.in_ok-first_behind.first_behind.number else cycle.net c.in_ok-first.first.number)
    (c.in_ok-some_behind.ensures.value cycle v1 ∙ ap (λ (nets : List NetValue). some_set cycle nets) list)
    ∙ ap (λ n. if some_set cycle c.in_ok-behind.behind.items then n else cycle.net c.in_ok-first.first.number)
    (c.in_ok-first_behind.ensures.value cycle v2 ∙ ap (λ (nets : List NetValue). first_set cycle nets 0) c.as_slice-2.ensures.value)
    ∙ ap (λ n. if some_set cycle c.in_ok-behind.behind.items then first_set cycle c.in_ok-behind.behind.items 0 else n) (c.in_ok-first.ensures.value cycle v3) in
    is_chosen cycle c.args.asks.now c.in_ok-behind.behind.items c.args.holder each.lengths c.requires.some (each.value cycle v0) (cycle.net c.args.locked.number == 1) (cycle.net net.number)
    (value cycle v5
    ∙ chosen_high (cycle.net c.args.locked.number) _ _ (bit_fits _ _ c.requires.locked cycle old)
    ∙ ap (λ n. if cycle.net c.args.locked.number == 1 then cycle.net c.args.holder.number else n) next)))
    c.choose-2.ensures.value
