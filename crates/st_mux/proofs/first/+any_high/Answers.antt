use Rattle.std.proofs.Common.{◌≡◌, ◌==◌, ◌||◌, ◌<◌, ◌-◌, length, take, drop, sym, subst, ap, ◌∙◌, arith}
use Rattle.netlist.specs.Nets.{NetValue}
use Rattle.netlist.specs.Runs.{Always}
use Rattle.net_parts.specs.Nets.{IsBit}
use Rattle.net_parts.specs.Laws.{bit_fits, if_ok}
use Rattle.net_parts.specs.Bits.{high_or}
use Rattle.st_mux.specs.Choosing.{some_set, some_of_more}
use Rattle.st_mux.proofs.first.+any_high.Goals as goal

pub returns-clause-value : goal.returns-clause-value
returns-clause-value t c =
    let some : 0 < length c.args.nets.now = grind (arith, c.is_empty.ensures, c.if-is_empty.false) in
    if_ok c.or.result _ (λ net. Always c.or.new.self (λ cycle. (cycle.net net.number == 1) ≡ some_set cycle c.args.nets.now))
    (λ net value cycle v2. (
    let v1 = c.or.ensures.extends.valuations cycle v2 in
    let v0 = c.any_high.ensures.adds.grows.extends.valuations cycle v1 in
    let bit : IsBit c.args.builder.now c.index-nets-0.result = subst (IsBit c.args.builder.now) (sym c.index-nets-0.is) (c.requires.nets c.index-nets-0.result 0 some) in
    high_or (cycle.net c.index-nets-0.result.number) (cycle.net c.in_ok-others.others.number) (cycle.net net.number) (bit_fits _ _ bit cycle v0) (bit_fits _ _ c.in_ok-others.ensures.net cycle v1) (value cycle v2).1
    ∙ ap (λ b. (cycle.net c.index-nets-0.result.number == 1) || b) (c.in_ok-others.ensures.value cycle v1)
    ∙ ap (λ (first : NetValue). (cycle.net first.number == 1) || some_set cycle (take (length c.args.nets.now - 1) (drop 1 c.args.nets.now))) c.index-nets-0.is
    ∙ some_of_more cycle c.args.nets.now c.index-nets-0.result some))
    c.or.ensures.value
