use Rattle.std.proofs.Common.{◌≡◌, ◌==◌, if◌then◌else◌, ◌+◌, ◌-◌, length, take, drop, sym, subst, ap, ◌∙◌}
use Rattle.netlist.specs.Nets.{NetValue}
use Rattle.netlist.specs.Runs.{Always}
use Rattle.net_parts.specs.Nets.{IsBit}
use Rattle.net_parts.specs.Laws.{bit_fits, if_ok}
use Rattle.net_parts.specs.Bits.{chosen_high}
use Rattle.st_mux.specs.Choosing.{first_set, first_of_more}
use Rattle.st_mux.proofs.first.+first_high.Goals as goal

pub returns-clause-value : goal.returns-clause-value
returns-clause-value t c =
    if_ok c.choose.result _ (λ net. Always c.choose.new.builder (λ cycle. cycle.net net.number ≡ first_set cycle c.args.nets.now c.args.from))
    (λ net value cycle v3. (
    let v2 = c.choose.ensures.adds.grows.extends.valuations cycle v3 in
    let v1 = c.constant-2.ensures.adds.grows.extends.valuations cycle v2 in
    let v0 = c.first_high.ensures.adds.grows.extends.valuations cycle v1 in
    let bit : IsBit c.args.builder.now c.index-nets-0.result = subst (IsBit c.args.builder.now) (sym c.index-nets-0.is) (c.requires.nets c.index-nets-0.result 0 c.requires.some) in
    value cycle v3
    ∙ chosen_high (cycle.net c.index-nets-0.result.number) _ _ (bit_fits _ _ bit cycle v0)
    ∙ ap (λ n. if cycle.net c.index-nets-0.result.number == 1 then n else cycle.net c.in_ok-later.later.number) (c.in_ok-here.ensures.value cycle v2)
    ∙ ap (λ n. if cycle.net c.index-nets-0.result.number == 1 then c.args.from else n) (c.in_ok-later.ensures.value cycle v1)
    ∙ ap (λ (first : NetValue). if cycle.net first.number == 1 then c.args.from else first_set cycle (take (length c.args.nets.now - 1) (drop 1 c.args.nets.now)) (c.args.from + 1)) c.index-nets-0.is
    ∙ first_of_more cycle c.args.nets.now c.args.from c.index-nets-0.result c.requires.some c.if-nets-eq1.false))
    c.choose.ensures.value
