use Rattle.std.proofs.Common.{◌≡◌, ◌==◌, ◌&&◌, not, ap, ◌∙◌}
use Rattle.netlist.specs.Runs.{Always}
use Rattle.net_parts.specs.Laws.{bit_fits, if_ok}
use Rattle.net_parts.specs.Bits.{high_and, high_turned}
use Rattle.st_timing.proofs.PromiseCounts.{turned_bit}
use Rattle.st_timing.proofs.promises.comes_unused.Goals as goal

pub returns-clause-value : goal.returns-clause-value
returns-clause-value c =
    if_ok c.and.result _ (λ unused. Always c.and.new.self (λ cycle. (cycle.net unused.number == 1) ≡ ((cycle.net c.args.due.number == 1) && not (cycle.net c.args.comes.number == 1))))
    (λ unused value cycle v2. (
    let v1 = c.and.ensures.extends.valuations cycle v2 in
    let v0 = c.not.ensures.extends.valuations cycle v1 in
    let none = c.in_ok-none.ensures.value cycle v1 in
    let wide = c.requires.comes.has_width in
    let turned = high_turned _ (cycle.net c.args.comes.number) (cycle.net c.in_ok-none.none.number) wide (bit_fits _ _ c.requires.comes cycle v0) none.1 in
    high_and (cycle.net c.args.due.number) (cycle.net c.in_ok-none.none.number) (cycle.net unused.number) (bit_fits _ _ c.requires.due cycle v0) (turned_bit _ _ _ wide none.1) (value cycle v2).1
    ∙ ap (λ t. (cycle.net c.args.due.number == 1) && t) turned))
    c.and.ensures.value
