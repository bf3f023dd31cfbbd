use Rattle.std.proofs.Common.{◌≡◌, ◌&&◌, if◌then◌else◌}
use Rattle.histories.specs.History.{is_raised}
use Rattle.netlist.specs.Runs.{Always}
use Rattle.net_parts.specs.Laws.{bit_fits, if_ok}
use Rattle.net_parts.specs.Levels.{raised_and, level_and}
use Rattle.net_parts.proofs.gates.both.Goals as goal

pub returns-clause-value : goal.returns-clause-value
returns-clause-value c =
    if_ok c.and.result _ (λ net. Always c.and.new.self (λ cycle. is_raised (cycle.net net.number) ≡ (is_raised (cycle.net c.args.a.number) && is_raised (cycle.net c.args.b.number))))
    (λ net value cycle v. (
    let v0 = c.and.ensures.extends.valuations cycle v in
    raised_and _ _ _ (bit_fits _ _ c.requires.a cycle v0) (bit_fits _ _ c.requires.b cycle v0) (value cycle v).1))
    c.and.ensures.value

pub returns-clause-level : goal.returns-clause-level
returns-clause-level c =
    if_ok c.and.result _ (λ net. Always c.and.new.self (λ cycle. cycle.net net.number ≡ (if is_raised (cycle.net c.args.a.number) then cycle.net c.args.b.number else 0)))
    (λ net value cycle v. (
    let v0 = c.and.ensures.extends.valuations cycle v in
    level_and _ _ _ (bit_fits _ _ c.requires.a cycle v0) (bit_fits _ _ c.requires.b cycle v0) (value cycle v).1))
    c.and.ensures.value
