use Rattle.std.proofs.Common.{◌≡◌, ◌||◌}
use Rattle.histories.specs.History.{is_raised}
use Rattle.netlist.specs.Runs.{Always}
use Rattle.net_parts.specs.Laws.{bit_fits, if_ok}
use Rattle.net_parts.specs.Levels.{raised_or}
use Rattle.net_parts.proofs.gates.either.Goals as goal

pub returns-clause-value : goal.returns-clause-value
returns-clause-value c =
    if_ok c.or.result _ (λ net. Always c.or.new.self (λ cycle. is_raised (cycle.net net.number) ≡ (is_raised (cycle.net c.args.a.number) || is_raised (cycle.net c.args.b.number))))
    (λ net value cycle v. (
    let v0 = c.or.ensures.extends.valuations cycle v in
    raised_or _ _ _ (bit_fits _ _ c.requires.a cycle v0) (bit_fits _ _ c.requires.b cycle v0) (value cycle v).1))
    c.or.ensures.value
