use Rattle.std.proofs.Common.{◌≡◌, not}
use Rattle.histories.specs.History.{is_raised}
use Rattle.netlist.specs.Runs.{Always}
use Rattle.net_parts.specs.Laws.{bit_fits, if_ok}
use Rattle.net_parts.specs.Levels.{raised_not}
use Rattle.net_parts.proofs.gates.turned.Goals as goal

pub returns-clause-value : goal.returns-clause-value
returns-clause-value c =
    if_ok c.not.result _ (λ net. Always c.not.new.self (λ cycle. is_raised (cycle.net net.number) ≡ not (is_raised (cycle.net c.args.a.number))))
    (λ net value cycle v. (
    let v0 = c.not.ensures.extends.valuations cycle v in
    raised_not _ _ _ c.requires.a.has_width (bit_fits _ _ c.requires.a cycle v0) (value cycle v).1))
    c.not.ensures.value
