use Rattle.std.proofs.Common.{◌≡◌}
use Rattle.histories.specs.History.{is_raised}
use Rattle.netlist.specs.Runs.{Always}
use Rattle.net_parts.specs.Laws.{bit_fits, if_ok}
use Rattle.command_nets.specs.Nets.{raw_in}
use Rattle.command_nets.specs.Groups.{is_shown}
use Rattle.command_nets.specs.Levels.{raised_or}
use Rattle.command_nets.proofs.makers.shown.Goals as goal

pub returns-clause-value : goal.returns-clause-value
returns-clause-value c =
    if_ok c.or.result _ (λ n. Always c.or.new.self (λ cycle. is_raised (cycle.net n.number) ≡ is_shown (raw_in cycle c.args.command.now)))
    (λ n value cycle v. (
    let before = c.or.ensures.extends.valuations cycle v in
    raised_or _ _ _ (bit_fits _ _ c.requires.read cycle before) (bit_fits _ _ c.requires.write cycle before) (value cycle v).1))
    c.or.ensures.value
