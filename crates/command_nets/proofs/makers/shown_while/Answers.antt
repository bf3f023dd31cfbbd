use Rattle.std.proofs.Common.{refl}
use Rattle.histories.specs.History.{is_raised}
use Rattle.command_nets.specs.Nets.{raw_in}
use Rattle.command_nets.specs.Groups.{raw_while}
use Rattle.command_nets.proofs.makers.shown_while.Goals as goal

pub returns-clause-value : goal.returns-clause-value
returns-clause-value c cycle v =
    let before = c.both-2.ensures.adds.grows.extends.valuations cycle v in
    raw_while (is_raised (cycle.net c.args.bit.number)) _ (raw_in cycle c.args.command.now) (c.in_ok-read.ensures.level cycle before) (c.in_ok-write.ensures.level cycle v) refl refl refl refl refl refl
