use Rattle.std.proofs.Common.{arith, sym, ◌∙◌}
use Rattle.command_nets.specs.Groups.{command_lasts}
use Rattle.net_parts.specs.Laws.{net_lasts, adds_fewer, adds_twice}
use Rattle.net_parts.specs.Refusing.{handed_on}
use Rattle.mm_arbiter.proofs.pick.choose_seat.Goals as goal

pub returns-clause-command : goal.returns-clause-command
returns-clause-command c = command_lasts _ _ _ c.choose.ensures.adds.grows.extends c.in_ok-command.ensures.command

pub returns-clause-value : goal.returns-clause-value
returns-clause-value c cycle v = c.in_ok-command.ensures.value cycle (c.choose.ensures.adds.grows.extends.valuations cycle v)

pub returns-in_err-command-clause-adds : goal.returns-in_err-command-clause-adds
returns-in_err-command-clause-adds c = adds_fewer _ _ _ _ (omega arith) c.choose_command.ensures.adds

pub returns-in_err-command-clause-full : goal.returns-in_err-command-clause-full
returns-in_err-command-clause-full c e = let full = c.choose_command.ensures.full (handed_on _ _ _ _ c.in_err-command.was c.from_residual.ensures.1 e) in omega (arith, full)

pub returns-in_err-spare-clause-adds : goal.returns-in_err-spare-clause-adds
returns-in_err-spare-clause-adds c = adds_fewer _ _ _ _ (omega arith) (adds_twice _ _ _ _ _ c.choose_command.ensures.adds c.choose.ensures.adds)

pub returns-in_err-spare-clause-full : goal.returns-in_err-spare-clause-full
returns-in_err-spare-clause-full c e =
    let most0 = c.choose_command.ensures.adds.most in
    let full = c.choose.ensures.full (handed_on _ _ _ _ c.in_err-spare.was c.from_residual-in_err-spare.ensures.1 e) in
    omega (arith, most0, full)

pub returns-clause-adds : goal.returns-clause-adds
returns-clause-adds c = adds_fewer _ _ _ _ (omega arith) (adds_twice _ _ _ _ _ c.choose_command.ensures.adds c.choose.ensures.adds)

pub returns-clause-full : goal.returns-clause-full
returns-clause-full c e = cc

pub returns-clause-spare : goal.returns-clause-spare
returns-clause-spare c = record { is_net = c.in_ok-spare.ensures.net.is_net; has_width = c.in_ok-spare.ensures.net.has_width ∙ c.requires.one_spare.has_width }

pub choose_command-requires-clause-bit : goal.choose_command-requires-clause-bit
choose_command-requires-clause-bit c = c.requires.bit

pub choose_command-requires-clause-one : goal.choose_command-requires-clause-one
choose_command-requires-clause-one c = c.requires.one

pub choose_command-requires-clause-other : goal.choose_command-requires-clause-other
choose_command-requires-clause-other c = c.requires.other

pub choose-requires-clause-bit : goal.choose-requires-clause-bit
choose-requires-clause-bit c = net_lasts _ _ _ _ c.choose_command.ensures.adds.grows.extends c.requires.bit

pub choose-requires-clause-one : goal.choose-requires-clause-one
choose-requires-clause-one c = c.choose_command.ensures.adds.grows.extends.nets _ _ c.requires.one_spare.is_net

pub choose-requires-clause-other : goal.choose-requires-clause-other
choose-requires-clause-other c = c.choose_command.ensures.adds.grows.extends.nets _ _ c.requires.other_spare.is_net

pub choose-requires-clause-widths : goal.choose-requires-clause-widths
choose-requires-clause-widths c = c.requires.one_spare.has_width ∙ sym c.requires.other_spare.has_width
