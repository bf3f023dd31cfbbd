use Rattle.std.proofs.Common.{◌+◌, refl}
use Rattle.routed_modules.proofs.InputPorts.{channel_port, is_input_at}
use Rattle.routed_modules.proofs.ends.channel_at.Goals as goal

pub input-requires : goal.input-requires
input-requires c = (c.args.bits, channel_port c.args.builder.now c.args.place c.args.has c.requires.stands (c.args.place + 3) c.args.bits c.requires.channel refl)

pub returns : goal.returns
returns c =
    is_input_at c.args.builder.now (c.args.place + 3) c.args.bits c.input.result
    (channel_port c.args.builder.now c.args.place c.args.has c.requires.stands (c.args.place + 3) c.args.bits c.requires.channel refl)
    c.input.ensures.net c.input.ensures.number c.input.ensures.width (c.args.place + 3) refl
