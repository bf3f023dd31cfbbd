use Rattle.std.proofs.Common.{refl}
use Rattle.routed_modules.proofs.InputPorts.{is_input_at}
use Rattle.routed_modules.proofs.ends.ready_at.Goals as goal

pub input-requires : goal.input-requires
input-requires c = (1, c.requires)

pub returns : goal.returns
returns c = is_input_at c.args.builder.now c.args.place 1 c.input.result c.requires c.input.ensures.net c.input.ensures.number c.input.ensures.width c.args.place refl
