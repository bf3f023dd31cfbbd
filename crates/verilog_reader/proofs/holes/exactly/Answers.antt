use Rattle.std.proofs.Common.{refl}
use Rattle.verilog_reader.proofs.Numbers.{no_number_breaks, other_number_breaks, number_passes_exactly}
use Rattle.verilog_reader.proofs.holes.exactly.Goals as goal

pub returns-in_default : goal.returns-in_default
returns-in_default c = no_number_breaks c.args.run.now c.args.n c.requires c.in_default.ensures

pub returns-then-told-n : goal.returns-then-told-n
returns-then-told-n c = other_number_breaks c.args.run.now c.args.n c.in-Some.told c.requires c.in-Some.ensures.1 c.if-told-n.true

pub returns : goal.returns
returns c = (number_passes_exactly c.args.run.now c.args.n c.in-Some.told c.in-Some.ensures.0 c.in-Some.ensures.1 c.if-told-n.false c.requires, refl)
