use Rattle.std.proofs.Common.{lit<, lit≤}
use Rattle.benches.proofs.agents.Reading.{wider}
use Rattle.benches.proofs.agents.commands.nibble_at.Goals as goal

pub overflow_cast-result : goal.overflow_cast-result
overflow_cast-result c = record { fits = c.level_at.ensures.fits 8 (wider c.args.sim.now.netlist 4 8 c.args.port (lit≤ tt) c.requires.there) (lit< tt) }
