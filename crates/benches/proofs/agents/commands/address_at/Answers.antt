use Rattle.std.proofs.Common.{lit<}
use Rattle.benches.proofs.agents.commands.address_at.Goals as goal

pub overflow_cast-result : goal.overflow_cast-result
overflow_cast-result c = record { fits = c.level_at.ensures.fits 32 c.requires.there (lit< tt) }
