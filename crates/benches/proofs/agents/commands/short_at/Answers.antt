use Rattle.std.proofs.Common.{arith}
use Rattle.benches.proofs.agents.commands.short_at.Goals as goal

pub overflow_cast-result : goal.overflow_cast-result
overflow_cast-result c =
    let low = c.ranges.absent.fits in
    let same = c.from.ensures in
    record { fits = c.level_at.ensures.fits 16 c.requires.there (omega (arith, low, same)) }
