use Rattle.std.proofs.Common.{lit<, lit≤}
use Rattle.benches.proofs.hosts.Widths.{wider}
use Rattle.benches.proofs.hosts.host.BenchHost.code.Goals as goal

pub overflow_cast-result : goal.overflow_cast-result
overflow_cast-result c =
    let fits = rw (← c.self.view_is) at c.requires.fits in
    record { fits = c.level_at.ensures.fits 8 (wider c.args.sim.now.netlist 2 8 c.self.inside.ports.response (lit≤ tt) fits.response) (lit< tt) }
