use Rattle.std.proofs.Common.{arith}
use Rattle.scenarios.proofs.PortLemmas.{below_top, all_fit}
use Rattle.scenarios.proofs.ports.fits.Goals as goal

pub pow-requires : goal.pow-requires
pow-requires c = below_top c.args.bits c.if-bits-ge128.false

pub returns-then-bits-ge128 : goal.returns-then-bits-ge128
returns-then-bits-ge128 c = all_fit c.args.value c.args.bits (omega arith) c.if-bits-ge128.true
