use Rattle.std.proofs.Common.{length}
use Rattle.mm_arbiter.proofs.asks.+ask_bits.Given as goal

abbrev pub decreases-ask_bits : goal.decreases-ask_bits
decreases-ask_bits l = length l.later.now
