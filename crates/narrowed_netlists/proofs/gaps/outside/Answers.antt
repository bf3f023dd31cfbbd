use Rattle.std.proofs.Common.{arith}
use Rattle.std.proofs.lemmas.Nat.Bits.{bit_at_ones}
use Rattle.narrowed_netlists.proofs.BitLemmas.{below_gap, above_gap}
use Rattle.narrowed_netlists.proofs.gaps.outside.Goals as goal

pub returns-clause-below : goal.returns-clause-below
returns-clause-below c i lt = rw c.low_bits.ensures (below_gap c.args.gap.low c.args.gap.zeros i lt (let few = c.requires in omega (arith, few)))

pub returns-clause-above : goal.returns-clause-above
returns-clause-above c i more lt = rw c.low_bits.ensures (above_gap c.args.gap.low c.args.gap.zeros i more lt)

pub returns-then-gap-eq0-clause-below : goal.returns-then-gap-eq0-clause-below
returns-then-gap-eq0-clause-below c i lt = bit_at_ones 128 i (let few = c.requires in omega (arith, few, lt))

pub returns-then-gap-eq0-clause-above : goal.returns-then-gap-eq0-clause-above
returns-then-gap-eq0-clause-above c i more lt = bit_at_ones 128 i lt
