use Rattle.narrowed_netlists.proofs.BitLemmas.{all_ones_shl}
use Rattle.narrowed_netlists.proofs.bits.from_lowest.Goals as goal

pub returns : goal.returns
returns c = record { lowest = c.low_zeros.result; below = c.low_zeros.ensures.zeros; above = λ i from lt. all_ones_shl c.low_zeros.result i from lt }
