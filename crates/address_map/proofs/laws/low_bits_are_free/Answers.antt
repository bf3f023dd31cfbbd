use Rattle.address_map.proofs.LowBitLemmas.{low_bits}
use Rattle.address_map.proofs.laws.low_bits_are_free.Goals as goal

pub returns : goal.returns
returns c = λ system maps is are. low_bits system maps is are c.proper_records_are_bounded.ensures.host c.proper_records_are_bounded.ensures.agent
