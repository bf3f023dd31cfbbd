use Rattle.address_map.proofs.JoinedLemmas.{joined}
use Rattle.address_map.proofs.laws.ends_are_joined.Goals as goal

pub returns : goal.returns
returns c = joined
