use Rattle.address_map.proofs.JoinedLemmas.{entry_joined}
use Rattle.address_map.proofs.laws.entries_are_of_connections.Goals as goal

pub returns : goal.returns
returns c = entry_joined
