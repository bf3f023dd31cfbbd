use Rattle.address_map.proofs.PlaceLemmas.{place_is}
use Rattle.address_map.proofs.laws.places_are_in_footprints.Goals as goal

pub returns : goal.returns
returns c = place_is
