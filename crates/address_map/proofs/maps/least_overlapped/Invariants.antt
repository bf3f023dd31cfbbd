use Rattle.std.proofs.Common.{◌≡◌, ℕ, ◌<◌, get_or, None, false}
use Rattle.address_map.specs.Footprints.{footprints}
use Rattle.address_map.specs.MapRules.{overlaps_at}
use Rattle.address_map.proofs.maps.least_overlapped.Given as goal

abbrev pub invariant-loop-earlier : goal.invariant-loop-earlier
invariant-loop-earlier l = (k : ℕ) → k < l.earlier → overlaps_at l.footprint (get_or (footprints l.system) k None) ≡ false
