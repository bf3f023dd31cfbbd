use Rattle.std.proofs.Common.{◌≡◌, []}
use Rattle.std.specs.Prelude.{replicate}
use Rattle.address_map.proofs.maps.empty_maps.Given as goal

abbrev pub invariant-loop : goal.invariant-loop
invariant-loop l = l.maps.items ≡ replicate l.counter []
