use Rattle.std.proofs.Common.{ℕ, ◌<◌, ◌≤◌, ◌^◌, take}
use Rattle.address_map.specs.Footprints.{footprints}
use Rattle.address_map.specs.MapRules.{KeepsMapRules}
use Rattle.address_map.specs.Maps.{AreMapsFor}
use Rattle.address_map.proofs.maps.judge_all.Given as goal

abbrev pub invariant-loop-k : goal.invariant-loop-k
invariant-loop-k l = record {
  placed : AreMapsFor l.hosts (take l.k (footprints l.system)) l.maps.items;
  kept : (j : ℕ) → j < l.k → KeepsMapRules (footprints l.system) j;
  few : l.k ≤ 2 ^ 32;
}
