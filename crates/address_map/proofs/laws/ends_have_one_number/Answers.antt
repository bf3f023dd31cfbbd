use Rattle.std.proofs.Common.{map}
use Rattle.address_map.specs.Maps.{end_at, mm_connections}
use Rattle.address_map.proofs.EndsLemmas.{one_place}
use Rattle.address_map.proofs.JudgeLemmas.{numbered}
use Rattle.address_map.proofs.laws.ends_have_one_number.Goals as goal

pub returns : goal.returns
returns c = record { there = numbered; one = λ system side. one_place (map (end_at side) (mm_connections system)) }
