use Rattle.std.proofs.Common.{take}
use Rattle.net_parts.specs.RowLaws.{AreMade}
use Rattle.net_parts.proofs.rows.fill_places.Given as goal

abbrev pub invariant-loop-place : goal.invariant-loop-place
invariant-loop-place g l = AreMade l.fn.builder l.builder l.like (take l.place-index l.places) l.place-index
