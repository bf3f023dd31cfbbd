use Rattle.net_parts.specs.RowLaws.{AreMade}
use Rattle.net_parts.proofs.rows.make_places.Given as goal

abbrev pub invariant-loop-place : goal.invariant-loop-place
invariant-loop-place g l = AreMade l.fn.builder l.builder l.like l.places.items l._place
