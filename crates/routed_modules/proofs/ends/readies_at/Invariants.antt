use Rattle.routed_modules.specs.Ends.{AreReadies}
use Rattle.routed_modules.proofs.ends.readies_at.Given as goal

abbrev pub invariant-loop-number : goal.invariant-loop-number
invariant-loop-number l = AreReadies l.builder l.place l.stride l.number l.readies.items
