use Rattle.routed_modules.proofs.InputBeats.{MakesBeats}
use Rattle.routed_modules.proofs.ends.beats_at.Given as goal

abbrev pub invariant-loop-number : goal.invariant-loop-number
invariant-loop-number l = MakesBeats l.fn.builder l.builder l.stride l.has l.number l.beats.items
