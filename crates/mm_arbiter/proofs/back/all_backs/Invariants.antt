use Rattle.mm_arbiter.specs.Backs.{AreBacksSoFar}
use Rattle.mm_arbiter.proofs.back.all_backs.Given as goal

abbrev pub invariant-loop-seat : goal.invariant-loop-seat
invariant-loop-seat l = AreBacksSoFar l.fn.builder l.builder l.chosen l.below l.word_bits l.askers l.backs.items l.seat
