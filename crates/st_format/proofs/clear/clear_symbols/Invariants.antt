use Rattle.st_format.proofs.ClearLaw.{AreCleared}
use Rattle.st_format.proofs.clear.clear_symbols.Given as goal

abbrev pub invariant-loop-count : goal.invariant-loop-count
invariant-loop-count l = AreCleared l.bits l.count l.word l.empty l.cleared l.fn.builder l.builder
