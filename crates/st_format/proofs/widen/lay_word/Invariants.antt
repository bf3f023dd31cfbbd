use Rattle.st_format.proofs.WidenLemmas.{AreLaid}
use Rattle.st_format.proofs.widen.lay_word.Given as goal

abbrev pub invariant-loop-part : goal.invariant-loop-part
invariant-loop-part l = AreLaid l.sizes l.part l.held l.coming l.gathered l.word l.fn.builder l.builder
