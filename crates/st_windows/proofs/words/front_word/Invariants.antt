use Rattle.st_windows.proofs.WordLemmas.{IsFrontOf}
use Rattle.st_windows.proofs.words.front_word.Given as goal

abbrev pub invariant-loop-most : goal.invariant-loop-most
invariant-loop-most l = IsFrontOf l.sizes l.most l.held l.coming l.count l.front l.fn.builder l.builder
