use Rattle.st_windows.proofs.WordLemmas.{IsRestOf}
use Rattle.st_windows.proofs.words.rest_word.Given as goal

abbrev pub invariant-loop-most : goal.invariant-loop-most
invariant-loop-most l = IsRestOf l.sizes l.most l.coming l.count l.rest l.fn.builder l.builder
