use Rattle.st_mux.specs.Each.{MakesEach}
use Rattle.st_mux.specs.Choosing.{asks_behind}
use Rattle.st_mux.proofs.turns.behind_each.Given as goal

abbrev pub invariant-loop-number : goal.invariant-loop-number
invariant-loop-number l = MakesEach l.fn.builder l.builder (asks_behind l.asks l.holder) l.nets.items l.number
