use Rattle.st_mux.specs.Each.{MakesEach, shown_on}
use Rattle.st_mux.proofs.demux.shown_on_each.Given as goal

abbrev pub invariant-loop-number : goal.invariant-loop-number
invariant-loop-number l = MakesEach l.fn.builder l.builder (shown_on l.shown l.channel) l.nets.items l.number
