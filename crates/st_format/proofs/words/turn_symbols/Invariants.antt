use Rattle.st_format.proofs.Turning.{AreTurned}
use Rattle.st_format.proofs.words.turn_symbols.Given as goal

abbrev pub invariant-loop-place : goal.invariant-loop-place
invariant-loop-place l = AreTurned l.bits l.place l.word l.turned l.fn.builder l.builder
