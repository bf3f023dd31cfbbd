use Rattle.settled_netlists.specs.Lines.{AreSettledLines}
use Rattle.settled_netlists.proofs.copies.settled_lines.Given as goal

abbrev pub invariant-loop-net : goal.invariant-loop-net
invariant-loop-net l = AreSettledLines l.module l.values l.net l.lines.items
