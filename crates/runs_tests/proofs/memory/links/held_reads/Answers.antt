use Rattle.std.proofs.Common.{arith, refl}
use Rattle.runs_tests.specs.LinkRuns.{one_piece, nothing_dropped}
use Rattle.runs_tests.proofs.memory.HeldReads.{splitter_holds, dropper_holds}
use Rattle.runs_tests.proofs.memory.links.held_reads.Goals as goal

pub returns-clause-may_split : goal.returns-clause-may_split
returns-clause-may_split c = record { bytes = refl; some = omega arith; same = refl; one = omega arith; whole = refl; one_beat = refl }

pub returns-clause-may_drop : goal.returns-clause-may_drop
returns-clause-may_drop c = record { some = omega arith; same = refl; units = refl; agent = refl; enables = refl; one_beat = refl }

pub returns-clause-split : goal.returns-clause-split
returns-clause-split c = λ cycle. (refl, splitter_holds (c.split_runs.ensures one_piece) cycle)

pub returns-clause-drop : goal.returns-clause-drop
returns-clause-drop c = λ cycle. (refl, dropper_holds (c.drop_runs.ensures nothing_dropped) cycle)
