use Rattle.lane_sim.proofs.CellLists.{AreLanesWritten}
use Rattle.lane_sim.proofs.cells.write_cells.Given as goal

abbrev pub invariant-loop-lane : goal.invariant-loop-lane
invariant-loop-lane l = AreLanesWritten l.module l.nets l.initial.cells l.cells l.lane
