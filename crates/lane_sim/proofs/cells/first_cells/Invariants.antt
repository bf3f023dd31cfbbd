use Rattle.lane_sim.proofs.CellLists.{AreFirstCells}
use Rattle.lane_sim.proofs.cells.first_cells.Given as goal

abbrev pub invariant-lanes : goal.invariant-lanes
invariant-lanes l = AreFirstCells l.module.memories l.cells.items l.counter
