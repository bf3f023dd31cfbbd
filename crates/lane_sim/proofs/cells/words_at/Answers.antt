use Rattle.std.proofs.Common.{length, subst, ◌∙◌, sym, arith}
use Rattle.netlist.specs.Netlists.{memory_of}
use Rattle.lane_sim.specs.LaneSims.{AreCells}
use Rattle.lane_sim.proofs.CellLists.{cell_here}
use Rattle.lane_sim.proofs.cells.words_at.Goals as goal

pub zero-values-requires-clause-some_bit : goal.zero-values-requires-clause-some_bit
zero-values-requires-clause-some_bit c = (c.requires.module.well_made.memories c.args.memory (memory_of c.memory.result) c.memory.ensures).some_bit

pub zero-values-requires-clause-small : goal.zero-values-requires-clause-small
zero-values-requires-clause-small c = (c.requires.module.well_made.memories c.args.memory (memory_of c.memory.result) c.memory.ensures).small

pub word-requires-clause-cells : goal.word-requires-clause-cells
word-requires-clause-cells c =
    subst (AreCells c.args.module.now.memories) (sym (cell_here c.args.cells.now c.loop-lane.lane c.index-cells-lane.result (omega (arith, c.loop-lane-test.true, c.requires.cells.count))) ∙ sym c.index-cells-lane.is)
    (c.requires.cells.each c.loop-lane.lane c.loop-lane-test.true)
