use Rattle.lane_sim.proofs.CellLists.{first_cells_more}
use Rattle.lane_sim.proofs.cells.first_cells.Goals as goal

pub lanes-preserved : goal.lanes-preserved
lanes-preserved c =
    rw c.in_ok-push.ensures.items (first_cells_more c.args.module.now.memories c.lanes.cells.items c.lanes.counter c.in_ok-new.field-0 c.lanes.invariant
    (record { places = c.in_ok-new.ensures.places; words = c.in_ok-new.ensures.words }) c.in_ok-new.ensures.cleared)
