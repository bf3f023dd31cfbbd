use Rattle.std.proofs.Common.{◌≡◌, get_or, subst, ◌∙◌, sym, arith}
use Rattle.cycle_sim.specs.Sims.{AreWords, ArePlaces}
use Rattle.lane_sim.specs.LaneSims.{CellsValue, cells_at, lane_words}
use Rattle.lane_sim.proofs.Runs.{PutsWords}
use Rattle.lane_sim.proofs.CellLists.{cell_here, lanes_written_more}
use Rattle.lane_sim.proofs.cells.write_cells.Goals as goal

pub write-requires-clause-places : goal.write-requires-clause-places
write-requires-clause-places c =
    let count = c.loop-lane.invariant.count in
    let same = cell_here c.loop-lane.cells c.loop-lane.lane c.index-cells-lane.result (omega (arith, c.loop-lane-test.true, count)) ∙ c.loop-lane.invariant.rest c.loop-lane.lane (omega arith) in
    subst (λ (v : CellsValue). ArePlaces c.args.module.now.memories v.places) (sym same) (c.requires.cells.each c.loop-lane.lane c.loop-lane-test.true).places

pub write-requires-clause-words : goal.write-requires-clause-words
write-requires-clause-words c =
    let count = c.loop-lane.invariant.count in
    let same = cell_here c.loop-lane.cells c.loop-lane.lane c.index-cells-lane.result (omega (arith, c.loop-lane-test.true, count)) ∙ c.loop-lane.invariant.rest c.loop-lane.lane (omega arith) in
    subst (λ (v : CellsValue). AreWords c.args.module.now.memories v.words) (sym same) (c.requires.cells.each c.loop-lane.lane c.loop-lane-test.true).words

pub loop-lane-preserved : goal.loop-lane-preserved
loop-lane-preserved c =
    let count = c.loop-lane.invariant.count in
    let lane = c.loop-lane.lane in
    let same = cell_here c.loop-lane.cells lane c.index-cells-lane.result (omega (arith, c.loop-lane-test.true, count)) ∙ c.loop-lane.invariant.rest lane (omega arith) in
    let places = subst (λ (v : CellsValue). c.write.new.self.places ≡ v.places) same c.write.ensures.same in
    let puts = subst (λ (v : CellsValue). PutsWords c.args.module.now (lane_words lane c.args.nets.now) v.words c.write.new.self.words) same (record { written = c.write.ensures.written }) in
    lanes_written_more c.args.module.now c.args.nets.now c.args.cells.now c.loop-lane.cells lane c.write.new.self c.loop-lane-test.true c.loop-lane.invariant (record {
      cells = record { places = subst (ArePlaces c.args.module.now.memories) (sym places) (c.requires.cells.each lane c.loop-lane-test.true).places; words = c.write.ensures.words };
      puts = puts;
    })
