use Rattle.std.proofs.Common.{◌≡◌, ◌<◌, get_or, length, sym, subst, ◌∙◌, arith}
use Rattle.cycle_sim.specs.Sims.{SimValue}
use Rattle.lane_sim.specs.LaneSims.{lane_of}
use Rattle.simulations.specs.Cycles.{IsTold}
use Rattle.simulations.specs.Value.{value_with}
use Rattle.simulations.specs.Phases.{HasEnded}
use Rattle.simulations.proofs.campaigns.Many.{all_done, next_at, none_done, one_more_done}
use Rattle.simulations.proofs.campaigns.all.end_all.Goals as goal

pub loop-lane-init : goal.loop-lane-init
loop-lane-init c = none_done (λ j old new. HasEnded (lane_of c.args.lanes.now j) old new) c.args.benches.now

pub end_cycle-requires-clause-told : goal.end_cycle-requires-clause-told
end_cycle-requires-clause-told c =
    let same = c.loop-lane.invariant.count in
    let inside : c.loop-lane.lane < length c.loop-lane.benches = omega (arith, c.loop-lane-test.true, same, c.requires.count) in
    subst (λ (sim : SimValue). IsTold (value_with sim (get_or c.loop-lane.benches c.loop-lane.lane c.index-benches-lane.result).bench)) (sym c.lane.ensures)
    (c.requires.told c.loop-lane.lane _ (next_at (λ j old new. HasEnded (lane_of c.args.lanes.now j) old new) c.args.benches.now c.loop-lane.benches c.loop-lane.lane c.index-benches-lane.result c.loop-lane.invariant inside))

pub end_cycle-requires-clause-room : goal.end_cycle-requires-clause-room
end_cycle-requires-clause-room c =
    let same = c.loop-lane.invariant.count in
    let inside : c.loop-lane.lane < length c.loop-lane.benches = omega (arith, c.loop-lane-test.true, same, c.requires.count) in
    c.requires.room c.loop-lane.lane _ (next_at (λ j old new. HasEnded (lane_of c.args.lanes.now j) old new) c.args.benches.now c.loop-lane.benches c.loop-lane.lane c.index-benches-lane.result c.loop-lane.invariant inside)

pub loop-lane-preserved : goal.loop-lane-preserved
loop-lane-preserved c =
    let same = c.loop-lane.invariant.count in
    let inside : c.loop-lane.lane < length c.loop-lane.benches = omega (arith, c.loop-lane-test.true, same, c.requires.count) in
    one_more_done (λ j old new. HasEnded (lane_of c.args.lanes.now j) old new) c.args.benches.now c.loop-lane.benches c.loop-lane.lane c.index-benches-lane.result c.end_cycle.new.self inside c.loop-lane.invariant (subst (λ (sim : SimValue). HasEnded sim (get_or c.loop-lane.benches c.loop-lane.lane c.index-benches-lane.result) c.end_cycle.new.self) c.lane.ensures c.end_cycle.ensures)

pub returns-clause-count : goal.returns-clause-count
returns-clause-count c = c.loop-lane.invariant.count ∙ c.requires.count

pub returns-clause-each : goal.returns-clause-each
returns-clause-each c = all_done (λ j old new. HasEnded (lane_of c.args.lanes.now j) old new) c.args.benches.now c.loop-lane.benches c.loop-lane.lane c.loop-lane.invariant (omega (arith, c.loop-lane-test.false, c.requires.count))
