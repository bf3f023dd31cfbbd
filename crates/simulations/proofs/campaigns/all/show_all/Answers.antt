use Rattle.std.proofs.Common.{◌≡◌, ◌<◌, length, sym, subst, ◌∙◌, arith}
use Rattle.simulations.specs.Phases.{HasShown}
use Rattle.simulations.proofs.campaigns.Many.{all_done, next_at, none_done, one_more_done}
use Rattle.simulations.proofs.campaigns.all.show_all.Goals as goal

pub loop-lane-init : goal.loop-lane-init
loop-lane-init c = none_done (λ j old new. HasShown old new) c.args.benches.now

pub show-requires : goal.show-requires
show-requires c =
    let same = c.loop-lane.invariant.count in
    let inside : c.loop-lane.lane < length c.loop-lane.benches = omega (arith, c.loop-lane-test.true, same, c.requires.count) in
    c.requires.left c.loop-lane.lane _ (next_at (λ j old new. HasShown old new) c.args.benches.now c.loop-lane.benches c.loop-lane.lane c.index-benches-lane.result c.loop-lane.invariant inside)

pub loop-lane-preserved : goal.loop-lane-preserved
loop-lane-preserved c =
    let same = c.loop-lane.invariant.count in
    let inside : c.loop-lane.lane < length c.loop-lane.benches = omega (arith, c.loop-lane-test.true, same, c.requires.count) in
    one_more_done (λ j old new. HasShown old new) c.args.benches.now c.loop-lane.benches c.loop-lane.lane c.index-benches-lane.result c.show.new.self inside c.loop-lane.invariant c.show.ensures

pub returns-clause-count : goal.returns-clause-count
returns-clause-count c = c.loop-lane.invariant.count ∙ c.requires.count

pub returns-clause-each : goal.returns-clause-each
returns-clause-each c = all_done (λ j old new. HasShown old new) c.args.benches.now c.loop-lane.benches c.loop-lane.lane c.loop-lane.invariant (omega (arith, c.loop-lane-test.false, c.requires.count))
