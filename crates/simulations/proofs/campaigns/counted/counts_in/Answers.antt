use Rattle.std.proofs.Common.{◌≡◌, ◌<◌, length, refl, ◌∙◌, arith}
use Rattle.std.proofs.lemmas.List.{length-set}
use Rattle.simulations.specs.declared.campaigns.lane_bench.LaneBench.{LaneBench}
use Rattle.simulations.proofs.campaigns.Many.{taken_more, within}
use Rattle.simulations.proofs.campaigns.counted.counts_in.Goals as goal

pub loop-lane-preserved : goal.loop-lane-preserved
loop-lane-preserved c =
    let count = c.loop-lane.invariant.count in
    record {
      count = length-set c.loop-lane.counts c.loop-lane.lane _ ∙ count;
      done = taken_more (λ (lane : LaneBench). lane.counts) c.args.benches.now c.loop-lane.counts c.loop-lane.lane c.index-benches-lane.result _ (omega (arith, count, c.loop-lane-test.true)) refl
          c.loop-lane.invariant.done;
    }

pub returns : goal.returns
returns c = λ j lane at.
    let low = within c.args.benches.now j lane at in
    c.loop-lane.invariant.done j lane (omega (arith, low, c.requires, c.loop-lane-test.false)) at
