use Rattle.std.proofs.Common.{◌≡◌, ◌<◌, ℕ, List, get_or, length, slice_get, slice_index_or, Some, sym, ap, ◌∙◌, arith}
use Rattle.std.proofs.lemmas.List.{length-set}
use Rattle.std.proofs.lemmas.Option.{slice_get-get_or}
use Rattle.av_base.specs.Word.{Word, word}
use Rattle.lane_sim.specs.LaneWords.{word_in}
use Rattle.simulations.specs.declared.campaigns.lane_bench.LaneBench.{LaneBench}
use Rattle.simulations.proofs.campaigns.Many.{read_at, some_at, taken_more, within}
use Rattle.simulations.proofs.campaigns.Rows.{same_width_at}
use Rattle.simulations.proofs.campaigns.inputs.inputs_at.Goals as goal

pub loop-lane-preserved : goal.loop-lane-preserved
loop-lane-preserved c =
    let count = c.loop-lane.invariant.count in
    record {
      count = length-set c.loop-lane.values c.loop-lane.lane c.input.result ∙ count;
      values = taken_more (λ (lane : LaneBench). slice_index_or lane.bench.row c.args.place (word 0 0)) c.args.benches.now c.loop-lane.values c.loop-lane.lane c.index-benches-lane.result
          c.input.result (omega (arith, count, c.loop-lane-test.true))
          (c.input.ensures ∙ ap (λ (lane : LaneBench). slice_index_or lane.bench.row c.args.place (word 0 0)) c.index-benches-lane.is) c.loop-lane.invariant.values;
    }

pub from-requires : goal.from-requires
from-requires c = λ j low.
    let end = c.loop-lane-test.false in
    let own = some_at c.args.benches.now j (omega (arith, low, c.requires.count)) in
    let first = some_at c.args.benches.now 0 (omega (arith, c.requires.count)) in
    let own_is : word_in c.loop-lane.values j ≡ slice_index_or own.0.bench.row c.args.place (word 0 0) = read_at c.loop-lane.values j (word 0 0) _ (c.loop-lane.invariant.values j own.0 (omega (arith, low, end)) own.1) in
    let first_is : word_in c.loop-lane.values 0 ≡ slice_index_or first.0.bench.row c.args.place (word 0 0) = read_at c.loop-lane.values 0 (word 0 0) _ (c.loop-lane.invariant.values 0 first.0 (omega (arith, end)) first.1) in
    ap (λ (value : Word). value.width) own_is
    ∙ same_width_at own.0.bench.row first.0.bench.row c.args.place ((c.requires.rows.2 j own.0 own.1).1 ∙ sym (c.requires.rows.2 0 first.0 first.1).1)
    ∙ sym (ap (λ (value : Word). value.width) first_is)

pub returns : goal.returns
returns c = λ j lane at.
    let low = within c.args.benches.now j lane at in
    c.from.ensures j (omega (arith, low, c.requires.count))
    ∙ read_at c.loop-lane.values j (word 0 0) _ (c.loop-lane.invariant.values j lane (omega (arith, low, c.requires.count, c.loop-lane-test.false)) at)
