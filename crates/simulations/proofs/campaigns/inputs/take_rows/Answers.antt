use Rattle.std.proofs.Common.{◌≡◌, ◌<◌, ℕ, List, length, slice_get, slice_index_or, Some, sym, ap, ◌∙◌, arith}
use Rattle.std.proofs.lemmas.List.{length-set}
use Rattle.av_base.specs.Word.{word}
use Rattle.lane_sim.specs.LaneWords.{LaneWord, value_at}
use Rattle.simulations.specs.declared.campaigns.lane_bench.LaneBench.{LaneBench}
use Rattle.simulations.proofs.campaigns.Many.{set_here_or_there, within}
use Rattle.simulations.proofs.campaigns.Rows.{row_length, row_taken}
use Rattle.simulations.proofs.campaigns.inputs.take_rows.Goals as goal

pub inputs_at-requires-clause-rows : goal.inputs_at-requires-clause-rows
inputs_at-requires-clause-rows c = (c.requires.rows.0, omega (arith, c.requires.rows.1, c.loop-place-test.true, c.loop-place.invariant.count), λ j lane at. (sym (row_length lane.bench.row) ∙ ap (λ (ws : List ℕ). length ws) (c.requires.rows.2 j lane at), c.requires.rows.2 j lane at))

pub loop-place-preserved : goal.loop-place-preserved
loop-place-preserved c =
    let inside : c.loop-place.place < length c.loop-place.inputs = omega (arith, c.loop-place-test.true, c.loop-place.invariant.count) in
    record {
      count = length-set c.loop-place.inputs c.loop-place.place c.inputs_at.result ∙ c.loop-place.invariant.count;
      taken = set_here_or_there
          (λ (place : ℕ) (x : LaneWord). (j : ℕ) (lane : LaneBench) → slice_get c.args.benches.now j ≡ Some lane → value_at x j ≡ slice_index_or lane.bench.row place (word 0 0))
          c.loop-place.inputs c.loop-place.place c.inputs_at.result inside c.loop-place.invariant.taken c.inputs_at.ensures;
    }

pub returns-clause-rows : goal.returns-clause-rows
returns-clause-rows c = λ j lane at.
    let widths = c.requires.rows.0 in
    let same : length c.loop-place.inputs ≡ length lane.bench.row = c.loop-place.invariant.count ∙ c.requires.rows.1 ∙ ap (λ (ws : List ℕ). length ws) (sym (c.requires.rows.2 j lane at)) ∙ row_length lane.bench.row in
    row_taken j c.loop-place.inputs lane.bench.row same (λ place x there.
    let low = within c.loop-place.inputs place x there in
    c.loop-place.invariant.taken place x (omega (arith, low, c.loop-place-test.false, c.loop-place.invariant.count)) there j lane at)
