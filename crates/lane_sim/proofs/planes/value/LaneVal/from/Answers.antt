use Rattle.std.proofs.Common.{◌≡◌, ℕ, ◌+◌, ◌%◌, ◌/◌, ◌^◌, ◌<◌, get_or, inl, inr, sym, subst, ap, ◌∙◌, arith}
use Rattle.std.proofs.lemmas.Bool.{cases_lt}
use Rattle.std.proofs.lemmas.List.{length-set}
use Rattle.av_base.specs.Word.{Word, IsWord}
use Rattle.lane_sim.specs.Planes.{lane}
use Rattle.lane_sim.specs.LaneWords.{word_in}
use Rattle.lane_sim.proofs.planes.Halves.{set_lane, word_read, narrow_at, wide_at}
use Rattle.lane_sim.proofs.planes.value.LaneVal.from.Goals as goal

pub loop-lane-preserved : goal.loop-lane-preserved
loop-lane-preserved c =
    let n = c.loop-lane.lane in
    let low_is : get_or c.args.values n c.index-values-lane.result ≡ word_in c.args.values n = sym c.index-values-lane.is ∙ word_read c.args.values n _ (omega arith) c.index-values-lane.is in
    let high_is : get_or c.args.values n c.index-values-lane-in-loop-lane.result ≡ word_in c.args.values n = sym c.index-values-lane-in-loop-lane.is ∙ word_read c.args.values n _ (omega arith) c.index-values-lane-in-loop-lane.is in
    let count = c.loop-lane.invariant.low_count in
    let high_count = c.loop-lane.invariant.high_count in
    record {
      low_count = length-set c.loop-lane.low n c.low_half.result ∙ count;
      high_count = length-set c.loop-lane.high n c.high_half.result ∙ high_count;
      low = set_lane c.loop-lane.low n c.low_half.result (λ k. (word_in c.args.values k).bits % 2 ^ 64) (omega arith) (c.low_half.ensures.half ∙ ap (λ (x : Word). x.bits % 2 ^ 64) low_is) c.loop-lane.invariant.low;
      high = set_lane c.loop-lane.high n c.high_half.result (λ k. (word_in c.args.values k).bits / 2 ^ 64) (omega arith) (c.high_half.ensures ∙ ap (λ (x : Word). x.bits / 2 ^ 64) high_is) c.loop-lane.invariant.high;
      words = λ k lt. elim (cases_lt k n) [
        | inl less ↦ c.loop-lane.invariant.words k less
        | inr le ↦ (let z : n ≡ k = omega arith in subst (λ m. IsWord (word_in c.args.values m).width (word_in c.args.values m).bits) z (let P : Word → Type 0 = λ x. IsWord x.width x.bits in subst P low_is c.low_half.ensures.word))
      ];
    }

pub returns-then-width-le64 : goal.returns-then-width-le64
returns-then-width-le64 c j lt =
    let first : c.index-values-0.result ≡ word_in c.args.values 0 = word_read c.args.values 0 _ (omega arith) c.index-values-0.is in
    let width : c.width-width.result ≡ (word_in c.args.values j).width = c.width-width.ensures.value ∙ ap (λ (x : Word). x.width) (sym c.index-values-0.is ∙ first) ∙ sym (c.requires j lt) in
    let below : j < c.loop-lane.lane = omega arith in
    c.narrow.ensures j lt
    ∙ narrow_at c.width-width.result (word_in c.args.values j) _ width c.if-width-le64.true (c.loop-lane.invariant.words j below).fits (ap (λ ns. lane ns j) c.from_array.ensures ∙ c.loop-lane.invariant.low j below)

pub returns-else-width-le64 : goal.returns-else-width-le64
returns-else-width-le64 c j lt =
    let first : c.index-values-0.result ≡ word_in c.args.values 0 = word_read c.args.values 0 _ (omega arith) c.index-values-0.is in
    let width : c.width-width.result ≡ (word_in c.args.values j).width = c.width-width.ensures.value ∙ ap (λ (x : Word). x.width) (sym c.index-values-0.is ∙ first) ∙ sym (c.requires j lt) in
    let below : j < c.loop-lane.lane = omega arith in
    c.wide.ensures j lt
    ∙ wide_at c.width-width.result (word_in c.args.values j) _ _ width (c.loop-lane.invariant.words j below).fits (ap (λ ns. lane ns j) c.from_array-else-width-le64-2.ensures ∙ c.loop-lane.invariant.high j below)
    (ap (λ ns. lane ns j) c.from_array-else-width-le64.ensures ∙ c.loop-lane.invariant.low j below)
