use Rattle.std.proofs.Common.{◌≡◌, ◌+◌, ◌%◌, ◌^◌, ℕ, ltb, ap, ◌∙◌, arith}
use Rattle.lane_sim.specs.LaneWords.{value_at}
use Rattle.std.specs.Prelude.{if◌then◌else◌}
use Rattle.lane_sim.specs.Planes.{lane}
use Rattle.lane_sim.proofs.planes.Halves.{word_is, both, wide_sum}
use Rattle.lane_sim.proofs.planes.value.LaneVal.add.Goals as goal

pub returns-else-width-le64 : goal.returns-else-width-le64
returns-else-width-le64 c j lt =
    let low = both (λ a b. (a + b) % 2 ^ 64) _ _ _ _ _ (c.add-low.ensures j lt) (c.low.ensures.lanes j lt) (c.low-2.ensures.lanes j lt) in
    let high = both (λ a b. (a + b) % 2 ^ 64) _ _ _ _ _ (c.add.ensures j lt) (c.high.ensures j lt) (c.high-else-width-le64.ensures j lt) in
    let carry = c.less-carry.ensures j lt ∙ ap (λ n. if ltb (lane c.add-low.result j) n then 1 else 0) (c.low-else-width-le64.ensures.lanes j lt) in
    c.wide.ensures j lt ∙ word_is _ _ _ _ c.width-width.ensures.value
    (wide_sum c.width-width.result (value_at c.args.self j).bits (value_at c.args.other j).bits _ _ (let h = c.width-width.ensures.word.small in let e = c.width-width.ensures.value in omega arith)
    (both (λ a b. (a + b) % 2 ^ 64) _ _ _ _ _ (c.add-else-width-le64.ensures j lt) high carry) low
    ∙ ap (λ n. ((value_at c.args.self j).bits + (value_at c.args.other j).bits) % 2 ^ n) c.width-width.ensures.value)
