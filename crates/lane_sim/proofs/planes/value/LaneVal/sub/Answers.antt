use Rattle.std.proofs.Common.{◌≡◌, ◌+◌, ◌-◌, ◌%◌, ◌^◌, ℕ, ltb, ap, ◌∙◌, arith}
use Rattle.lane_sim.specs.LaneWords.{value_at}
use Rattle.std.specs.Prelude.{if◌then◌else◌}
use Rattle.lane_sim.specs.Planes.{lane}
use Rattle.lane_sim.proofs.planes.Halves.{word_is, both, fits_in, narrow_difference, wide_difference}
use Rattle.lane_sim.proofs.planes.value.LaneVal.sub.Goals as goal

pub returns-then-width-le64 : goal.returns-then-width-le64
returns-then-width-le64 c j lt =
    let low = both (λ a b. (a + (2 ^ 64 - b)) % 2 ^ 64) _ _ _ _ _ (c.sub-low.ensures j lt) (c.low.ensures.lanes j lt) (c.low-2.ensures.lanes j lt) in
    c.narrow.ensures j lt ∙ word_is _ _ _ _ c.width-width.ensures.value
    (narrow_difference c.width-width.result (value_at c.args.self j).bits (value_at c.args.other j).bits _ c.if-width-le64.true (fits_in _ _ _ c.width-width.ensures.value (c.low.ensures.word.fits j lt)) (fits_in _ _ _ (c.width-width.ensures.value ∙ c.requires) (c.low-2.ensures.word.fits j lt)) low
    ∙ ap (λ n. ((value_at c.args.self j).bits + (2 ^ n - (value_at c.args.other j).bits)) % 2 ^ n) c.width-width.ensures.value)

pub returns-else-width-le64 : goal.returns-else-width-le64
returns-else-width-le64 c j lt =
    let low = both (λ a b. (a + (2 ^ 64 - b)) % 2 ^ 64) _ _ _ _ _ (c.sub-low.ensures j lt) (c.low.ensures.lanes j lt) (c.low-2.ensures.lanes j lt) in
    let high = both (λ a b. (a + (2 ^ 64 - b)) % 2 ^ 64) _ _ _ _ _ (c.sub.ensures j lt) (c.high.ensures j lt) (c.high-else-width-le64.ensures j lt) in
    let borrow = both (λ a b. if ltb a b then 1 else 0) _ _ _ _ _ (c.less-borrow.ensures j lt) (c.low-else-width-le64.ensures.lanes j lt) (c.low-else-width-le64-2.ensures.lanes j lt) in
    c.wide.ensures j lt ∙ word_is _ _ _ _ c.width-width.ensures.value
    (wide_difference c.width-width.result (value_at c.args.self j).bits (value_at c.args.other j).bits _ _ (let h = c.width-width.ensures.word.small in let e = c.width-width.ensures.value in omega arith)
    (fits_in _ _ _ c.width-width.ensures.value (c.low.ensures.word.fits j lt)) (fits_in _ _ _ (c.width-width.ensures.value ∙ c.requires) (c.low-2.ensures.word.fits j lt))
    (both (λ a b. (a + (2 ^ 64 - b)) % 2 ^ 64) _ _ _ _ _ (c.sub-else-width-le64.ensures j lt) high borrow) low
    ∙ ap (λ n. ((value_at c.args.self j).bits + (2 ^ n - (value_at c.args.other j).bits)) % 2 ^ n) c.width-width.ensures.value)
