use Rattle.std.proofs.Common.{◌≡◌, ◌+◌, ◌-◌, ◌%◌, ◌^◌, ℕ, ap, refl, ◌∙◌, arith}
use Rattle.lane_sim.specs.LaneWords.{value_at}
use Rattle.lane_sim.specs.Planes.{lane}
use Rattle.lane_sim.proofs.planes.Halves.{word_is, both, fits_in, narrow_turned, wide_turned}
use Rattle.lane_sim.proofs.planes.value.LaneVal.not.Goals as goal

pub returns-then-width-le64 : goal.returns-then-width-le64
returns-then-width-le64 c j lt =
    c.narrow.ensures j lt ∙ word_is _ _ _ _ c.width-width.ensures.value
    (narrow_turned c.width-width.result (value_at c.args.self j).bits (lane c.full.result j) _ c.if-width-le64.true (fits_in _ _ _ c.width-width.ensures.value (c.low.ensures.word.fits j lt)) (c.full.ensures j lt)
    (c.sub-low.ensures j lt ∙ ap (λ n. (lane c.full.result j + (2 ^ 64 - n)) % 2 ^ 64) (c.low.ensures.lanes j lt))
    ∙ ap (λ n. 2 ^ n - 1 - (value_at c.args.self j).bits) c.width-width.ensures.value)

pub returns-else-width-le64 : goal.returns-else-width-le64
returns-else-width-le64 c j lt =
    c.wide.ensures j lt ∙ word_is _ _ _ _ c.width-width.ensures.value
    (wide_turned c.width-width.result (value_at c.args.self j).bits (lane c.full.result j) (lane c.full-else-width-le64.result j) _ _ (let h = c.width-width.ensures.word.small in let e = c.width-width.ensures.value in omega arith)
    (fits_in _ _ _ c.width-width.ensures.value (c.low.ensures.word.fits j lt)) (c.full.ensures j lt) (c.full-else-width-le64.ensures j lt)
    (c.sub.ensures j lt ∙ ap (λ n. (lane c.full-else-width-le64.result j + (2 ^ 64 - n)) % 2 ^ 64) (c.high.ensures j lt))
    (c.sub-low.ensures j lt ∙ ap (λ n. (lane c.full.result j + (2 ^ 64 - n)) % 2 ^ 64) (c.low.ensures.lanes j lt))
    ∙ ap (λ n. 2 ^ n - 1 - (value_at c.args.self j).bits) c.width-width.ensures.value)
