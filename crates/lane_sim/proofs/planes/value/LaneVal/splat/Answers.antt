use Rattle.std.proofs.Common.{◌∙◌}
use Rattle.lane_sim.proofs.planes.Halves.{narrow_at, wide_at}
use Rattle.lane_sim.proofs.planes.value.LaneVal.splat.Goals as goal

pub returns-then-width-le64 : goal.returns-then-width-le64
returns-then-width-le64 c j lt =
    c.narrow.ensures j lt ∙ narrow_at c.width-width.result c.args.value _ c.width-width.ensures.value c.if-width-le64.true c.width-width.ensures.word.fits (c.splat-low.ensures j lt ∙ c.low_half.ensures.half)

pub returns-else-width-le64 : goal.returns-else-width-le64
returns-else-width-le64 c j lt =
    c.wide.ensures j lt
    ∙ wide_at c.width-width.result c.args.value _ _ c.width-width.ensures.value c.width-width.ensures.word.fits (c.splat-high.ensures j lt ∙ c.high_half.ensures) (c.splat-low.ensures j lt ∙ c.low_half.ensures.half)
