use Rattle.std.proofs.Common.{bit_or, ap, ◌∙◌}
use Rattle.lane_sim.specs.LaneWords.{value_at}
use Rattle.av_base.specs.Word.{word}
use Rattle.lane_sim.proofs.planes.Halves.{both, some_bit}
use Rattle.lane_sim.proofs.planes.value.LaneVal.any.Goals as goal

pub returns-else-width-le64 : goal.returns-else-width-le64
returns-else-width-le64 c j lt =
    c.narrow-else-width-le64.ensures j lt
    ∙ ap (word 1) (some_bit (value_at c.args.self j).bits _ _ _ _ (both bit_or _ _ _ _ _ (c.or-either.ensures j lt) (c.low-else-width-le64.ensures.lanes j lt) (c.high.ensures j lt))
    (c.splat-else-width-le64-2.ensures j lt) (c.splat-else-width-le64.ensures j lt) (c.pick-else-width-le64.ensures j lt))
