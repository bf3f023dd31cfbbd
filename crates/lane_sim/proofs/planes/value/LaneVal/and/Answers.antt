use Rattle.std.proofs.Common.{bit_and, ◌∙◌}
use Rattle.lane_sim.specs.LaneWords.{value_at}
use Rattle.std.proofs.lemmas.Nat.{and_mod, and_shr}
use Rattle.lane_sim.proofs.planes.Halves.{word_is, fits_in, both, narrow_bits, wide_bits}
use Rattle.lane_sim.proofs.planes.value.LaneVal.and.Goals as goal

pub returns-then-width-le64 : goal.returns-then-width-le64
returns-then-width-le64 c j lt =
    c.narrow.ensures j lt ∙ word_is _ _ _ _ c.width-width.ensures.value (narrow_bits bit_and and_mod c.width-width.result (value_at c.args.self j).bits (value_at c.args.other j).bits _ c.if-width-le64.true (fits_in _ _ _ c.width-width.ensures.value (c.low.ensures.word.fits j lt)) (fits_in _ _ _ (c.width-width.ensures.value ∙ c.requires) (c.low-2.ensures.word.fits j lt))
    (both bit_and _ _ _ _ _ (c.and-low.ensures j lt) (c.low.ensures.lanes j lt) (c.low-2.ensures.lanes j lt)))

pub returns-else-width-le64 : goal.returns-else-width-le64
returns-else-width-le64 c j lt =
    c.wide.ensures j lt ∙ word_is _ _ _ _ c.width-width.ensures.value (wide_bits bit_and and_mod and_shr c.width-width.result (value_at c.args.self j).bits (value_at c.args.other j).bits _ _ (fits_in _ _ _ c.width-width.ensures.value (c.low.ensures.word.fits j lt)) (fits_in _ _ _ (c.width-width.ensures.value ∙ c.requires) (c.low-2.ensures.word.fits j lt))
    (both bit_and _ _ _ _ _ (c.and.ensures j lt) (c.high.ensures j lt) (c.high-else-width-le64.ensures j lt)) (both bit_and _ _ _ _ _ (c.and-low.ensures j lt) (c.low.ensures.lanes j lt) (c.low-2.ensures.lanes j lt)))
