use Rattle.std.proofs.Common.{◌≡◌, ℕ, ◌%◌, ◌/◌, ◌^◌, ◌<◌, eqb, ap, sym, subst, ◌∙◌, arith}
use Rattle.lane_sim.specs.LaneWords.{value_at}
use Rattle.std.specs.Prelude.{if◌then◌else◌}
use Rattle.lane_sim.specs.Planes.{lane}
use Rattle.lane_sim.proofs.planes.Halves.{fits_in, picked_narrow, picked_wide, three}
use Rattle.lane_sim.proofs.planes.value.LaneVal.mux.Goals as goal

pub returns-then-width-le64 : goal.returns-then-width-le64
returns-then-width-le64 c j lt =
    c.narrow.ensures j lt
    ∙ picked_narrow c.width-width.result (value_at c.args.self j).bits _ (value_at c.args.a j) (value_at c.args.b j) c.if-width-le64.true c.width-width.ensures.value c.requires.same
    (fits_in _ _ _ c.width-width.ensures.value (c.low.ensures.word.fits j lt)) (fits_in _ _ _ (c.width-width.ensures.value ∙ c.requires.same) (c.low-2.ensures.word.fits j lt))
    (subst (λ n. (value_at c.args.self j).bits < 2 ^ n) c.requires.one (c.low-test.ensures.word.fits j lt))
    (three (λ s a b. if eqb s 0 then b else a) _ _ _ _ _ _ _ (c.pick-low.ensures j lt) (c.low-test.ensures.lanes j lt) (c.low.ensures.lanes j lt) (c.low-2.ensures.lanes j lt))

pub returns-else-width-le64 : goal.returns-else-width-le64
returns-else-width-le64 c j lt =
    c.wide.ensures j lt
    ∙ picked_wide c.width-width.result (value_at c.args.self j).bits _ _ (value_at c.args.a j) (value_at c.args.b j) c.width-width.ensures.value c.requires.same
    (fits_in _ _ _ c.width-width.ensures.value (c.low.ensures.word.fits j lt)) (fits_in _ _ _ (c.width-width.ensures.value ∙ c.requires.same) (c.low-2.ensures.word.fits j lt))
    (subst (λ n. (value_at c.args.self j).bits < 2 ^ n) c.requires.one (c.low-test.ensures.word.fits j lt))
    (three (λ s a b. if eqb s 0 then b else a) _ _ _ _ _ _ _ (c.pick.ensures j lt) (c.low-test.ensures.lanes j lt) (c.high.ensures j lt) (c.high-else-width-le64.ensures j lt))
    (three (λ s a b. if eqb s 0 then b else a) _ _ _ _ _ _ _ (c.pick-low.ensures j lt) (c.low-test.ensures.lanes j lt) (c.low.ensures.lanes j lt) (c.low-2.ensures.lanes j lt))
