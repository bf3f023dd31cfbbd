use Rattle.std.proofs.Common.{◌≡◌, ℕ, ◌+◌, ◌-◌, ◌%◌, ◌/◌, ◌^◌, ap, ◌∙◌}
use Rattle.av_base.specs.Word.{word}
use Rattle.lane_sim.specs.LaneWords.{value_at}
use Rattle.lane_sim.proofs.planes.Halves.{low_of_low}
use Rattle.lane_sim.proofs.planes.value.LaneVal.slice.Goals as goal

pub returns-then-width-le64 : goal.returns-then-width-le64
returns-then-width-le64 c j lt =
    let w = c.args.high - c.args.low + 1 in
    c.narrow.ensures j lt ∙ ap (word w) (ap (λ n. n % 2 ^ w) (c.without-below.ensures.low j lt) ∙ low_of_low ((value_at c.args.self j).bits / 2 ^ c.args.low) w c.if-width-le64.true)
