use Rattle.std.proofs.Common.{◌≡◌, ℕ, ◌+◌, ◌-◌, ◌*◌, ◌%◌, ◌/◌, ◌^◌, ◌<◌, bit_or, ap, sym, subst, ◌∙◌, arith}
use Rattle.lane_sim.specs.LaneWords.{value_at}
use Rattle.lane_sim.proofs.planes.Halves.{both}
use Rattle.lane_sim.proofs.planes.Shifts.{power_le, shifted_low, shifted_high, past_low, past_high}
use Rattle.lane_sim.proofs.planes.value.LaneVal.without.Goals as goal

pub returns-then-count-lt64-clause-low : goal.returns-then-count-lt64-clause-low
returns-then-count-lt64-clause-low c j lt =
    let k = c.args.count in
    let room : (64 - k) + k ≡ 64 = (let h = c.if-count-lt64.true in omega arith) in
    let low = c.shift_right-then-count-lt64.ensures j lt ∙ ap (λ n. n / 2 ^ k) (c.low-then-count-lt64.ensures.lanes j lt) in
    let high = c.shift_left-passed.ensures j lt ∙ ap (λ n. n * 2 ^ (64 - k) % 2 ^ 64) (c.high-then-count-lt64.ensures j lt) in
    both bit_or _ _ _ _ _ (c.or.ensures j lt) low high ∙ shifted_low (value_at c.args.self j).bits (64 - k) k room

pub returns-then-count-lt64-clause-high : goal.returns-then-count-lt64-clause-high
returns-then-count-lt64-clause-high c j lt =
    c.shift_right-then-count-lt64-2.ensures j lt ∙ ap (λ n. n / 2 ^ c.args.count) (c.high-then-count-lt64-2.ensures j lt) ∙ shifted_high (value_at c.args.self j).bits c.args.count

pub returns-else-count-lt64-clause-low : goal.returns-else-count-lt64-clause-low
returns-else-count-lt64-clause-low c j lt =
    let past : 64 + (c.args.count - 64) ≡ c.args.count = (let h = c.if-count-lt64.false in omega arith) in
    let p = power_le c.args.self.width 128 c.width.ensures.word.small in
    let fits = c.width.ensures.word.fits j lt in
    c.shift_right-else-count-lt64.ensures j lt ∙ ap (λ n. n / 2 ^ (c.args.count - 64)) (c.high-else-count-lt64.ensures j lt) ∙ past_low (value_at c.args.self j).bits (c.args.count - 64) c.args.count past (omega (arith, p, fits))

pub returns-else-count-lt64-clause-high : goal.returns-else-count-lt64-clause-high
returns-else-count-lt64-clause-high c j lt =
    let past : 64 + (c.args.count - 64) ≡ c.args.count = (let h = c.if-count-lt64.false in omega arith) in
    let p = power_le c.args.self.width 128 c.width.ensures.word.small in
    let fits = c.width.ensures.word.fits j lt in
    c.splat-else-count-lt64.ensures j lt ∙ sym (past_high (value_at c.args.self j).bits (c.args.count - 64) c.args.count past (omega (arith, p, fits)))
