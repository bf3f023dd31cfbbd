use Rattle.std.proofs.Common.{◌≡◌, ℕ, ◌+◌, ◌-◌, ◌*◌, ◌%◌, ◌/◌, ◌^◌, ◌<◌, ◌≤◌, refl, bit_or, ap, sym, subst, ◌∙◌, arith}
use Rattle.lane_sim.specs.LaneWords.{value_at}
use Rattle.lane_sim.proofs.planes.Halves.{word_is, both, fits_in}
use Rattle.lane_sim.proofs.planes.Shifts.{above_narrow, above_within, above_at, above_past}
use Rattle.lane_sim.proofs.planes.value.LaneVal.concat.Goals as goal

pub returns-then-width-le64 : goal.returns-then-width-le64
returns-then-width-le64 c j lt =
    let k = c.width-count.result in
    let e = c.width-count.ensures.value in
    let shifted = c.shift_left.ensures j lt ∙ ap (λ n. n * 2 ^ k % 2 ^ 64) (c.low.ensures.lanes j lt) in
    c.narrow.ensures j lt
    ∙ word_is _ _ _ _ (ap (λ n. n + k) c.width.ensures.value ∙ ap (λ n. c.args.self.width + n) e)
    (above_narrow (c.width.result + k) c.width.result k (value_at c.args.self j).bits (value_at c.args.low j).bits _ refl c.if-width-le64.true (fits_in _ _ _ c.width.ensures.value (c.width.ensures.word.fits j lt)) (fits_in _ _ _ e (c.width-count.ensures.word.fits j lt))
    (both bit_or _ _ _ _ _ (c.or.ensures j lt) shifted (c.low-then-width-le64.ensures.lanes j lt)) ∙ ap (λ n. (value_at c.args.self j).bits * 2 ^ n + (value_at c.args.low j).bits) e)

pub returns-then-count-lt64 : goal.returns-then-count-lt64
returns-then-count-lt64 c j lt =
    let k = c.width-count.result in
    let e = c.width-count.ensures.value in
    let ws = c.width.ensures.value in
    let room : (64 - k) + k ≡ 64 = (let h = c.if-count-lt64.true in omega arith) in
    let small : c.width.result + k ≤ 128 = (let h = c.requires in omega (arith, h, e, ws)) in
    let passed = c.shift_right-passed.ensures j lt ∙ ap (λ n. n / 2 ^ (64 - k)) (c.low-then-count-lt64.ensures.lanes j lt) in
    let shifted = c.shift_left-then-count-lt64.ensures j lt ∙ ap (λ n. n * 2 ^ k % 2 ^ 64) (c.low-then-count-lt64-2.ensures.lanes j lt) in
    let above = c.shift_left-then-count-lt64-2.ensures j lt ∙ ap (λ n. n * 2 ^ k % 2 ^ 64) (c.high.ensures j lt) in
    c.wide.ensures j lt
    ∙ word_is _ _ _ _ (ap (λ n. n + k) ws ∙ ap (λ n. c.args.self.width + n) e)
    (above_within (c.width.result + k) c.width.result k (64 - k) (value_at c.args.self j).bits (value_at c.args.low j).bits _ _ refl small room (fits_in _ _ _ ws (c.width.ensures.word.fits j lt)) (fits_in _ _ _ e (c.width-count.ensures.word.fits j lt))
    (both bit_or _ _ _ _ _ (c.or-then-count-lt64-2.ensures j lt) above passed) (both bit_or _ _ _ _ _ (c.or-then-count-lt64.ensures j lt) shifted (c.low-then-count-lt64-3.ensures.lanes j lt)) ∙ ap (λ n. (value_at c.args.self j).bits * 2 ^ n + (value_at c.args.low j).bits) e)

pub returns-then-count-eq64 : goal.returns-then-count-eq64
returns-then-count-eq64 c j lt =
    let k = c.width-count.result in
    let e = c.width-count.ensures.value in
    let ws = c.width.ensures.value in
    let small : c.width.result + k ≤ 128 = (let h = c.requires in omega (arith, h, e, ws)) in
    c.wide-then-count-eq64.ensures j lt
    ∙ word_is _ _ _ _ (ap (λ n. n + k) ws ∙ ap (λ n. c.args.self.width + n) e)
    (above_at (c.width.result + k) c.width.result k (value_at c.args.self j).bits (value_at c.args.low j).bits _ _ refl small c.if-count-eq64.true (fits_in _ _ _ ws (c.width.ensures.word.fits j lt)) (fits_in _ _ _ e (c.width-count.ensures.word.fits j lt))
    (c.low-then-count-eq64-2.ensures.lanes j lt) (c.low-then-count-eq64.ensures.lanes j lt) ∙ ap (λ n. (value_at c.args.self j).bits * 2 ^ n + (value_at c.args.low j).bits) e)

pub returns-else-count-eq64 : goal.returns-else-count-eq64
returns-else-count-eq64 c j lt =
    let k = c.width-count.result in
    let e = c.width-count.ensures.value in
    let ws = c.width.ensures.value in
    let small : c.width.result + k ≤ 128 = (let h = c.requires in omega (arith, h, e, ws)) in
    let past : 64 + (k - 64) ≡ k = (let h = c.if-count-lt64.false in omega arith) in
    let raised = c.shift_left-raised.ensures j lt ∙ ap (λ n. n * 2 ^ (k - 64) % 2 ^ 64) (c.low-else-count-eq64.ensures.lanes j lt) in
    c.wide-else-count-eq64.ensures j lt
    ∙ word_is _ _ _ _ (ap (λ n. n + k) ws ∙ ap (λ n. c.args.self.width + n) e)
    (above_past (c.width.result + k) c.width.result k (k - 64) (value_at c.args.self j).bits (value_at c.args.low j).bits _ _ refl small past (fits_in _ _ _ ws (c.width.ensures.word.fits j lt)) (fits_in _ _ _ e (c.width-count.ensures.word.fits j lt))
    (both bit_or _ _ _ _ _ (c.or-else-count-eq64.ensures j lt) (c.high-else-count-eq64.ensures j lt) raised) (c.low-else-count-eq64-2.ensures.lanes j lt) ∙ ap (λ n. (value_at c.args.self j).bits * 2 ^ n + (value_at c.args.low j).bits) e)
