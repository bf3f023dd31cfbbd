use Rattle.std.proofs.Common.{ℕ, ◌-◌, Bool, true, if◌then◌else◌, sym, ap, ap₂, ◌∙◌, arith}
use Rattle.mm_burst.specs.CutterNets.{lane_exponent}
use Rattle.mm_width.proofs.Bursts.{exponent_is, larger, narrower}
use Rattle.mm_width.proofs.pairs.place_bits.Goals as goal

pub overflow_sub-result : goal.overflow_sub-result
overflow_sub-result c =
    let less = narrower c.args.host.now c.args.agent.now (sym c.packs.ensures ∙ c.if-packs.true) in
    let host = c.lane_bits-then-packs.ensures.power in
    let agent = c.lane_bits.ensures.power in
    let more = larger c.lane_bits-then-packs.result c.lane_bits.result (omega (arith, less, host, agent)) in
    omega (arith, more)

pub returns-then-packs : goal.returns-then-packs
returns-then-packs c =
    let host = c.args.host.now in
    let agent = c.args.agent.now in
    sym (ap (λ (b : Bool). if b then lane_exponent agent.word_bytes - lane_exponent host.word_bytes else 0) (sym c.packs.ensures ∙ c.if-packs.true)
    ∙ ap₂ (λ (n k : ℕ). n - k) (exponent_is agent.word_bytes c.lane_bits.result c.lane_bits.ensures.few c.lane_bits.ensures.power) (exponent_is host.word_bytes c.lane_bits-then-packs.result c.lane_bits-then-packs.ensures.few c.lane_bits-then-packs.ensures.power))
