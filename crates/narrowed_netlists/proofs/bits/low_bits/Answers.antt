use Rattle.std.proofs.Common.{◌≡◌, ◌-◌, ◌^◌, ap, ◌∙◌, arith}
use Rattle.std.specs.Prelude.{bit_and}
use Rattle.std.proofs.lemmas.Nat.{and_mask}
use Rattle.std.proofs.lemmas.Nat.Bits.{ones_shr}
use Rattle.narrowed_netlists.proofs.bits.low_bits.Goals as goal

pub returns : goal.returns
returns c =
    let w = c.args.width in
    let small = c.requires in
    let same : 128 - (128 - w) ≡ w = omega (arith, small) in
    ap (bit_and c.args.n) (ones_shr 128 (128 - w) (omega arith) ∙ ap (λ k. 2 ^ k - 1) same) ∙ and_mask c.args.n w
