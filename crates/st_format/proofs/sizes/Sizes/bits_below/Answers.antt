use Rattle.std.proofs.Common.{◌≡◌, ◌*◌, ap, ◌∙◌, arith}
use Rattle.std.proofs.Math.Nat.{mul_assoc}
use Rattle.st_format.proofs.SizesLemmas.{below_all}
use Rattle.st_format.proofs.sizes.Sizes.bits_below.Goals as goal

pub overflow_mul-result : goal.overflow_mul-result
overflow_mul-result c =
    let bits = c.narrow_bits.ensures.value in
    let turn : c.narrow_bits.result * c.args.part ≡ c.args.self.now.bits * (c.args.self.now.symbols * c.args.part) = ap (λ n. n * c.args.part) bits ∙ mul_assoc c.args.self.now.bits c.args.self.now.symbols c.args.part in
    let most = below_all c.args.self.now.bits c.args.self.now.symbols c.args.self.now.parts c.args.part c.requires in
    let small = c.args.self.now.small in
    omega (arith, turn, most, small)

pub returns-clause-few : goal.returns-clause-few
returns-clause-few c =
    let turn : c.narrow_bits.result * c.args.part ≡ c.args.self.now.bits * (c.args.self.now.symbols * c.args.part) = ap (λ n. n * c.args.part) c.narrow_bits.ensures.value ∙ mul_assoc c.args.self.now.bits c.args.self.now.symbols c.args.part in
    let most = below_all c.args.self.now.bits c.args.self.now.symbols c.args.self.now.parts c.args.part c.requires in
    let small = c.args.self.now.small in
    omega (arith, turn, most, small)
