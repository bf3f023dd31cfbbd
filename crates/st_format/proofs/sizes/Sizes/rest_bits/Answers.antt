use Rattle.std.proofs.Common.{◌*◌, ap, arith}
use Rattle.st_format.proofs.SizesLemmas.{split_bits}
use Rattle.st_format.proofs.sizes.Sizes.rest_bits.Goals as goal

pub returns-clause-few : goal.returns-clause-few
returns-clause-few c =
    let several = c.args.self.now.several in
    let small = c.args.self.now.small in
    let split = split_bits c.args.self.now.bits c.args.self.now.symbols c.args.self.now.parts (omega arith) in
    let same = ap (λ n. c.args.self.now.bits * n) c.rest_symbols.ensures.value in
    omega (arith, small, split, same)
