use Rattle.std.proofs.Common.{arith}
use Rattle.st_format.proofs.SizesLemmas.{split_bits}
use Rattle.st_format.proofs.sizes.Sizes.narrow_bits.Goals as goal

pub returns-clause-within : goal.returns-clause-within
returns-clause-within c = split_bits c.args.self.now.bits c.args.self.now.symbols c.args.self.now.parts (let several = c.args.self.now.several in omega arith)
