use Rattle.std.proofs.Common.{◌^◌, ◌≤◌, arith}
use Rattle.std.proofs.Math.Pow.{pow_mono}
use Rattle.command_nets.proofs.words.word_bits.Goals as goal

pub overflow_mul-result : goal.overflow_mul-result
overflow_mul-result c = let top : 2 ^ c.requires.exponent ≤ 2 ^ 4 = pow_mono c.requires.small in omega (arith, top, c.requires.power)

pub returns-clause-few : goal.returns-clause-few
returns-clause-few c = let top : 2 ^ c.requires.exponent ≤ 2 ^ 4 = pow_mono c.requires.small in omega (arith, top, c.requires.power)
