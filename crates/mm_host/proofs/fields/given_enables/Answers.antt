use Rattle.std.proofs.Common.{◌^◌, ◌≤◌, arith}
use Rattle.std.proofs.Math.Pow.{pow_mono}
use Rattle.mm_host.proofs.fields.given_enables.Goals as goal

pub ones-requires : goal.ones-requires
ones-requires c =
    let word = c.requires.port.ports.word in
    let most : 2 ^ word.exponent ≤ 2 ^ 4 = pow_mono word.small in
    let power = word.power in
    omega (arith, power, most)
