use Rattle.std.proofs.Common.{◌^◌, ◌≤◌, arith}
use Rattle.std.proofs.Math.Pow.{pow_mono}
use Rattle.mm_burst.proofs.bits.longest_net.Goals as goal

pub unwrap-requires : goal.unwrap-requires
unwrap-requires c =
    let more : 2 ^ c.args.below_bits ≤ 2 ^ c.args.count_bits = pow_mono c.requires.fewer in
    let fits = c.longest.ensures.fits in
    let some = c.requires.some in
    let fewer = c.requires.fewer in
    let few = c.requires.few in
    c.new.ensures.some.1 (record { some_bit = omega (arith, some, fewer); small = omega (arith, few); fits = omega (arith, more, fits) })
