use Rattle.std.proofs.Common.{◌-◌, arith}
use Rattle.mm_split.proofs.Numbers.{less_bits, pieces_are, pieces_whole, power_most, power_least, power_some}
use Rattle.mm_split.proofs.split.Split.sizes.Goals as goal

pub overflow_sub-result : goal.overflow_sub-result
overflow_sub-result c = let less = less_bits _ _ _ _ c.lane_bits-wide_bits.ensures.power c.lane_bits-narrow_bits.ensures.power c.requires.smaller in omega (arith, less)

pub returns-clause-sizes : goal.returns-clause-sizes
returns-clause-sizes c =
    let p = c.lane_bits-wide_bits.ensures.power in
    let q = c.lane_bits-narrow_bits.ensures.power in
    let s = c.requires.smaller in
    let less = less_bits _ _ _ _ p q s in
    let are = pieces_are _ _ _ _ p q s in
    let few = c.lane_bits-wide_bits.ensures.few in
    record {
      pieces = are;
      some_bits = omega (arith, less);
      few_bits = omega (arith, few);
      some_bytes = (let some = power_some c.lane_bits-narrow_bits.result in omega (arith, q, some));
      whole = pieces_whole _ _ _ _ p q s;
      few_bytes = power_most _ few;
      wide_some = omega (arith, less);
      wide_few = few;
      many = (let least = power_least (c.lane_bits-wide_bits.result - c.lane_bits-narrow_bits.result) (omega (arith, less)) in omega (arith, are, least));
      few = (let most = power_most (c.lane_bits-wide_bits.result - c.lane_bits-narrow_bits.result) (omega (arith, few)) in omega (arith, are, most));
      some = c.requires.some;
      room = c.requires.few;
      some_room = c.bits_to.ensures.some;
      few_room = c.bits_to.ensures.few;
      room_fits = c.bits_to.ensures.fits;
    }
