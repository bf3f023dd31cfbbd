use Rattle.std.proofs.Common.{arith}
use Rattle.narrowed_netlists.proofs.Allowing.{told}
use Rattle.narrowed_netlists.proofs.Lists.{width_at-line}
use Rattle.narrowed_netlists.proofs.masks.grow.Goals as goal

pub given_bits-given-requires-clause-equation_is : goal.given_bits-given-requires-clause-equation_is
given_bits-given-requires-clause-equation_is c line at = told c.args.module.now c.loop-net.net c.equation.result line c.equation.ensures at

pub low_bits-more-requires : goal.low_bits-more-requires
low_bits-more-requires c =
    let at = width_at-line c.args.module.now.lines c.loop-net.net c.width.result c.width.ensures in
    let small = (c.well_made.ensures.well_made.lines c.loop-net.net at.0 at.1).small in
    let wide = at.2 in
    omega (arith, small, wide)
