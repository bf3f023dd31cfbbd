use Rattle.std.proofs.Common.{◌≡◌, get_or, arith, bit_or}
use Rattle.std.specs.Prelude.{◌%◌, ◌^◌}
use Rattle.narrowed_netlists.proofs.Allowing.{told}
use Rattle.narrowed_netlists.proofs.Growing.{allowed_more}
use Rattle.narrowed_netlists.proofs.Lists.{width_at-line}
use Rattle.narrowed_netlists.proofs.masks.are_masks.Goals as goal

pub loop-net-init : goal.loop-net-init
loop-net-init c n line lt at = absurd (omega (arith, lt))

pub given_bits-given-requires-clause-equation_is : goal.given_bits-given-requires-clause-equation_is
given_bits-given-requires-clause-equation_is c line at = told c.args.module.now c.loop-net.net c.equation.result line c.equation.ensures at

pub low_bits-requires : goal.low_bits-requires
low_bits-requires c =
    let at = width_at-line c.args.module.now.lines c.loop-net.net c.width.result c.width.ensures in
    let small = (c.well_made.ensures.well_made.lines c.loop-net.net at.0 at.1).small in
    let wide = at.2 in
    omega (arith, small, wide)

pub loop-net-preserved : goal.loop-net-preserved
loop-net-preserved c =
    let at = width_at-line c.args.module.now.lines c.loop-net.net c.width.result c.width.ensures in
    let held : bit_or (get_or c.args.masks.now c.loop-net.net 0) (c.given_bits-given.result % 2 ^ c.width.result) ≡ get_or c.args.masks.now c.loop-net.net 0 = rw (c.low_bits.ensures, c.mask_at-mask.ensures) at c.if-mask-low_bits.false in
    allowed_more c.args.module.now c.args.masks.now c.args.gaps.now c.loop-net.net at.0 c.given_bits-given.result c.width.result c.loop-net.invariant at.1 at.2 (c.given_bits-given.ensures at.0 at.1) held

pub returns : goal.returns
returns c e n line lt at =
    let test = c.loop-net-test.false in
    let count = c.net_count-net-end.ensures.count in
    c.loop-net.invariant n line (omega (arith, lt, test, count)) at
