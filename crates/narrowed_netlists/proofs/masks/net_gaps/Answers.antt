use Rattle.std.proofs.Common.{rules, subst, arith}
use Rattle.narrowed_netlists.specs.Gaps.{IsOpen}
use Rattle.narrowed_netlists.proofs.Growing.{net_gap_more}
use Rattle.narrowed_netlists.proofs.Lists.{length-push, width_at-line}
use Rattle.narrowed_netlists.proofs.masks.net_gaps.Goals as goal

pub loop-net-init : goal.loop-net-init
loop-net-init c = record { count = search rules; fit = λ n line lt at. absurd (omega (arith, lt)) }

pub gap_of-requires-clause-some_bit : goal.gap_of-requires-clause-some_bit
gap_of-requires-clause-some_bit c =
    let at = width_at-line c.args.module.now.lines c.loop-net.net c.width.result c.width.ensures in
    let some_bit = (c.well_made.ensures.well_made.lines c.loop-net.net at.0 at.1).some_bit in
    let wide = at.2 in
    omega (arith, some_bit, wide)

pub gap_of-requires-clause-small : goal.gap_of-requires-clause-small
gap_of-requires-clause-small c =
    let at = width_at-line c.args.module.now.lines c.loop-net.net c.width.result c.width.ensures in
    let small = (c.well_made.ensures.well_made.lines c.loop-net.net at.0 at.1).small in
    let wide = at.2 in
    omega (arith, small, wide)

pub loop-net-preserved : goal.loop-net-preserved
loop-net-preserved c =
    let count = c.loop-net.invariant.count in
    let at = width_at-line c.args.module.now.lines c.loop-net.net c.width.result c.width.ensures in
    rw c.in_ok-push.ensures.items (record {
      count = (let more = length-push c.loop-net.gaps.items c.gap_of.result in omega (arith, more, count));
      fit = net_gap_more c.args.module.now c.args.masks.now c.loop-net.gaps.items c.gap_of.result c.loop-net.net c.width.result at.0 count c.loop-net.invariant.fit at.1 at.2 c.gap_of.ensures.fits
          (subst (IsOpen c.gap_of.result) c.mask_at.ensures c.gap_of.ensures.clear);
    })

pub returns-clause-count : goal.returns-clause-count
returns-clause-count c =
    let test = c.loop-net-test.false in
    let end = c.loop-net.auto.net-end in
    let count = c.net_count-net-end.ensures.count in
    let is = c.loop-net.invariant.count in
    omega (arith, test, end, count, is)

pub returns-clause-fit : goal.returns-clause-fit
returns-clause-fit c n line lt at =
    let test = c.loop-net-test.false in
    let count = c.net_count-net-end.ensures.count in
    c.loop-net.invariant.fit n line (omega (arith, lt, test, count)) at
