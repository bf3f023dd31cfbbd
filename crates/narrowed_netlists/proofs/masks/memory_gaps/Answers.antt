use Rattle.std.proofs.Common.{rules, arith}
use Rattle.netlist.specs.Netlists.{memory_of}
use Rattle.narrowed_netlists.proofs.Growing.{memory_gap_more}
use Rattle.narrowed_netlists.proofs.Lists.{length-push}
use Rattle.narrowed_netlists.proofs.masks.memory_gaps.Goals as goal

pub loop-number-init : goal.loop-number-init
loop-number-init c = record { count = search rules; fit = λ m memory lt at. absurd (omega (arith, lt)) }

pub longest_gap-requires-clause-some_bit : goal.longest_gap-requires-clause-some_bit
longest_gap-requires-clause-some_bit c = (c.well_made.ensures.well_made.memories c.loop-number.number (memory_of c.memory-width.result) c.memory-width.ensures).some_bit

pub longest_gap-requires-clause-small : goal.longest_gap-requires-clause-small
longest_gap-requires-clause-small c = (c.well_made.ensures.well_made.memories c.loop-number.number (memory_of c.memory-width.result) c.memory-width.ensures).small

pub loop-number-preserved : goal.loop-number-preserved
loop-number-preserved c =
    let count = c.loop-number.invariant.count in
    rw c.in_ok-push.ensures.items (record {
      count = (let more = length-push c.loop-number.gaps.items c.longest_gap.result in omega (arith, more, count));
      fit = memory_gap_more c.args.module.now c.loop-number.gaps.items c.longest_gap.result c.loop-number.number (memory_of c.memory-width.result) count c.loop-number.invariant.fit c.memory-width.ensures c.longest_gap.ensures;
    })

pub returns-clause-count : goal.returns-clause-count
returns-clause-count c =
    let test = c.loop-number-test.false in
    let end = c.loop-number.auto.number-end in
    let count = c.memory_count-number-end.ensures.count in
    let is = c.loop-number.invariant.count in
    omega (arith, test, end, count, is)

pub returns-clause-fit : goal.returns-clause-fit
returns-clause-fit c m memory lt at =
    let test = c.loop-number-test.false in
    let count = c.memory_count-number-end.ensures.count in
    c.loop-number.invariant.fit m memory (omega (arith, lt, test, count)) at
