use Rattle.std.proofs.Common.{◌<◌, length, get_or, subst, arith}
use Rattle.std.proofs.lemmas.Option.{slice_get-get_or}
use Rattle.netlist.specs.Netlists.{memory_of}
use Rattle.narrowed_netlists.specs.Gaps.{IsOpen}
use Rattle.narrowed_netlists.proofs.Allowing.{gap_small}
use Rattle.narrowed_netlists.proofs.Growing.{open_more}
use Rattle.narrowed_netlists.proofs.masks.are_open.Goals as goal

pub loop-number-init : goal.loop-number-init
loop-number-init c m memory gap lt at is = absurd (omega (arith, lt))

pub is_open-requires : goal.is_open-requires
is_open-requires c =
    let test = c.loop-number-test.true in
    let count = c.memory_count-number-end.ensures.count in
    gap_small c.args.module.now c.args.gaps.now c.loop-number.number (record { low = 0; zeros = 0 }) c.well_made.ensures c.requires.gaps_fit (omega (arith, test, count))

pub returns-then-not-is_open : goal.returns-then-not-is_open
returns-then-not-is_open c e = cc

pub loop-number-preserved : goal.loop-number-preserved
loop-number-preserved c =
    let test = c.loop-number-test.true in
    let count = c.memory_count-number-end.ensures.count in
    let many = c.requires.count in
    let inside : c.loop-number.number < length c.args.gaps.now = omega (arith, test, count, many) in
    let gap = get_or c.args.gaps.now c.loop-number.number (record { low = 0; zeros = 0 }) in
    let clear : IsOpen gap (get_or c.args.masks.now c.memory-word.result.word 0) = subst (IsOpen gap) c.mask_at.ensures (c.is_open.ensures c.if-not-is_open.false) in
    open_more c.args.module.now c.args.masks.now c.args.gaps.now gap c.loop-number.number (memory_of c.memory-word.result) c.loop-number.invariant c.memory-word.ensures
    (slice_get-get_or c.args.gaps.now c.loop-number.number (record { low = 0; zeros = 0 }) inside) clear

pub returns : goal.returns
returns c e m memory gap lt at is =
    let test = c.loop-number-test.false in
    let count = c.memory_count-number-end.ensures.count in
    c.loop-number.invariant m memory gap (omega (arith, lt, test, count)) at is
