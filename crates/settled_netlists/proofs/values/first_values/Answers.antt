use Rattle.std.proofs.Common.{◌<◌, length, List, Option, ap, ◌∙◌, arith}
use Rattle.av_base.specs.Word.{Word}
use Rattle.settled_netlists.specs.Lines.{first_given}
use Rattle.settled_netlists.proofs.Lists.{slice_get-some}
use Rattle.settled_netlists.proofs.Rounds.{first_more, first_bounds}
use Rattle.settled_netlists.proofs.values.first_values.Goals as goal

pub loop-net-preserved : goal.loop-net-preserved
loop-net-preserved c =
    let lt : c.loop-net.net < length c.args.module.now.lines = omega (arith, c.loop-net-test.true, c.net_count-net-end.ensures.count) in
    let some = slice_get-some c.args.module.now.lines c.loop-net.net lt in
    rw c.in_ok-push.ensures.items
    (first_more c.args.module.now c.loop-net.values.items c.loop-net.net some.0 c.first_value-value.result c.well_made.ensures c.loop-net.invariant some.1
    (c.first_value-value.ensures some.0 some.1 ∙ ap (λ (vs : List (Option Word)). first_given vs some.0.equation) c.as_slice.ensures.value))

pub returns : goal.returns
returns c =
    first_bounds c.args.module.now c.loop-net.values.items c.loop-net.net (omega (arith, c.loop-net-test.false, c.loop-net.auto.net-end, c.net_count-net-end.ensures.count)) c.loop-net.invariant
