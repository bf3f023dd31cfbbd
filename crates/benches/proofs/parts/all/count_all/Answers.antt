use Rattle.std.proofs.Common.{◌≡◌, List, length, take, arith, ap, ◌∙◌}
use Rattle.std.proofs.lemmas.List.{take_all}
use Rattle.trace_lines.specs.Sums.{with_counts}
use Rattle.benches.specs.Counting.{counted_together}
use Rattle.benches.proofs.parts.Many.{none_counted, one_more_counted_at, room_for_all, room_for_one, room_behind, room_left_for_all, room_left_behind, room_at_end}
use Rattle.benches.proofs.parts.all.count_all.Goals as goal

pub components-init : goal.components-init
components-init g c = record { counted = none_counted c.args.counts; room = room_for_all (length c.args.components.now) c.args.counts c.requires.room; left = λ more room. room_left_for_all (length c.args.components.now) more c.args.counts room }

pub with_more-sum-requires-clause-room : goal.with_more-sum-requires-clause-room
with_more-sum-requires-clause-room g c = room_for_one (length c.args.components.now) c.components.component-index c.components.sum c.components-test.true c.components.invariant.room

pub components-preserved : goal.components-preserved
components-preserved g c = record {
  counted = one_more_counted_at (λ (it : g.row.C.Denot). g.C.Component.counts it c.args.sim.now) c.args.components.now c.components.component-index c.component-item.result c.args.counts c.components.sum
      c.count.result c.with_more-sum.result c.component-item.is c.components-test.true c.components.invariant.counted c.count.ensures.value c.with_more-sum.ensures;
  room = room_behind (length c.args.components.now) c.components.component-index c.components.sum c.count.result c.with_more-sum.result c.components-test.true c.components.invariant.room
      c.count.ensures.few c.with_more-sum.ensures;
  left = λ more room. room_left_behind (length c.args.components.now) c.components.component-index more c.components.sum c.count.result c.with_more-sum.result c.components-test.true
      (c.components.invariant.left more room) c.count.ensures.few c.with_more-sum.ensures;
}

pub returns-clause-value : goal.returns-clause-value
returns-clause-value g c =
    let all : take c.components.component-index c.args.components.now ≡ c.args.components.now = take_all c.components.component-index c.args.components.now (omega arith) in
    c.components.invariant.counted
    ∙ ap (λ (xs : List g.row.C.Denot). with_counts c.args.counts (counted_together (λ (it : g.row.C.Denot). g.C.Component.counts it c.args.sim.now) xs)) all

pub returns-clause-room : goal.returns-clause-room
returns-clause-room g c = λ more room. room_at_end (length c.args.components.now) c.components.component-index more c.components.sum (omega arith) (c.components.invariant.left more room)
