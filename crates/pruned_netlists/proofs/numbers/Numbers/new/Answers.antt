use Rattle.std.proofs.Common.{◌<◌, length, Some, refl, ap, ◌∙◌, arith}
use Rattle.std.proofs.lemmas.Option.{slice_get_read}
use Rattle.pruned_netlists.proofs.Places.{place_few}
use Rattle.pruned_netlists.proofs.Keeping.{numbers_more, number_counted, number_passed}
use Rattle.pruned_netlists.proofs.numbers.Numbers.new.Goals as goal
use Rattle.pruned_netlists.proofs.numbers.Numbers.new.Goals.{then-index, else-index}

pub overflow_add-count : goal.overflow_add-count
overflow_add-count c =
    let few = place_few c.args.marks.items c.loop-number.number in
    omega (arith, few, c.loop-number.invariant.marked_is, c.requires, c.loop-number-test.true, c.len-number-end.ensures)

pub loop-number-preserved : goal.loop-number-preserved
loop-number-preserved c =
    let lt : c.loop-number.number < length c.args.marks.items = omega (arith, c.loop-number-test.true, c.len-number-end.ensures) in
    let at = slice_get_read c.args.marks.items (length c.args.marks.items) c.loop-number.number c.index.result.now refl lt c.index.ensures in
    elim c.if-index.branch [
      | then-index w ↦ rw (w.count-is, c.in_ok-push.ensures.items) (numbers_more c.args.marks.items c.loop-number.places.items c.loop-number.number c.loop-number.count _ c.loop-number.invariant
          (number_counted c.args.marks.items c.loop-number.number c.loop-number.count c.loop-number.invariant.marked_is (at ∙ ap Some w.if-index.true)))
      | else-index w ↦ rw (w.count-is, c.in_ok-push.ensures.items) (numbers_more c.args.marks.items c.loop-number.places.items c.loop-number.number c.loop-number.count _ c.loop-number.invariant
          (number_passed c.args.marks.items c.loop-number.number c.loop-number.count c.loop-number.invariant.marked_is (at ∙ ap Some w.if-index.false)))
    ]
