use Rattle.std.proofs.Common.{◌<◌, ◌+◌, ◌++◌, ◌∷◌, [], length, Some, ap, sym, subst, ◌∙◌, arith}
use Rattle.netlist.specs.declared.line.Memory.{Memory}
use Rattle.pruned_netlists.specs.Numbers.{place}
use Rattle.pruned_netlists.specs.Moved.{AreMovedMemories, moved_memory}
use Rattle.pruned_netlists.proofs.Lines.{slice_get-some}
use Rattle.pruned_netlists.proofs.Keeping.{kept_more, kept_same}
use Rattle.pruned_netlists.proofs.copies.moved_memories.Goals as goal
use Rattle.pruned_netlists.proofs.copies.moved_memories.Goals.{then-has+in_ok-push, else-has}

pub loop-number-preserved : goal.loop-number-preserved
loop-number-preserved c =
    let b = c.args.module.now in
    let marks = c.args.nets.now in
    let reads = c.args.memories.now in
    let m = c.loop-number.number in
    let lt : c.loop-number.number < length c.args.module.now.memories = omega (arith, c.loop-number-test.true, c.memory_count-number-end.ensures.count) in
    let some = slice_get-some c.args.module.now.memories c.loop-number.number lt in
    elim c.if-has.branch [
      | then-has+in_ok-push w ↦ rw (w.moved-is, w.in_ok-push.ensures.items)
          (subst (λ (x : Memory). AreMovedMemories b marks reads (m + 1) (c.loop-number.moved.items ++ x ∷ [])) (sym (w.moved_memory.ensures some.0 some.1))
          (kept_more reads b.memories c.loop-number.moved.items (moved_memory (place marks)) m some.0 c.loop-number.invariant (c.has.ensures ∙ ap Some w.if-has.true) some.1))
      | else-has w ↦ rw w.moved-is (kept_same reads b.memories c.loop-number.moved.items (moved_memory (place marks)) m c.loop-number.invariant (c.has.ensures ∙ ap Some w.if-has.false))
    ]
