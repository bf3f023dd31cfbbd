use Rattle.std.proofs.Common.{◌<◌, ◌+◌, ◌++◌, ◌∷◌, [], length, Some, ap, sym, subst, ◌∙◌, arith}
use Rattle.netlist.specs.declared.line.Line.{Line}
use Rattle.pruned_netlists.specs.Moved.{AreMovedLines, moved_line}
use Rattle.pruned_netlists.proofs.Lines.{slice_get-some}
use Rattle.pruned_netlists.proofs.Keeping.{kept_more, kept_same, line_made}
use Rattle.pruned_netlists.proofs.copies.moved_lines.Goals as goal
use Rattle.pruned_netlists.proofs.copies.moved_lines.Goals.{then-has+in_ok-push, else-has}

pub loop-net-preserved : goal.loop-net-preserved
loop-net-preserved c =
    let b = c.args.module.now in
    let marks = c.args.nets.now in
    let reads = c.args.memories.now in
    let n = c.loop-net.net in
    let lt : c.loop-net.net < length c.args.module.now.lines = omega (arith, c.loop-net-test.true, c.net_count-net-end.ensures.count) in
    let some = slice_get-some c.args.module.now.lines c.loop-net.net lt in
    elim c.if-has.branch [
      | then-has+in_ok-push w ↦ rw (w.lines-is, w.in_ok-push.ensures.items)
          (subst (λ (l : Line). AreMovedLines b marks reads (n + 1) (c.loop-net.lines.items ++ l ∷ []))
          (sym (line_made b marks reads n w.width.result w.equation.result w.moved.result some.0 some.1 w.width.ensures w.equation.ensures w.moved.ensures))
          (kept_more marks b.lines c.loop-net.lines.items (moved_line marks reads) n some.0 c.loop-net.invariant (c.has.ensures ∙ ap Some w.if-has.true) some.1))
      | else-has w ↦ rw w.lines-is (kept_same marks b.lines c.loop-net.lines.items (moved_line marks reads) n c.loop-net.invariant (c.has.ensures ∙ ap Some w.if-has.false))
    ]
