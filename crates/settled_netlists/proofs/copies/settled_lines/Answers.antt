use Rattle.std.proofs.Common.{◌<◌, length, Some, None, ap, sym, ◌∙◌, arith}
use Rattle.std.proofs.lemmas.Option.{same_Some}
use Rattle.netlist.specs.declared.line.Equation.TheVariants.{Constant}
use Rattle.netlist.specs.Netlists.{line_of}
use Rattle.settled_netlists.proofs.Lists.{slice_get-some, read_any}
use Rattle.settled_netlists.proofs.Copying.{lines_some, lines_kept}
use Rattle.settled_netlists.proofs.copies.settled_lines.Goals as goal
use Rattle.settled_netlists.proofs.copies.settled_lines.Goals.{in-Some, in-None}

pub loop-net-preserved : goal.loop-net-preserved
loop-net-preserved c =
    let b = c.args.module.now in
    let lt : c.loop-net.net < length c.args.module.now.lines = omega (arith, c.loop-net-test.true, c.net_count-net-end.ensures.count) in
    let some = slice_get-some c.args.module.now.lines c.loop-net.net lt in
    let inside : c.loop-net.net < length c.args.values.now = omega (arith, lt, c.requires) in
    rw c.in_ok-push.ensures.items (elim c.match-values-net.branch [
      | in-Some w ↦ lines_some b c.args.values.now c.loop-net.net c.loop-net.lines.items some.0 c.match-values-net.line w.in-Some.value c.loop-net.invariant some.1
          (read_any c.args.values.now c.loop-net.net _ (Some w.in-Some.value) inside w.in-Some.is) w.width.ensures.word (w.line-is ∙ ap (λ t. line_of t (Constant w.in-Some.value)) w.width.ensures.value)
      | in-None w ↦ lines_kept b c.args.values.now c.loop-net.net c.loop-net.lines.items some.0 c.match-values-net.line c.loop-net.invariant some.1
          (read_any c.args.values.now c.loop-net.net _ None inside w.in-None.is) (w.line-is ∙ same_Some _ _ (sym (w.equation.ensures w.width-in-None.result w.width-in-None.ensures) ∙ some.1))
    ])
