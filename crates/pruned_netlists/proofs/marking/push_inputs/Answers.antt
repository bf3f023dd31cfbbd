use Rattle.std.proofs.Common.{◌<◌, length, ap, ◌∙◌, arith}
use Rattle.netlist.specs.declared.line.Equation.TheVariants.{Input}
use Rattle.netlist.specs.Netlists.{is_input}
use Rattle.pruned_netlists.proofs.Lines.{slice_get-some}
use Rattle.pruned_netlists.proofs.Needs.{equation_told, no_input, input_more, input_same}
use Rattle.pruned_netlists.proofs.marking.push_inputs.Goals as goal
use Rattle.pruned_netlists.proofs.marking.push_inputs.Goals.{in-Input+in_ok-push, in_default}

pub loop-net-preserved : goal.loop-net-preserved
loop-net-preserved c =
    let b = c.args.module.now in
    let lt : c.loop-net.net < length c.args.module.now.lines = omega (arith, c.loop-net-test.true, c.net_count-net-end.ensures.count) in
    elim c.match-equation.branch [
      | in-Input+in_ok-push w ↦
          (let some = slice_get-some c.args.module.now.lines c.loop-net.net lt in
          rw (w.pending-is, w.in_ok-push.ensures.items) (input_more b c.loop-net.net c.loop-net.pending.items some.0 c.loop-net.invariant some.1
          (ap is_input (equation_told b c.loop-net.net (Input w.in-Input.port) w.in-Input.ensures some.0 some.1))))
      | in_default w ↦ rw w.pending-is (input_same b c.loop-net.net c.loop-net.pending.items c.loop-net.invariant
          (λ line at. ap is_input (equation_told b c.loop-net.net c.equation.result c.equation.ensures line at) ∙ no_input c.equation.result w.in_default.not-Input))
    ]
