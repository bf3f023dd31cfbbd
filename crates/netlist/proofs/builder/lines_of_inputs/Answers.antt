use Rattle.std.proofs.Common.{◌≡◌, ◌+◌, refl, length, arith, append-nil, ◌<◌}
use Rattle.std.proofs.lemmas.Option.{slice_get_read}
use Rattle.netlist.proofs.Inputs.{input_lines-take}
use Rattle.netlist.proofs.builder.lines_of_inputs.Goals as goal
use Rattle.netlist.proofs.builder.lines_of_inputs.Goals.{then-not-port+in_ok-push, else-not-port}

pub loop-k-preserved : goal.loop-k-preserved
loop-k-preserved c =
    let lt : c.loop-k.k < length c.args.ports.now = omega arith in
    let at = slice_get_read c.args.ports.now (length c.args.ports.now) c.loop-k.k c.index-ports-k.result refl lt c.index-ports-k.is in
    let e = input_lines-take c.args.ports.now 0 c.loop-k.k c.index-ports-k.result at in
    let z : 0 + c.loop-k.k ≡ c.loop-k.k = omega arith in
    elim c.if-not-port.branch [
      | then-not-port+in_ok-push w ↦ (let one = rw (w.if-not-port.true, z) at e in rw (w.lines-is, w.in_ok-push.ensures.items, c.loop-k.invariant, one) refl)
      | else-not-port w ↦ (let none = rw w.if-not-port.false at e in rw (w.lines-is, c.loop-k.invariant, none, append-nil) refl)
    ]
