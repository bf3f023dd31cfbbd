use Rattle.std.proofs.Common.{◌≡◌, ◌<◌, length, slice_get, Some, sym, subst, arith}
use Rattle.cycle_sim.proofs.reading.Values.{slice_get-some}
use Rattle.cycle_sim.proofs.reading.RegisterLists.{AreRegistersTo, registers_more, registers_kept, registers_all}
use Rattle.cycle_sim.proofs.reading.registers.registers_of.Goals as goal
use Rattle.cycle_sim.proofs.reading.registers.registers_of.Goals.{in-Some+in_ok-push, in_default}

pub loop-net-preserved : goal.loop-net-preserved
loop-net-preserved c =
    let lt : c.loop-net.net < length c.args.module.now.lines = omega arith in
    elim c.match-register_at.branch [
      | in-Some+in_ok-push w ↦
          (let its = slice_get-some c.args.module.now.lines c.loop-net.net lt in
          rw (w.registers-is, w.in_ok-push.ensures.items) (registers_more c.args.module.now.lines c.loop-net.registers.items c.loop-net.net w.in-Some.register c.loop-net.invariant w.in-Some.ensures.net
          (record { line = its.0; is = subst (λ n. slice_get c.args.module.now.lines n ≡ Some its.0) (sym w.in-Some.ensures.net) its.1; next = w.in-Some.ensures.next its.0 its.1 })))
      | in_default w ↦ rw w.registers-is (registers_kept c.args.module.now.lines c.loop-net.registers.items c.loop-net.net c.loop-net.invariant w.in_default.ensures.none)
    ]

pub returns : goal.returns
returns c =
    let all : c.loop-net.net ≡ length c.args.module.now.lines = omega arith in
    registers_all c.args.module.now.lines c.loop-net.registers.items (subst (AreRegistersTo c.args.module.now.lines c.loop-net.registers.items) all c.loop-net.invariant)
