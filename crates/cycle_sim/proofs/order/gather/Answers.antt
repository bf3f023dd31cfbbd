use Rattle.std.proofs.Common.{◌≡◌, length, refl, sym, ◌∙◌, arith}
use Rattle.std.proofs.lemmas.Option.{slice_get_read, slice_get_within}
use Rattle.cycle_sim.specs.Sims.{bits_at}
use Rattle.cycle_sim.proofs.Lines.{value_bits}
use Rattle.cycle_sim.proofs.Orders.{register_at, registered_at, next_within, net_within, gathered_same, gathered_more}
use Rattle.cycle_sim.proofs.order.gather.Goals as goal
use Rattle.cycle_sim.proofs.order.gather.Goals.{then-bits, else-bits}

pub bounds-nets-register : goal.bounds-nets-register
bounds-nets-register c =
    let at = registered_at c.args.registers.now c.loop-register.register-index c.loop-register-test.true in
    next_within c.args.module.now c.requires.module c.args.registers.now c.requires.registers c.args.nets.now c.requires.nets c.loop-register.register-index (register_at c.args.registers.now c.loop-register.register-index) at

pub bounds-nets-register-in-loop-register : goal.bounds-nets-register-in-loop-register
bounds-nets-register-in-loop-register c =
    let at = registered_at c.args.registers.now c.loop-register.register-index c.loop-register-test.true in
    net_within c.args.module.now c.args.registers.now c.requires.registers c.args.nets.now c.requires.nets c.loop-register.register-index (register_at c.args.registers.now c.loop-register.register-index) at

pub loop-register-preserved : goal.loop-register-preserved
loop-register-preserved c =
    let register = register_at c.args.registers.now c.loop-register.register-index in
    let at = registered_at c.args.registers.now c.loop-register.register-index c.loop-register-test.true in
    let next_lt = next_within c.args.module.now c.requires.module c.args.registers.now c.requires.registers c.args.nets.now c.requires.nets c.loop-register.register-index register at in
    let net_lt = net_within c.args.module.now c.args.registers.now c.requires.registers c.args.nets.now c.requires.nets c.loop-register.register-index register at in
    let next : c.bits.result ≡ bits_at c.args.nets.now register.next = c.bits.ensures.value ∙ value_bits c.args.module.now.lines c.args.nets.now register.next _ c.requires.nets (omega (arith, next_lt, c.requires.nets.count)) c.index-nets-register.is in
    let own : c.bits-in-loop-register.result ≡ bits_at c.args.nets.now register.net =
    c.bits-in-loop-register.ensures.value ∙ value_bits c.args.module.now.lines c.args.nets.now register.net _ c.requires.nets (omega (arith, net_lt, c.requires.nets.count)) c.index-nets-register-in-loop-register.is in
    elim c.if-bits.branch [
      | then-bits w ↦ rw (w.changes-is, w.count-is) (gathered_more c.args.registers.now c.args.nets.now c.loop-register.changes c.loop-register.count c.loop-register.register-index register _ c.loop-register.invariant at refl
          (slice_get_read c.args.nets.now (length c.args.nets.now) register.next c.index-nets-register.result refl next_lt c.index-nets-register.is))
      | else-bits w ↦ rw (w.changes-is, w.count-is) (gathered_same c.args.registers.now c.args.nets.now c.loop-register.changes c.loop-register.count c.loop-register.register-index register c.loop-register.invariant at
          (sym own ∙ sym w.if-bits.false ∙ next))
    ]

pub returns-clause-others : goal.returns-clause-others
returns-clause-others c j register at =
    let lt = slice_get_within c.args.registers.now j register at in
    c.loop-register.invariant.others j register (omega (arith, lt, c.loop-register-test.false)) at
