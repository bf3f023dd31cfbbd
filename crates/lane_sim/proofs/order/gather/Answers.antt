use Rattle.std.proofs.Common.{◌≡◌, ◌+◌, ◌<◌, List, length, refl, sym, subst, ◌∙◌, arith}
use Rattle.std.proofs.lemmas.Option.{slice_get_read, slice_get_within}
use Rattle.lane_sim.specs.LaneSims.{lane_words}
use Rattle.lane_sim.specs.declared.order.Change.{Change}
use Rattle.lane_sim.specs.Changes.{WordChange, lane_changes}
use Rattle.lane_sim.proofs.LaneLists.{first, lane_count, lane_at, lane_change, read_bits, change_count, change_set}
use Rattle.lane_sim.proofs.Orders.{AreGathered, register_at, registered_at, next_within, net_within, gathered_none, gathered_same, gathered_more}
use Rattle.lane_sim.proofs.order.gather.Goals as goal
use Rattle.lane_sim.proofs.order.gather.Goals.{then-not-is_same, else-not-is_same}

pub loop-register-init : goal.loop-register-init
loop-register-init c j lt = gathered_none c.args.registers.now (lane_words j c.args.nets.now) (lane_changes j c.args.changes.now) (change_count j c.args.changes.now ∙ c.requires.changes)

pub bounds-nets-register : goal.bounds-nets-register
bounds-nets-register c =
    let at = registered_at c.args.registers.now c.loop-register.register-index c.loop-register-test.true in
    let lt = next_within c.args.module.now c.requires.module c.args.registers.now c.requires.registers (lane_words 0 c.args.nets.now) (c.requires.nets 0 first) c.loop-register.register-index (register_at c.args.registers.now c.loop-register.register-index) at in
    omega (arith, lt, lane_count 0 c.args.nets.now)

pub bounds-nets-register-in-loop-register : goal.bounds-nets-register-in-loop-register
bounds-nets-register-in-loop-register c =
    let at = registered_at c.args.registers.now c.loop-register.register-index c.loop-register-test.true in
    let lt = net_within c.args.module.now c.args.registers.now c.requires.registers (lane_words 0 c.args.nets.now) (c.requires.nets 0 first) c.loop-register.register-index (register_at c.args.registers.now c.loop-register.register-index) at in
    omega (arith, lt, lane_count 0 c.args.nets.now)

pub bounds-changes-count : goal.bounds-changes-count
bounds-changes-count c =
    let h = c.loop-register.invariant 0 first in
    let few = h.few in
    let places = h.places in
    omega (arith, few, places, change_count 0 c.loop-register.changes, c.loop-register-test.true)

pub loop-register-preserved : goal.loop-register-preserved
loop-register-preserved c j lt =
    let register = register_at c.args.registers.now c.loop-register.register-index in
    let at = registered_at c.args.registers.now c.loop-register.register-index c.loop-register-test.true in
    let next_within : register.next < length c.args.nets.now = (let h = next_within c.args.module.now c.requires.module c.args.registers.now c.requires.registers (lane_words 0 c.args.nets.now) (c.requires.nets 0 first) c.loop-register.register-index register at in omega (arith, h, lane_count 0 c.args.nets.now)) in
    let own_within : register.net < length c.args.nets.now = (let h = net_within c.args.module.now c.args.registers.now c.requires.registers (lane_words 0 c.args.nets.now) (c.requires.nets 0 first) c.loop-register.register-index register at in omega (arith, h, lane_count 0 c.args.nets.now)) in
    let change : Change = record { net = register.net; value = c.index-nets-register.result } in
    elim c.if-not-is_same.branch [
      | then-not-is_same w ↦ rw (w.changes-is, w.count-is)
          (subst (λ (cs : List WordChange). AreGathered c.args.registers.now (lane_words j c.args.nets.now) cs (c.loop-register.count + 1) (c.loop-register.register-index + 1)) (sym (change_set j c.loop-register.changes c.loop-register.count change))
          (gathered_more c.args.registers.now (lane_words j c.args.nets.now) (lane_changes j c.loop-register.changes) c.loop-register.count c.loop-register.register-index register (lane_change j change) (c.loop-register.invariant j lt) at refl
          (lane_at j c.args.nets.now register.next c.index-nets-register.result (slice_get_read c.args.nets.now (length c.args.nets.now) register.next c.index-nets-register.result refl next_within c.index-nets-register.is))))
      | else-not-is_same w ↦ rw (w.changes-is, w.count-is)
          (gathered_same c.args.registers.now (lane_words j c.args.nets.now) (lane_changes j c.loop-register.changes) c.loop-register.count c.loop-register.register-index register (c.loop-register.invariant j lt) at
          (sym (read_bits j c.args.nets.now register.net c.index-nets-register-in-loop-register.result own_within c.index-nets-register-in-loop-register.is)
          ∙ sym (c.is_same.ensures.0 w.if-not-is_same.false j lt) ∙ read_bits j c.args.nets.now register.next c.index-nets-register.result next_within c.index-nets-register.is))
    ]

pub returns-clause-others : goal.returns-clause-others
returns-clause-others c j below i register at =
    let lt = slice_get_within c.args.registers.now i register at in
    (c.loop-register.invariant j below).others i register (omega (arith, lt, c.loop-register-test.false)) at
