use Rattle.std.proofs.Common.{◌≡◌, ◌<◌, length, slice_get, Some, inl, inr, refl, sym, subst, arith}
use Rattle.std.proofs.lemmas.Option.{slice_get_read, slice_get_within}
use Rattle.cycle_sim.proofs.Blocks.{stay_same}
use Rattle.cycle_sim.proofs.Orders.{taken_more, taken_all}
use Rattle.cycle_sim.proofs.nets.take_next.Goals as goal

pub loop-place-init : goal.loop-place-init
loop-place-init c = record {
  are_nets = c.requires.nets;
  stay = stay_same c.args.stale.now;
  settled = λ words s. s;
  taken = λ i register at. elim (c.gather-count.ensures.others i register at) [
    | inl h ↦ inl (record { place = h.place; change = h.change; from = omega arith; before = h.before; is = h.is; net = h.net })
    | inr same ↦ inr same
  ];
  others = λ n line at r. refl;
}

pub put-requires-clause-net_is : goal.put-requires-clause-net_is
put-requires-clause-net_is c =
    let within : c.loop-place.place < length c.gather-count.new.changes = omega (arith, c.loop-place-test.true, c.gather-count.ensures.count) in
    let at : slice_get c.gather-count.new.changes c.loop-place.place ≡ Some c.index-changes-place.result = slice_get_read c.gather-count.new.changes (length c.gather-count.new.changes) c.loop-place.place c.index-changes-place.result refl within c.index-changes-place.is in
    let its = c.gather-count.ensures.each c.loop-place.place c.index-changes-place.result c.loop-place-test.true at in
    let from = c.requires.registers.each its.place its.register its.is in
    subst (λ n. n < length c.args.module.now.lines) (sym its.net) (slice_get_within c.args.module.now.lines its.register.net from.line from.is)

pub loop-place-preserved : goal.loop-place-preserved
loop-place-preserved c =
    let within : c.loop-place.place < length c.gather-count.new.changes = omega (arith, c.loop-place-test.true, c.gather-count.ensures.count) in
    let at : slice_get c.gather-count.new.changes c.loop-place.place ≡ Some c.index-changes-place.result = slice_get_read c.gather-count.new.changes (length c.gather-count.new.changes) c.loop-place.place c.index-changes-place.result refl within c.index-changes-place.is in
    rw c.put.ensures.value (taken_more c.args.module.now c.requires.module c.args.readers.now.of_nets c.requires.readers.nets c.args.registers.now c.requires.registers c.gather-count.new.changes c.gather-count.result c.args.nets.now c.loop-place.nets c.requires.nets
    c.args.stale.now c.loop-place.stale c.put.new.stale c.loop-place.place c.index-changes-place.result c.loop-place.invariant at (c.gather-count.ensures.each c.loop-place.place c.index-changes-place.result c.loop-place-test.true at) c.put.ensures.stay c.put.ensures.stale)

pub returns-clause-taken : goal.returns-clause-taken
returns-clause-taken c =
    taken_all c.args.module.now c.args.registers.now c.requires.registers c.gather-count.new.changes c.gather-count.result c.args.nets.now c.loop-place.nets c.args.stale.now c.loop-place.stale c.loop-place.place
    (omega (arith, c.loop-place-test.false)) c.loop-place.invariant
