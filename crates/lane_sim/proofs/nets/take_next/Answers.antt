use Rattle.std.proofs.Common.{◌≡◌, ℕ, List, ◌+◌, ◌<◌, length, slice_get, Some, inl, inr, refl, sym, subst, ap, ◌∙◌, arith}
use Rattle.std.proofs.lemmas.Option.{slice_get_read, slice_get_within}
use Rattle.av_base.specs.Word.{Word}
use Rattle.lane_sim.specs.LaneWords.{value_at}
use Rattle.lane_sim.specs.LaneSims.{lane_words}
use Rattle.lane_sim.specs.Changes.{lane_changes}
use Rattle.lane_sim.proofs.LaneLists.{first, lane_count, lane_set, change_at, lane_change}
use Rattle.lane_sim.proofs.Blocks.{stay_same}
use Rattle.lane_sim.proofs.Orders.{AreTaken, taken_more, taken_all}
use Rattle.lane_sim.proofs.nets.take_next.Goals as goal

pub loop-place-init : goal.loop-place-init
loop-place-init c j lt = record {
  are_nets = c.requires.nets j lt;
  stay = stay_same c.args.stale.now;
  settled = λ words s. s;
  taken = λ i register at. elim (c.gather-count.ensures.others j lt i register at) [
    | inl h ↦ inl (record { place = h.place; change = h.change; from = omega arith; before = h.before; is = h.is; net = h.net })
    | inr same ↦ inr same
  ];
  others = λ n line at r. refl;
}

pub put-requires-clause-net_is : goal.put-requires-clause-net_is
put-requires-clause-net_is c =
    let within : c.loop-place.place < length c.gather-count.new.changes = omega (arith, c.loop-place-test.true, c.gather-count.ensures.count) in
    let at : slice_get c.gather-count.new.changes c.loop-place.place ≡ Some c.index-changes-place.result = slice_get_read c.gather-count.new.changes (length c.gather-count.new.changes) c.loop-place.place c.index-changes-place.result refl within c.index-changes-place.is in
    let its = c.gather-count.ensures.each 0 first c.loop-place.place (lane_change 0 c.index-changes-place.result) c.loop-place-test.true (change_at 0 c.gather-count.new.changes c.loop-place.place c.index-changes-place.result at) in
    let from = c.requires.registers.each its.place its.register its.is in
    subst (λ n. n < length c.args.module.now.lines) (sym its.net) (slice_get_within c.args.module.now.lines its.register.net from.line from.is)

pub put-requires-clause-nets : goal.put-requires-clause-nets
put-requires-clause-nets c = sym (lane_count 0 c.loop-place.nets) ∙ (c.loop-place.invariant 0 first).are_nets.count

pub put-requires-clause-stale : goal.put-requires-clause-stale
put-requires-clause-stale c = (c.loop-place.invariant 0 first).stay.count ∙ c.requires.stale

pub loop-place-preserved : goal.loop-place-preserved
loop-place-preserved c j lt =
    let within : c.loop-place.place < length c.gather-count.new.changes = omega (arith, c.loop-place-test.true, c.gather-count.ensures.count) in
    let at : slice_get c.gather-count.new.changes c.loop-place.place ≡ Some c.index-changes-place.result = slice_get_read c.gather-count.new.changes (length c.gather-count.new.changes) c.loop-place.place c.index-changes-place.result refl within c.index-changes-place.is in
    let there = change_at j c.gather-count.new.changes c.loop-place.place c.index-changes-place.result at in
    let e = ap (lane_words j) c.put.ensures.value ∙ lane_set j c.loop-place.nets c.index-changes-place.result.net c.index-changes-place.result.value in
    subst (λ (ns : List Word). AreTaken c.args.module.now c.args.registers.now (lane_changes j c.gather-count.new.changes) c.gather-count.result (lane_words j c.args.nets.now) ns c.args.stale.now c.put.new.stale (c.loop-place.place + 1)) (sym e)
    (taken_more c.args.module.now c.requires.module c.args.readers.now.of_nets c.requires.readers.nets c.args.registers.now c.requires.registers (lane_changes j c.gather-count.new.changes) c.gather-count.result (lane_words j c.args.nets.now) (lane_words j c.loop-place.nets) (c.requires.nets j lt)
    c.args.stale.now c.loop-place.stale c.put.new.stale c.loop-place.place (lane_change j c.index-changes-place.result) (c.loop-place.invariant j lt) there (c.gather-count.ensures.each j lt c.loop-place.place (lane_change j c.index-changes-place.result) c.loop-place-test.true there) c.put.ensures.stay (c.put.ensures.stale j lt))

pub returns-clause-nets : goal.returns-clause-nets
returns-clause-nets c j lt = (c.loop-place.invariant j lt).are_nets

pub returns-clause-taken : goal.returns-clause-taken
returns-clause-taken c j lt =
    taken_all c.args.module.now c.args.registers.now c.requires.registers (lane_changes j c.gather-count.new.changes) c.gather-count.result (lane_words j c.args.nets.now) (lane_words j c.loop-place.nets) c.args.stale.now c.loop-place.stale c.loop-place.place
    (omega (arith, c.loop-place-test.false)) (c.loop-place.invariant j lt)

pub returns-clause-others : goal.returns-clause-others
returns-clause-others c j lt = (c.loop-place.invariant j lt).others

pub returns-clause-settled : goal.returns-clause-settled
returns-clause-settled c j lt = (c.loop-place.invariant j lt).settled
