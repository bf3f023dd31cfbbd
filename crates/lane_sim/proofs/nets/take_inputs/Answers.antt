use Rattle.std.proofs.Common.{◌≡◌, ℕ, List, ◌+◌, ◌<◌, length, slice_get, Some, refl, sym, subst, ap, ◌∙◌, arith}
use Rattle.std.proofs.lemmas.Option.{slice_get_read}
use Rattle.av_base.specs.Word.{Word}
use Rattle.lane_sim.specs.LaneWords.{LaneWord, value_at}
use Rattle.cycle_sim.specs.Sims.{AreInputs}
use Rattle.lane_sim.specs.LaneSims.{lane_words}
use Rattle.lane_sim.proofs.LaneLists.{first, lane_count, lane_at, lane_set, lane_widths}
use Rattle.lane_sim.proofs.Steps.{AreInputsTaken, input_within, input_width, inputs_none, inputs_more, inputs_all}
use Rattle.lane_sim.proofs.nets.take_inputs.Goals as goal

pub overflow_cast-net : goal.overflow_cast-net
overflow_cast-net c =
    let lt = input_within c.args.module.now c.requires.module (lane_words 0 c.args.inputs.now) (lane_widths 0 c.args.inputs.now ∙ c.requires.inputs) c.loop-net.net (omega (arith, c.loop-net-test.true, lane_count 0 c.args.inputs.now)) in
    omega (arith, lt, c.requires.module.well_made.few)

pub width-requires-in-loop-net : goal.width-requires-in-loop-net
width-requires-in-loop-net c =
    input_within c.args.module.now c.requires.module (lane_words 0 c.args.inputs.now) (lane_widths 0 c.args.inputs.now ∙ c.requires.inputs) c.loop-net.net (omega (arith, c.loop-net-test.true, lane_count 0 c.args.inputs.now))

pub put-requires-clause-net_is : goal.put-requires-clause-net_is
put-requires-clause-net_is c =
    input_within c.args.module.now c.requires.module (lane_words 0 c.args.inputs.now) (lane_widths 0 c.args.inputs.now ∙ c.requires.inputs) c.loop-net.net (omega (arith, c.loop-net-test.true, lane_count 0 c.args.inputs.now))

pub put-requires-clause-nets : goal.put-requires-clause-nets
put-requires-clause-nets c = sym (lane_count 0 c.loop-net.nets) ∙ (c.loop-net.invariant 0 first).are_nets.count

pub put-requires-clause-stale : goal.put-requires-clause-stale
put-requires-clause-stale c = (c.loop-net.invariant 0 first).stay.count ∙ c.requires.stale

pub prove-unreachable-requires : goal.prove-unreachable-requires
prove-unreachable-requires c =
    let at : slice_get c.args.inputs.now c.loop-net.net ≡ Some c.index-inputs-net.result = slice_get_read c.args.inputs.now (length c.args.inputs.now) c.loop-net.net c.index-inputs-net.result refl c.loop-net-test.true c.index-inputs-net.is in
    c.if-prove.true (c.width.ensures.value ∙ input_width c.args.module.now c.requires.module (lane_words 0 c.args.inputs.now) (lane_widths 0 c.args.inputs.now ∙ c.requires.inputs) c.loop-net.net (value_at c.index-inputs-net.result 0)
    (lane_at 0 c.args.inputs.now c.loop-net.net c.index-inputs-net.result at) c.width-in-loop-net.result c.width-in-loop-net.ensures)

pub loop-net-init : goal.loop-net-init
loop-net-init c j lt = inputs_none c.args.module.now (lane_words j c.args.inputs.now) (lane_words j c.args.nets.now) c.args.stale.now (c.requires.nets j lt)

pub loop-net-preserved : goal.loop-net-preserved
loop-net-preserved c j lt =
    let at : slice_get c.args.inputs.now c.loop-net.net ≡ Some c.index-inputs-net.result = slice_get_read c.args.inputs.now (length c.args.inputs.now) c.loop-net.net c.index-inputs-net.result refl c.loop-net-test.true c.index-inputs-net.is in
    let e = ap (lane_words j) c.put.ensures.value ∙ lane_set j c.loop-net.nets c.loop-net.net c.index-inputs-net.result in
    let sound = c.width.ensures.word in
    subst (λ (ns : List Word). AreInputsTaken c.args.module.now (lane_words j c.args.inputs.now) (lane_words j c.args.nets.now) ns c.args.stale.now c.put.new.stale (c.loop-net.net + 1)) (sym e)
    (inputs_more c.args.module.now c.requires.module c.args.readers.now.of_nets c.requires.readers.nets (lane_words j c.args.inputs.now) (lane_words j c.args.nets.now) (lane_words j c.loop-net.nets) (lane_widths j c.args.inputs.now ∙ c.requires.inputs) c.args.stale.now c.loop-net.stale c.put.new.stale c.loop-net.net
    (value_at c.index-inputs-net.result j) (c.loop-net.invariant j lt) (lane_at j c.args.inputs.now c.loop-net.net c.index-inputs-net.result at) (record { some_bit = sound.some_bit; small = sound.small; fits = sound.fits j lt }) c.put.ensures.stay (c.put.ensures.stale j lt))

pub returns-clause-nets : goal.returns-clause-nets
returns-clause-nets c j lt = (c.loop-net.invariant j lt).are_nets

pub returns-clause-stay : goal.returns-clause-stay
returns-clause-stay c = (c.loop-net.invariant 0 first).stay

pub returns-clause-settled : goal.returns-clause-settled
returns-clause-settled c j lt = (c.loop-net.invariant j lt).settled

pub returns-clause-inputs : goal.returns-clause-inputs
returns-clause-inputs c j lt k w i =
    inputs_all c.args.module.now c.requires.module (lane_words j c.args.inputs.now) (lane_words j c.args.nets.now) (lane_words j c.loop-net.nets) (lane_widths j c.args.inputs.now ∙ c.requires.inputs) c.args.stale.now c.loop-net.stale c.loop-net.net
    (omega (arith, c.loop-net-test.false, lane_count j c.args.inputs.now)) (c.loop-net.invariant j lt) k w i

pub returns-clause-registers : goal.returns-clause-registers
returns-clause-registers c j lt = (c.loop-net.invariant j lt).registers
