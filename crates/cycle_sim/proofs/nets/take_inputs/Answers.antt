use Rattle.std.proofs.Common.{◌≡◌, length, slice_get, Some, refl, ◌∙◌, arith}
use Rattle.std.proofs.lemmas.Option.{slice_get_read}
use Rattle.cycle_sim.proofs.Steps.{input_within, input_width, inputs_more, inputs_all}
use Rattle.cycle_sim.proofs.nets.take_inputs.Goals as goal

pub overflow_cast-net : goal.overflow_cast-net
overflow_cast-net c =
    let lt = input_within c.args.module.now c.requires.module c.args.inputs.now c.requires.inputs c.loop-net.net c.loop-net-test.true in
    omega (arith, lt, c.requires.module.well_made.few)

pub width-requires-in-loop-net : goal.width-requires-in-loop-net
width-requires-in-loop-net c = input_within c.args.module.now c.requires.module c.args.inputs.now c.requires.inputs c.loop-net.net c.loop-net-test.true

pub put-requires-clause-net_is : goal.put-requires-clause-net_is
put-requires-clause-net_is c = input_within c.args.module.now c.requires.module c.args.inputs.now c.requires.inputs c.loop-net.net c.loop-net-test.true

pub prove-unreachable-requires : goal.prove-unreachable-requires
prove-unreachable-requires c =
    let at : slice_get c.args.inputs.now c.loop-net.net ≡ Some c.index-inputs-net.result = slice_get_read c.args.inputs.now (length c.args.inputs.now) c.loop-net.net c.index-inputs-net.result refl c.loop-net-test.true c.index-inputs-net.is in
    c.if-prove.true (c.width.ensures.value ∙ input_width c.args.module.now c.requires.module c.args.inputs.now c.requires.inputs c.loop-net.net c.index-inputs-net.result at c.width-in-loop-net.result c.width-in-loop-net.ensures)

pub loop-net-preserved : goal.loop-net-preserved
loop-net-preserved c =
    let at : slice_get c.args.inputs.now c.loop-net.net ≡ Some c.index-inputs-net.result = slice_get_read c.args.inputs.now (length c.args.inputs.now) c.loop-net.net c.index-inputs-net.result refl c.loop-net-test.true c.index-inputs-net.is in
    rw c.put.ensures.value (inputs_more c.args.module.now c.requires.module c.args.readers.now.of_nets c.requires.readers.nets c.args.inputs.now c.args.nets.now c.loop-net.nets c.requires.inputs c.args.stale.now c.loop-net.stale c.put.new.stale c.loop-net.net
    c.index-inputs-net.result c.loop-net.invariant at c.width.ensures.word c.put.ensures.stay c.put.ensures.stale)

pub returns-clause-inputs : goal.returns-clause-inputs
returns-clause-inputs c k w i =
    inputs_all c.args.module.now c.requires.module c.args.inputs.now c.args.nets.now c.loop-net.nets c.requires.inputs c.args.stale.now c.loop-net.stale c.loop-net.net (omega (arith, c.loop-net-test.false)) c.loop-net.invariant k w i
