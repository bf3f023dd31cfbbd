use Rattle.std.proofs.Common.{◌≡◌, ◌*◌, ◌<◌, false, length, slice_get, Some, refl, ap, ◌∙◌, arith}
use Rattle.std.proofs.lemmas.Option.{slice_get-get_or}
use Rattle.cycle_sim.proofs.Blocks.{block_ends}
use Rattle.cycle_sim.proofs.Evaluation.{valuation}
use Rattle.cycle_sim.proofs.Settling.{settled_pass}
use Rattle.cycle_sim.proofs.Steps.{evaluated_block}
use Rattle.cycle_sim.proofs.nets.evaluate.Goals as goal
use Rattle.cycle_sim.proofs.nets.evaluate.Goals.{then-stale-block, else-stale-block}

pub loop-block-init : goal.loop-block-init
loop-block-init c = record {
  are_nets = c.take_inputs.ensures.nets;
  settled = c.take_inputs.ensures.settled c.args.cells.now.words.items c.requires.settled;
  inputs_are = c.take_inputs.ensures.inputs;
  registers = λ n line at r. refl;
}

pub loop-block-preserved : goal.loop-block-preserved
loop-block-preserved c = elim c.if-stale-block.branch [
  | then-stale-block w ↦ rw (w.nets-is, w.stale-is) (evaluated_block c.args.module.now c.requires.module c.args.inputs.now c.args.cells.now.words.items c.take_inputs.new.nets c.loop-block.nets w.evaluate_block.new.nets
      c.loop-block.stale w.evaluate_block.new.stale c.loop-block.block c.loop-block.invariant w.evaluate_block.ensures.nets w.evaluate_block.ensures.state w.evaluate_block.ensures.settled)
  | else-stale-block w ↦
      (let lt : c.loop-block.block < length c.loop-block.stale = omega (arith, c.loop-block-test.true, c.block_count-block-end.ensures, c.loop-block.invariant.settled.count) in
      let fresh : slice_get c.loop-block.stale c.loop-block.block ≡ Some false = slice_get-get_or c.loop-block.stale c.loop-block.block false lt ∙ ap Some w.if-stale-block.false in
      rw (w.nets-is, w.stale-is) (evaluated_block c.args.module.now c.requires.module c.args.inputs.now c.args.cells.now.words.items c.take_inputs.new.nets c.loop-block.nets c.loop-block.nets
      c.loop-block.stale c.loop-block.stale c.loop-block.block c.loop-block.invariant c.loop-block.invariant.are_nets (λ n line at s. refl)
      (settled_pass c.args.module.now c.loop-block.nets c.args.cells.now.words.items c.loop-block.stale c.loop-block.block fresh c.loop-block.invariant.settled)))
]

pub returns-clause-valuation : goal.returns-clause-valuation
returns-clause-valuation c =
    let ends = block_ends (length c.args.module.now.lines) in
    valuation c.args.module.now c.args.cells.now.words.items c.loop-block.nets c.loop-block.stale (c.loop-block.block * 8) c.requires.module c.requires.words c.loop-block.invariant.are_nets
    (omega (arith, ends, c.loop-block-test.false, c.block_count-block-end.ensures)) c.loop-block.invariant.settled
