use Rattle.std.proofs.Common.{◌≡◌, ℕ, ◌*◌, ◌+◌, ◌<◌, false, List, length, slice_get, Some, refl, sym, subst, ap, ◌∙◌, arith}
use Rattle.std.proofs.lemmas.Option.{slice_get-get_or}
use Rattle.lane_sim.specs.LaneSims.{cells_at, lane_words}
use Rattle.lane_sim.proofs.LaneLists.{first}
use Rattle.lane_sim.proofs.Blocks.{block_ends}
use Rattle.lane_sim.proofs.Evaluation.{valuation}
use Rattle.lane_sim.proofs.Settling.{settled_pass, settled_again}
use Rattle.lane_sim.proofs.Steps.{evaluated_block}
use Rattle.lane_sim.proofs.nets.evaluate.Goals as goal
use Rattle.lane_sim.proofs.nets.evaluate.Goals.{then-stale-block, else-stale-block}

pub take_inputs-requires-clause-stale : goal.take_inputs-requires-clause-stale
take_inputs-requires-clause-stale c = (c.requires.settled 0 first).count

pub loop-block-init : goal.loop-block-init
loop-block-init c j lt = record {
  are_nets = c.take_inputs.ensures.nets j lt;
  settled = c.take_inputs.ensures.settled j lt (cells_at c.args.cells.now j).words (c.requires.settled j lt);
  inputs_are = c.take_inputs.ensures.inputs j lt;
  registers = λ n line at r. refl;
}

pub bounds-stale-block : goal.bounds-stale-block
bounds-stale-block c = omega (arith, c.loop-block-test.true, c.block_count-block-end.ensures, (c.loop-block.invariant 0 first).settled.count)

pub evaluate_block-requires-clause-nets : goal.evaluate_block-requires-clause-nets
evaluate_block-requires-clause-nets c j lt = (c.loop-block.invariant j lt).are_nets

pub evaluate_block-requires-clause-settled : goal.evaluate_block-requires-clause-settled
evaluate_block-requires-clause-settled c j lt = (c.loop-block.invariant j lt).settled

pub loop-block-preserved : goal.loop-block-preserved
loop-block-preserved c j lt = elim c.if-stale-block.branch [
  | then-stale-block w ↦ rw (w.nets-is, w.stale-is) (evaluated_block c.args.module.now c.requires.module (lane_words j c.args.inputs.now) (cells_at c.args.cells.now j).words (lane_words j c.take_inputs.new.nets) (lane_words j c.loop-block.nets)
      (lane_words j w.evaluate_block.new.nets) c.loop-block.stale w.evaluate_block.new.stale c.loop-block.block (c.loop-block.invariant j lt) (w.evaluate_block.ensures.nets j lt) (w.evaluate_block.ensures.state j lt) (w.evaluate_block.ensures.settled j lt))
  | else-stale-block w ↦
      (let within : c.loop-block.block < length c.loop-block.stale = omega (arith, c.loop-block-test.true, c.block_count-block-end.ensures, (c.loop-block.invariant j lt).settled.count) in
      let fresh : slice_get c.loop-block.stale c.loop-block.block ≡ Some false = slice_get-get_or c.loop-block.stale c.loop-block.block false within ∙ ap Some w.if-stale-block.false in
      rw (w.nets-is, w.stale-is) (evaluated_block c.args.module.now c.requires.module (lane_words j c.args.inputs.now) (cells_at c.args.cells.now j).words (lane_words j c.take_inputs.new.nets) (lane_words j c.loop-block.nets) (lane_words j c.loop-block.nets)
      c.loop-block.stale c.loop-block.stale c.loop-block.block (c.loop-block.invariant j lt) (c.loop-block.invariant j lt).are_nets (λ n line at s. refl)
      (settled_pass c.args.module.now (lane_words j c.loop-block.nets) (cells_at c.args.cells.now j).words c.loop-block.stale c.loop-block.block fresh (c.loop-block.invariant j lt).settled)))
]

pub returns-clause-nets : goal.returns-clause-nets
returns-clause-nets c j lt = (c.loop-block.invariant j lt).are_nets

pub returns-clause-settled : goal.returns-clause-settled
returns-clause-settled c j lt = settled_again c.args.module.now (lane_words j c.loop-block.nets) (cells_at c.args.cells.now j).words c.loop-block.stale (c.loop-block.block * 8) (c.loop-block.invariant j lt).settled

pub returns-clause-valuation : goal.returns-clause-valuation
returns-clause-valuation c j lt =
    let ends = block_ends (length c.args.module.now.lines) in
    valuation c.args.module.now (cells_at c.args.cells.now j).words (lane_words j c.loop-block.nets) c.loop-block.stale (c.loop-block.block * 8) c.requires.module (c.requires.cells.each j lt).words (c.loop-block.invariant j lt).are_nets
    (omega (arith, ends, c.loop-block-test.false, c.block_count-block-end.ensures)) (c.loop-block.invariant j lt).settled

pub returns-clause-inputs : goal.returns-clause-inputs
returns-clause-inputs c j lt = (c.loop-block.invariant j lt).inputs_are

pub returns-clause-registers : goal.returns-clause-registers
returns-clause-registers c j lt n line at r = (c.loop-block.invariant j lt).registers n line at r ∙ c.take_inputs.ensures.registers j lt n line at r
