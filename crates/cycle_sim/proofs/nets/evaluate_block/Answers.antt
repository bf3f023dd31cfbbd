use Rattle.std.proofs.Common.{◌∙◌, arith}
use Rattle.cycle_sim.proofs.Values.{width_at-line}
use Rattle.cycle_sim.proofs.Settling.{settled_block}
use Rattle.cycle_sim.proofs.Steps.{evaluated_more}
use Rattle.cycle_sim.proofs.nets.evaluate_block.Goals as goal

pub prove-unreachable-requires : goal.prove-unreachable-requires
prove-unreachable-requires c =
    let at = width_at-line c.args.module.now.lines c.loop-net.net c.width-in-loop-net.result c.width-in-loop-net.ensures in
    c.if-prove.true (c.width.ensures.value ∙ (c.value_in-value.ensures at.0 at.1).width ∙ at.2)

pub loop-net-preserved : goal.loop-net-preserved
loop-net-preserved c =
    rw c.put.ensures.value (evaluated_more c.args.module.now c.requires.module c.args.readers.now.of_nets c.requires.readers.nets c.args.cells.now.words.items c.args.nets.now c.loop-net.nets c.loop-net.net c.value_in-value.result
    c.loop-net.stale c.put.new.stale (omega (arith, c.loop-net-test.true, c.min-net-end.ensures, c.net_count.ensures.count)) c.loop-net.invariant c.width.ensures.word c.value_in-value.ensures c.put.ensures.stay c.put.ensures.stale)

pub returns-clause-settled : goal.returns-clause-settled
returns-clause-settled c =
    settled_block c.args.module.now c.loop-net.nets c.args.cells.now.words.items c.loop-net.stale c.args.block c.loop-net.net
    (omega (arith, c.requires.block_is, c.loop-net.invariant.settled.count)) (λ n lt within. omega (arith, c.loop-net-test.false, c.min-net-end.ensures, c.net_count.ensures.count)) c.loop-net.invariant.settled
