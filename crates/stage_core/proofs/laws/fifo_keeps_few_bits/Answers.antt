use Rattle.std.proofs.Common.{◌≤◌, arith}
use Rattle.stage_core.proofs.FewBits.{fifo_few}
use Rattle.stage_core.proofs.laws.fifo_keeps_few_bits.Goals as goal

pub returns : goal.returns
returns c kept old new some keeps longer =
    let byte = c.well_formed in
    let small : c.args.queue.depth ≤ 255 = omega (arith, byte) in
    fifo_few c.stored_queue_keeps_few_bits.ensures kept c.args.queue.depth old new some small keeps longer
