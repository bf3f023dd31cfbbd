use Rattle.st_timing.proofs.FewBits.{buffer_few}
use Rattle.st_timing.proofs.laws.buffer_keeps_few_bits.Goals as goal

pub returns : goal.returns
returns c kept old new some keeps longer =
    buffer_few c.stored_queue_keeps_few_bits.ensures kept c.args.buffer.latency old new some c.args.buffer.few keeps longer
