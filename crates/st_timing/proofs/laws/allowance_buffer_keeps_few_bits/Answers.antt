use Rattle.std.proofs.Common.{arith}
use Rattle.st_timing.proofs.FewBits.{allowance_few}
use Rattle.st_timing.proofs.laws.allowance_buffer_keeps_few_bits.Goals as goal

pub returns : goal.returns
returns c kept old new keeps longer =
    let some = c.args.buffer.some in
    let larger = c.args.buffer.larger in
    allowance_few c.stored_queue_keeps_few_bits.ensures kept c.args.buffer.allowance old new (omega (arith, some, larger)) c.args.buffer.few keeps longer
