use Rattle.std.proofs.Common.{sym}
use Rattle.verilog_writer.proofs.TextLemmas.{written_thrice, clock_line-parts}
use Rattle.verilog_writer.proofs.put_clock.Goals as goal

pub returns : goal.returns
returns c =
    let parts = clock_line-parts c.args.net c.args.reset.width c.args.reset.bits c.args.next in
    written_thrice _ _ _ _ _ _ _ _ c.in_ok-write.ensures.bytes c.in_ok-put_constant.ensures c.in_ok-write-2.ensures.bytes (sym parts)
