use Rattle.std.proofs.Common.{◌<◌, length, arith}
use Rattle.verilog_writer.proofs.TextLemmas.{written_more, clocked_step, item_at}
use Rattle.verilog_writer.proofs.put_clocked_lines.Goals as goal

pub loop-net-preserved : goal.loop-net-preserved
loop-net-preserved c =
    let lines = c.args.module.now.lines in
    let n = c.loop-net.net in
    let inside : n < length lines = omega (arith, c.net_count-net-end.ensures.count) in
    let item = item_at lines n inside in
    written_more _ _ _ _ _ _ (c.in_ok-put_clocked.ensures item.0 item.1) (clocked_step lines n item.0 item.1) c.loop-net.invariant
