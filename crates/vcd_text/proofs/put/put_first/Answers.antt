use Rattle.std.proofs.Common.{◌++◌, ◌≤◌, true, false, codes, arith}
use Rattle.vcd_text.specs.Sinks.{written_by}
use Rattle.vcd_text.specs.Text.{values_text}
use Rattle.vcd_text.proofs.Puts.{cut_front, puts_behind}
use Rattle.vcd_text.proofs.put.put_first.Goals as goal

pub returns-then-not-put-clause-puts : goal.returns-then-not-put-clause-puts
returns-then-not-put-clause-puts g c =
    let one = codes "#0\n$dumpvars\n" in
    let two = values_text 0 c.args.row.now in
    let written = written_by g.K.Sink.held g.K.Sink.faults c.args.sink.now c.put.new.sink in
    cut_front (one ++ two) (codes "$end\n") written (cut_front one two written c.if-not-put.ensures.puts)

pub returns-then-not-put_values-clause-puts : goal.returns-then-not-put_values-clause-puts
returns-then-not-put_values-clause-puts g c =
    let one = codes "#0\n$dumpvars\n" in
    let two = values_text 0 c.args.row.now in
    cut_front (one ++ two) (codes "$end\n") (written_by g.K.Sink.held g.K.Sink.faults c.args.sink.now c.put_values.new.sink)
    (puts_behind g.K.Sink.held g.K.Sink.faults c.args.sink.now c.put.new.sink c.put_values.new.sink one two false c.if-not-put.ensures.puts c.if-not-put.ensures.grows c.if-not-put_values.ensures.puts)

pub returns-clause-puts : goal.returns-clause-puts
returns-clause-puts g c =
    let one = codes "#0\n$dumpvars\n" in
    let two = values_text 0 c.args.row.now in
    let grows : g.K.Sink.faults c.args.sink.now ≤ g.K.Sink.faults c.put_values.new.sink = omega (arith, c.if-not-put.ensures.grows, c.if-not-put_values.ensures.grows) in
    puts_behind g.K.Sink.held g.K.Sink.faults c.args.sink.now c.put_values.new.sink c.put-2.new.sink (one ++ two) (codes "$end\n") c.put-2.result
    (puts_behind g.K.Sink.held g.K.Sink.faults c.args.sink.now c.put.new.sink c.put_values.new.sink one two true c.if-not-put.ensures.puts c.if-not-put.ensures.grows c.if-not-put_values.ensures.puts)
    grows c.put-2.ensures.puts
