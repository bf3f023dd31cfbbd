use Rattle.std.proofs.Common.{◌++◌, ◌≤◌, true, false, arith}
use Rattle.vcd_text.specs.Sinks.{written_by}
use Rattle.vcd_text.proofs.Puts.{cut_front, puts_behind}
use Rattle.vcd_text.proofs.put.put_three.Goals as goal

pub returns-then-not-put-clause-puts : goal.returns-then-not-put-clause-puts
returns-then-not-put-clause-puts g c =
    let written = written_by g.K.Sink.held g.K.Sink.faults c.args.sink.now c.put.new.sink in
    cut_front (c.args.one.now ++ c.args.two.now) c.args.three.now written (cut_front c.args.one.now c.args.two.now written c.if-not-put.ensures.puts)

pub returns-then-not-put-2-clause-puts : goal.returns-then-not-put-2-clause-puts
returns-then-not-put-2-clause-puts g c =
    cut_front (c.args.one.now ++ c.args.two.now) c.args.three.now (written_by g.K.Sink.held g.K.Sink.faults c.args.sink.now c.put-2.new.sink)
    (puts_behind g.K.Sink.held g.K.Sink.faults c.args.sink.now c.put.new.sink c.put-2.new.sink c.args.one.now c.args.two.now false c.if-not-put.ensures.puts c.if-not-put.ensures.grows c.if-not-put-2.ensures.puts)

pub returns-clause-puts : goal.returns-clause-puts
returns-clause-puts g c =
    let grows : g.K.Sink.faults c.args.sink.now ≤ g.K.Sink.faults c.put-2.new.sink = omega (arith, c.if-not-put.ensures.grows, c.if-not-put-2.ensures.grows) in
    puts_behind g.K.Sink.held g.K.Sink.faults c.args.sink.now c.put-2.new.sink c.put-3.new.sink (c.args.one.now ++ c.args.two.now) c.args.three.now c.put-3.result
    (puts_behind g.K.Sink.held g.K.Sink.faults c.args.sink.now c.put.new.sink c.put-2.new.sink c.args.one.now c.args.two.now true c.if-not-put.ensures.puts c.if-not-put.ensures.grows c.if-not-put-2.ensures.puts)
    grows c.put-3.ensures.puts
