use Rattle.std.proofs.Common.{◌++◌, ◌≤◌, true, false, codes, arith}
use Rattle.vcd_text.specs.Sinks.{written_by}
use Rattle.vcd_text.specs.Text.{scope_text, ports_text}
use Rattle.vcd_text.proofs.Puts.{cut_front, puts_behind}
use Rattle.vcd_text.proofs.put.put_head.Goals as goal

pub returns-then-not-put_scope-clause-puts : goal.returns-then-not-put_scope-clause-puts
returns-then-not-put_scope-clause-puts g c =
    let one = scope_text c.args.name.now in
    let two = ports_text 0 c.args.ports.now in
    let written = written_by g.K.Sink.held g.K.Sink.faults c.args.sink.now c.put_scope.new.sink in
    cut_front (one ++ two) (codes "$upscope $end\n$enddefinitions $end\n") written (cut_front one two written c.if-not-put_scope.ensures.puts)

pub returns-then-not-put_ports-clause-puts : goal.returns-then-not-put_ports-clause-puts
returns-then-not-put_ports-clause-puts g c =
    let one = scope_text c.args.name.now in
    let two = ports_text 0 c.args.ports.now in
    cut_front (one ++ two) (codes "$upscope $end\n$enddefinitions $end\n") (written_by g.K.Sink.held g.K.Sink.faults c.args.sink.now c.put_ports.new.sink)
    (puts_behind g.K.Sink.held g.K.Sink.faults c.args.sink.now c.put_scope.new.sink c.put_ports.new.sink one two false c.if-not-put_scope.ensures.puts c.if-not-put_scope.ensures.grows c.if-not-put_ports.ensures.puts)

pub returns-clause-puts : goal.returns-clause-puts
returns-clause-puts g c =
    let one = scope_text c.args.name.now in
    let two = ports_text 0 c.args.ports.now in
    let grows : g.K.Sink.faults c.args.sink.now ≤ g.K.Sink.faults c.put_ports.new.sink = omega (arith, c.if-not-put_scope.ensures.grows, c.if-not-put_ports.ensures.grows) in
    puts_behind g.K.Sink.held g.K.Sink.faults c.args.sink.now c.put_ports.new.sink c.put.new.sink (one ++ two) (codes "$upscope $end\n$enddefinitions $end\n") c.put.result
    (puts_behind g.K.Sink.held g.K.Sink.faults c.args.sink.now c.put_scope.new.sink c.put_ports.new.sink one two true c.if-not-put_scope.ensures.puts c.if-not-put_scope.ensures.grows c.if-not-put_ports.ensures.puts)
    grows c.put.ensures.puts
