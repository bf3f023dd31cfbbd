use Rattle.std.proofs.Common.{◌+◌, ◌<◌, take, drop, length, arith}
use Rattle.vcd_text.specs.Text.{port_line, ports_text}
use Rattle.vcd_text.proofs.Puts.{loop_more, loop_cut, next_port, ports_cut}
use Rattle.vcd_text.proofs.put.put_ports.Goals as goal

pub returns-then-not-put_port-clause-puts : goal.returns-then-not-put_port-clause-puts
returns-then-not-put_port-clause-puts g c =
    let inside : c.ports.number < length c.args.ports.now = omega arith in
    loop_cut g.K.Sink.held g.K.Sink.faults c.args.sink.now c.ports.sink c.put_port.new.sink (ports_text 0 (take c.ports.number c.args.ports.now)) (port_line c.ports.number c.index-ports-number.result) (ports_text 0 (take (c.ports.number + 1) c.args.ports.now)) (ports_text (0 + (c.ports.number + 1)) (drop (c.ports.number + 1) c.args.ports.now)) (ports_text 0 c.args.ports.now)
    (next_port c.ports.number c.args.ports.now c.index-ports-number.result c.index-ports-number.is inside) (ports_cut 0 (c.ports.number + 1) c.args.ports.now) c.ports.invariant.0 c.ports.invariant.1 c.if-not-put_port.ensures.puts

pub returns-then-not-put_port-clause-below : goal.returns-then-not-put_port-clause-below
returns-then-not-put_port-clause-below g c = λ h. c.if-not-put_port.ensures.below (c.ports.invariant.2 h)

pub ports-preserved : goal.ports-preserved
ports-preserved g c =
    let inside : c.ports.number < length c.args.ports.now = omega arith in (
      loop_more g.K.Sink.held g.K.Sink.faults c.args.sink.now c.ports.sink c.put_port.new.sink (ports_text 0 (take c.ports.number c.args.ports.now)) (port_line c.ports.number c.index-ports-number.result) (ports_text 0 (take (c.ports.number + 1) c.args.ports.now)) (next_port c.ports.number c.args.ports.now c.index-ports-number.result c.index-ports-number.is inside) c.ports.invariant.0 c.ports.invariant.1 c.if-not-put_port.ensures.puts,
      omega (arith, c.ports.invariant.1, c.if-not-put_port.ensures.grows),
      λ h. c.if-not-put_port.ensures.below (c.ports.invariant.2 h),
    )

pub returns-clause-below : goal.returns-clause-below
returns-clause-below g c = c.ports.invariant.2
