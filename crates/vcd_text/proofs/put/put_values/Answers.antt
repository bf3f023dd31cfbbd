use Rattle.std.proofs.Common.{◌+◌, ◌<◌, take, drop, length, arith}
use Rattle.vcd_text.specs.Text.{value_line, values_text}
use Rattle.vcd_text.proofs.Puts.{loop_more, loop_cut, next_value, values_cut}
use Rattle.vcd_text.proofs.put.put_values.Goals as goal

pub returns-then-not-put_value-clause-puts : goal.returns-then-not-put_value-clause-puts
returns-then-not-put_value-clause-puts g c =
    let inside : c.ports.port < length c.args.row.now = omega arith in
    loop_cut g.K.Sink.held g.K.Sink.faults c.args.sink.now c.ports.sink c.put_value.new.sink (values_text 0 (take c.ports.port c.args.row.now)) (value_line c.ports.port c.index-row-port.result) (values_text 0 (take (c.ports.port + 1) c.args.row.now)) (values_text (0 + (c.ports.port + 1)) (drop (c.ports.port + 1) c.args.row.now)) (values_text 0 c.args.row.now)
    (next_value c.ports.port c.args.row.now c.index-row-port.result c.index-row-port.is inside) (values_cut 0 (c.ports.port + 1) c.args.row.now) c.ports.invariant.0 c.ports.invariant.1 c.if-not-put_value.ensures.puts

pub returns-then-not-put_value-clause-below : goal.returns-then-not-put_value-clause-below
returns-then-not-put_value-clause-below g c = λ h. c.if-not-put_value.ensures.below (c.ports.invariant.2 h)

pub ports-preserved : goal.ports-preserved
ports-preserved g c =
    let inside : c.ports.port < length c.args.row.now = omega arith in (
      loop_more g.K.Sink.held g.K.Sink.faults c.args.sink.now c.ports.sink c.put_value.new.sink (values_text 0 (take c.ports.port c.args.row.now)) (value_line c.ports.port c.index-row-port.result) (values_text 0 (take (c.ports.port + 1) c.args.row.now)) (next_value c.ports.port c.args.row.now c.index-row-port.result c.index-row-port.is inside) c.ports.invariant.0 c.ports.invariant.1 c.if-not-put_value.ensures.puts,
      omega (arith, c.ports.invariant.1, c.if-not-put_value.ensures.grows),
      λ h. c.if-not-put_value.ensures.below (c.ports.invariant.2 h),
    )

pub returns-clause-below : goal.returns-clause-below
returns-clause-below g c = c.ports.invariant.2
