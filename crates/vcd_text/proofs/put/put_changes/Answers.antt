use Rattle.std.proofs.Common.{◌+◌, ◌<◌, take, drop, length, arith}
use Rattle.vcd_text.specs.Text.{change_line, changes_text}
use Rattle.vcd_text.proofs.Puts.{loop_more, loop_cut, next_change, changes_cut}
use Rattle.vcd_text.proofs.put.put_changes.Goals as goal

pub returns-then-not-put_change-clause-puts : goal.returns-then-not-put_change-clause-puts
returns-then-not-put_change-clause-puts g c =
    let inside : c.ports.port < length c.args.before.now = omega arith in
    loop_cut g.K.Sink.held g.K.Sink.faults c.args.sink.now c.ports.sink c.put_change.new.sink (changes_text 0 (take c.ports.port c.args.before.now) (take c.ports.port c.args.now.now)) (change_line c.ports.port c.index-before-port.result c.index-now-port.result) (changes_text 0 (take (c.ports.port + 1) c.args.before.now) (take (c.ports.port + 1) c.args.now.now)) (changes_text (0 + (c.ports.port + 1)) (drop (c.ports.port + 1) c.args.before.now) (drop (c.ports.port + 1) c.args.now.now)) (changes_text 0 c.args.before.now c.args.now.now)
    (next_change c.ports.port c.args.before.now c.args.now.now c.index-before-port.result c.index-now-port.result c.index-before-port.is c.index-now-port.is inside c.requires.same) (changes_cut 0 (c.ports.port + 1) c.args.before.now c.args.now.now c.requires.same) c.ports.invariant.0 c.ports.invariant.1 c.if-not-put_change.ensures.puts

pub returns-then-not-put_change-clause-below : goal.returns-then-not-put_change-clause-below
returns-then-not-put_change-clause-below g c = λ h. c.if-not-put_change.ensures.below (c.ports.invariant.2 h)

pub ports-preserved : goal.ports-preserved
ports-preserved g c =
    let inside : c.ports.port < length c.args.before.now = omega arith in (
      loop_more g.K.Sink.held g.K.Sink.faults c.args.sink.now c.ports.sink c.put_change.new.sink (changes_text 0 (take c.ports.port c.args.before.now) (take c.ports.port c.args.now.now)) (change_line c.ports.port c.index-before-port.result c.index-now-port.result) (changes_text 0 (take (c.ports.port + 1) c.args.before.now) (take (c.ports.port + 1) c.args.now.now)) (next_change c.ports.port c.args.before.now c.args.now.now c.index-before-port.result c.index-now-port.result c.index-before-port.is c.index-now-port.is inside c.requires.same) c.ports.invariant.0 c.ports.invariant.1 c.if-not-put_change.ensures.puts,
      omega (arith, c.ports.invariant.1, c.if-not-put_change.ensures.grows),
      λ h. c.if-not-put_change.ensures.below (c.ports.invariant.2 h),
    )

pub returns-clause-below : goal.returns-clause-below
returns-clause-below g c = c.ports.invariant.2
