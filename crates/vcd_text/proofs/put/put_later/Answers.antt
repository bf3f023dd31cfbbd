use Rattle.std.proofs.Common.{◌++◌, Bool, cond, [], ap}
use Rattle.vcd_text.specs.Sinks.{written_by}
use Rattle.vcd_text.specs.Text.{time_line, changes_text, later_text}
use Rattle.vcd_text.proofs.Puts.{puts_as, puts_behind}
use Rattle.vcd_text.proofs.put.put_later.Goals as goal

pub returns-clause-puts : goal.returns-clause-puts
returns-clause-puts g c =
    let time = time_line c.args.time in
    let changes = changes_text 0 c.args.before.now c.args.now.now in
    puts_as (time ++ changes) (later_text c.args.time c.args.before.now c.args.now.now) (written_by g.K.Sink.held g.K.Sink.faults c.args.sink.now c.put_changes.new.sink) c.put_changes.result
    (ap (λ (b : Bool). cond b (time ++ changes) []) c.if-not-some_change.ensures)
    (puts_behind g.K.Sink.held g.K.Sink.faults c.args.sink.now c.put_time.new.sink c.put_changes.new.sink time changes c.put_changes.result c.if-not-put_time.ensures.puts c.if-not-put_time.ensures.grows c.put_changes.ensures.puts)
