use Rattle.std.proofs.Common.{◌<◌, ◌≤◌, ◌^◌, take, true}
use Rattle.vcd_text.specs.Sinks.{Puts, written_by}
use Rattle.vcd_text.specs.Text.{values_text}
use Rattle.vcd_text.proofs.put.put_values.Given as goal

abbrev pub invariant-ports : goal.invariant-ports
invariant-ports g l = Puts (values_text 0 (take l.port l.row)) (written_by g.K.Sink.held g.K.Sink.faults l.initial.sink l.sink) true × (g.K.Sink.faults l.initial.sink ≤ g.K.Sink.faults l.sink) × (g.K.Sink.faults l.initial.sink < 2 ^ 64 → g.K.Sink.faults l.sink < 2 ^ 64)
