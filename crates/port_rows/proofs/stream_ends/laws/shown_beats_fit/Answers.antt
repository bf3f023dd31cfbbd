use Rattle.std.proofs.Common.{None}
use Rattle.stand_ins.specs.StreamsSteps.{left_before, steps_of}
use Rattle.stand_ins.specs.Sources.{port_pace}
use Rattle.port_rows.proofs.stream_ends.Fitting.{script_fits, left_before_fits, next_fits}
use Rattle.port_rows.proofs.stream_ends.laws.shown_beats_fit.Goals as goal

pub returns : goal.returns
returns c port script view cycle may kept =
    next_fits port may (left_before (port_pace port) (steps_of script) view cycle) (left_before_fits port (port_pace port) (steps_of script) view cycle (script_fits port None script kept.follow))
