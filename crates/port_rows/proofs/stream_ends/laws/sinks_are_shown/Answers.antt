use Rattle.port_rows.proofs.stream_ends.Shown.{sink_shown, sink_fits}
use Rattle.port_rows.proofs.stream_ends.laws.sinks_are_shown.Goals as goal

pub returns-clause-shown : goal.returns-clause-shown
returns-clause-shown c system netlist run cycle row = sink_shown system netlist run cycle row c.inputs_are_driven.ensures.shown

pub returns-clause-room : goal.returns-clause-room
returns-clause-room c system row = sink_fits system row c.inputs_are_driven.ensures.room
