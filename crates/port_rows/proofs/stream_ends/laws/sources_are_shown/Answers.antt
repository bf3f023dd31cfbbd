use Rattle.port_rows.proofs.stream_ends.Shown.{source_shown, source_fits}
use Rattle.port_rows.proofs.stream_ends.laws.sources_are_shown.Goals as goal

pub returns-clause-shown : goal.returns-clause-shown
returns-clause-shown c system netlist run cycle row = source_shown system netlist run cycle row c.inputs_are_driven.ensures.shown c.inputs_are_driven.ensures.each

pub returns-clause-room : goal.returns-clause-room
returns-clause-room c system row = source_fits system row c.inputs_are_driven.ensures.room c.inputs_are_driven.ensures.all
