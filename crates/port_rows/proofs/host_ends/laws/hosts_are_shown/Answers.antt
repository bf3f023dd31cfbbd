use Rattle.port_rows.proofs.host_ends.Shown.{host_shown, host_fits}
use Rattle.port_rows.proofs.host_ends.laws.hosts_are_shown.Goals as goal

pub returns-clause-shown : goal.returns-clause-shown
returns-clause-shown c system netlist run cycle row = host_shown system netlist run cycle row c.inputs_are_driven.ensures.shown c.inputs_are_driven.ensures.each

pub returns-clause-room : goal.returns-clause-room
returns-clause-room c system row = host_fits system row c.inputs_are_driven.ensures.room c.inputs_are_driven.ensures.all
