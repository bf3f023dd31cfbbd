use Rattle.port_rows.proofs.host_ends.Inputs.{input_shown, input_fits, each_stands, all_fit}
use Rattle.port_rows.proofs.host_ends.laws.inputs_are_driven.Goals as goal

pub returns-clause-shown : goal.returns-clause-shown
returns-clause-shown c system netlist run cycle row = input_shown system netlist run cycle row c.inputs_are_those_of_rows.ensures

pub returns-clause-room : goal.returns-clause-room
returns-clause-room c system row = input_fits system row c.inputs_have_places.ensures.there

pub returns-clause-each : goal.returns-clause-each
returns-clause-each c = each_stands

pub returns-clause-all : goal.returns-clause-all
returns-clause-all c = all_fit
