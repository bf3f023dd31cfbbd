use Rattle.port_rows.proofs.Shown.{row_shown}
use Rattle.port_rows.proofs.laws.inputs_are_those_of_rows.Goals as goal

pub returns : goal.returns
returns c system netlist run cycle row given end role absent input = row_shown system netlist run cycle row c.signals.ensures.input given end role absent input
