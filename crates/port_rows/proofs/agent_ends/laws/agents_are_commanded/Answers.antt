use Rattle.port_rows.proofs.agent_ends.Commanded.{never_read}
use Rattle.port_rows.proofs.agent_ends.laws.agents_are_commanded.Goals as goal

pub returns-clause-unread : goal.returns-clause-unread
returns-clause-unread c system netlist run cycle bytes = never_read c.outputs_are_those_of_nets.ensures system netlist run cycle
