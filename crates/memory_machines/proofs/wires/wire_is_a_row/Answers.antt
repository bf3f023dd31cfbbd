use Rattle.memory_machines.proofs.Rows.{wire_row, wire_words}
use Rattle.memory_machines.proofs.wires.wire_is_a_row.Goals as goal

pub returns-clause-row : goal.returns-clause-row
returns-clause-row c = wire_row

pub returns-clause-words : goal.returns-clause-words
returns-clause-words c = wire_words
