use Rattle.memory_machines.proofs.Rows.{upper_row, lower_row, both_words, wider_row}
use Rattle.memory_machines.proofs.links.rows_compose.Goals as goal

pub returns-clause-upper : goal.returns-clause-upper
returns-clause-upper c = λ p end rows between. upper_row p.target p.first_hold p.second_hold p.up p.middle p.down end between rows.first rows.second

pub returns-clause-lower : goal.returns-clause-lower
returns-clause-lower c = λ p end rows between. lower_row p.target p.first_hold p.second_hold p.up p.middle p.down end between rows.first rows.second

pub returns-clause-both : goal.returns-clause-both
returns-clause-both c = λ p end rows between. both_words p.target p.first_hold p.second_hold p.up p.middle p.down end between rows.first rows.second

pub returns-clause-wider : goal.returns-clause-wider
returns-clause-wider c = wider_row
