use Rattle.memory_machines.proofs.Rows.{row_of_link}
use Rattle.memory_machines.proofs.links.link_is_a_row.Goals as goal

pub returns : goal.returns
returns c = row_of_link
