use Rattle.memory_links.proofs.Chain.{chain_is_link}
use Rattle.memory_links.proofs.rows.chain_is_a_link.Goals as goal

pub returns : goal.returns
returns c = λ first second up middle down end. chain_is_link c.rows_compose.ensures.upper c.rows_compose.ensures.lower c.rows_compose.ensures.both up middle down end first second
